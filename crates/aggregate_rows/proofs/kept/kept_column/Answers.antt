use Rattle.std.proofs.Common.{◌≡◌, rules, subst}
use Rattle.block_summary.specs.Types.{cells_of_kind, numbers_of}
use Rattle.aggregate_rows.proofs.kept.kept_column.Goals as goal

pub returns : goal.returns
returns c =
    let cells = c.in_ok-column.column.now in
    let same : c.kind.result ≡ c.args.kind = search (rules, c.ne.ensures, c.if-ne.false) in
    record {
      column = c.in_ok-column.ensures;
      typed = subst (λ t. cells_of_kind t (numbers_of cells) ≡ cells) same c.kind.ensures;
    }
