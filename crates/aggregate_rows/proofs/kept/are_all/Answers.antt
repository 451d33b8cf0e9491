use Rattle.std.proofs.Common.{◌≡◌, ◌∙◌, ap, arith, length}
use Rattle.std.proofs.lemmas.Bool.{eqb-true}
use Rattle.row_columns.specs.Picked.{numbered}
use Rattle.row_selection.specs.Numbers.{numbers_from}
use Rattle.row_columns.proofs.NumberedLaws.{all_numbered}
use Rattle.aggregate_rows.proofs.kept.are_all.Goals as goal

pub returns-then-is_all : goal.returns-then-is_all
returns-then-is_all c = λ yes rows long.
    let as_many : length c.args.numbers.now ≡ length rows = omega (arith, c.len.ensures, eqb-true c.len.result c.args.len yes, long) in
    ap (λ ns. numbered ns rows) (c.is_all.ensures c.if-is_all.true ∙ ap (numbers_from 0) as_many) ∙ all_numbered rows
