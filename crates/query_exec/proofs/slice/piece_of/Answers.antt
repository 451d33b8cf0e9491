use Rattle.std.proofs.Common.{ap, sym, ◌∙◌}
use Rattle.query_plan.specs.Plan.{slice_view}
use Rattle.result_rows.specs.Rows.{RowsOf}
use Rattle.query_exec.proofs.SliceLemmas.{piece_is}
use Rattle.query_exec.proofs.slice.piece_of.Goals as goal

pub returns : goal.returns
returns c =
    let counted = c.count.ensures ∙ ap (λ (r : RowsOf). r.count) c.table.ensures.rows ∙ sym c.table.ensures.count in
    piece_is c.args.rows.rows c.args.most (slice_view c.args.slice) c.min-first.result c.saturating_sub-left.result c.min-top.result c.in_ok-piece.piece
    (rw (c.unwrap_or.ensures, c.len-len.ensures) at c.min-first.ensures) c.saturating_sub-left.ensures (rw c.unwrap_or-2.ensures at c.min-top.ensures)
    (rw (c.or-count.ensures, c.then_some.ensures, counted) at c.in_ok-piece.ensures)
