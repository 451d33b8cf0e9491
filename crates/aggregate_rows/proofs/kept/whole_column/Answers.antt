use Rattle.std.proofs.Common.{sym, ap, ◌∙◌}
use Rattle.block_summary.specs.Ranges.{column_of}
use Rattle.aggregate_rows.proofs.kept.whole_column.Goals as goal

pub returns : goal.returns
returns c = c.in_ok-cells.ensures ∙ ap (λ rows. column_of rows c.args.place) (sym (c.are_all.ensures c.if-not-are_all.false c.args.columns.now.rows (sym c.len.ensures)))
