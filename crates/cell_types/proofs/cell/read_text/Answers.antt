-- No definition answers that memory ran out.
use Rattle.std.proofs.Common.{ap, sym, ◌∙◌}
use Rattle.cell_types.specs.Cell.{reading_view}
use Rattle.cell_types.specs.Column.{column_view}
use Rattle.cell_types.proofs.CellLemmas.{content_value-memory}
use Rattle.cell_types.proofs.cell.read_text.Goals as goal

pub returns-then-is_normal-clause-memory : goal.returns-then-is_normal-clause-memory
returns-then-is_normal-clause-memory c = λ e.
    absurd (content_value-memory (column_view c.args.column.now) c.as_str-then-is_normal.result.now (sym c.read_content.ensures ∙ ap reading_view e))
