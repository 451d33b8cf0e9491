use Rattle.std.proofs.Common.{sym}
use Rattle.cell_types.specs.Column.{column_view}
use Rattle.csv_fields.specs.Raw.{raw_view}
use Rattle.column_blocks.proofs.PartLemmas.{empty_value, no_bytes}
use Rattle.column_blocks.proofs.number_reader.field_number.Goals as goal

pub returns-then-is_empty-clause-value : goal.returns-then-is_empty-clause-value
returns-then-is_empty-clause-value c =
    empty_value (column_view c.args.column.now) (raw_view c.args.raw) (c.requires.plain c.if-empty_is_null.true) (no_bytes c.args.raw.bytes.now (sym c.if-is_empty.ensures))
