-- The null texts are the bytes of the strings.
use Rattle.std.proofs.Common.{string_bytes}
use Rattle.std.specs.Str.{bytes_eq}
use Rattle.cell_types.proofs.ListLaws.{list_any-map}
use Rattle.cell_types.proofs.cell.is_null_text.Goals as goal

pub returns : goal.returns
returns c = rw (list_any-map (λ other. bytes_eq other c.args.text.now) string_bytes c.args.column.now.nulls.items, ← c.as_slice.ensures.value) c.is_among.ensures
