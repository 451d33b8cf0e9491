-- Texts that are read one after another, until they fill a block.
use Rattle.std.specs.Prelude.{◌≡◌, ◌<◌, ◌≤◌, ℕ, Bool, List, [], ◌∷◌, ◌++◌, ◌&&◌, ◌==◌, IsUtf8, length, take, slice_index_or}
use Rattle.cell_types.specs.Value.{CellValue}
use Rattle.csv_grammar.specs.Raw.{raw_content}
use Rattle.text_columns.specs.Texts.{start_from, text_block_cells, text_unless_null, EndsRise}
use Rattle.text_columns.specs.declared.buffer.TextBuffer.TheInside.{Inside}

-- the cells so far, and how many there is room for
pub record TextBufferOf : Type 0 where
  pub room : ℕ
  pub cells : List CellValue

-- one more cell
abbrev pub with_text_cell : TextBufferOf → CellValue → TextBufferOf
with_text_cell buffer c = record buffer { cells = buffer.cells ++ c ∷ [] }

-- what the field says that stands as these bytes, with or without quotes around them
abbrev pub field_content : Bool → List ℕ → List ℕ
field_content is_quoted bytes = raw_content record { bytes = bytes; quoted = is_quoted }

-- the cell of what a field says, where an empty one may stand for null
abbrev pub content_cell : Bool → List ℕ → CellValue
content_cell empty_is_null content = text_unless_null (empty_is_null && length content == 0) content

abbrev pub buffer_view : Inside → TextBufferOf
buffer_view b = record { room = length b.ends.items; cells = text_block_cells (take b.len b.nulls.items) (take b.len b.ends.items) b.bytes.items }

-- the bytes up to a place are texts that end at these places, and each front up to an end is text
pub record AreRead (at : ℕ) (ends bytes : List ℕ) : Type 0 where
  pub rise : EndsRise ends at
  pub utf8 : IsUtf8 (take at bytes)
  pub fronts : (row : ℕ) → row < length ends → IsUtf8 (take (slice_index_or ends row 0) bytes)
  pub last : start_from 0 ends (length ends) ≡ at

-- a buffer whose places and marks have room for the same rows, and whose last text ends at that place
pub record IsBuffer (b : Inside) : Type 0 where
  pub marks : length b.nulls.items ≡ length b.ends.items
  pub room : b.len ≤ length b.ends.items
  pub within : b.at ≤ length b.bytes.items
  pub read : AreRead b.at (take b.len b.ends.items) b.bytes.items
