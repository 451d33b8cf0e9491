-- Texts of which nothing is known yet.
use Rattle.std.specs.Prelude.{List, None, string_bytes}
use Rattle.cell_types.specs.Value.{CellValue}
use Rattle.text_columns.specs.Places.{place_list}
use Rattle.text_columns.specs.Codes.{AreCodedTexts}
use Rattle.text_columns.specs.Texts.{text_block_cells}
use Rattle.text_columns.specs.declared.block.PlainTexts.{PlainTexts}

abbrev pub plain_cells : PlainTexts → List CellValue
plain_cells texts = text_block_cells texts.nulls.items (place_list texts.ends) (string_bytes texts.bytes)

-- the bytes are texts that end at the places, and have no codes yet
abbrev pub ArePlainTexts : PlainTexts → Type 0
ArePlainTexts texts = AreCodedTexts texts.nulls.items (place_list texts.ends) (string_bytes texts.bytes) None
