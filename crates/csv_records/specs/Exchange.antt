-- Texts whose fields another byte than the comma separates, by the grammar of RFC 4180 (section 2).
use Rattle.std.specs.Prelude.{◌≡◌, ◌⊎◌, ℕ, ◌==◌, List, [], ◌++◌, map, if◌then◌else◌, IsTrue}
use Rattle.std.specs.List.{AllByRecursion}
use Rattle.csv_grammar.specs.Bytes.{comma}
use Rattle.csv_grammar.specs.Records.{Field, IsField, IsRecord, LineBreak, AreRecords, content, is_plain, print_break, print_field, print_record}

-- the comma for the separator, and the separator for the comma
abbrev pub exchanged : ℕ → ℕ → ℕ
exchanged separator byte = if byte == separator then comma else (if byte == comma then separator else byte)

-- the content of a field in which the two were exchanged
abbrev pub exchanged_content : ℕ → Field → List ℕ
exchanged_content separator field = map (exchanged separator) (content field)

-- these are the cells of a text with that separator: with the separator and the comma exchanged it is a text of the grammar, and the cells are the contents of its
-- fields, exchanged back
pub record Exchange (separator : ℕ) (text : List ℕ) (cells : List (List (List ℕ))) : Type 0 where
  pub records : List (List Field)
  pub are : AreRecords (map (exchanged separator) text) records
  pub cells_are : cells ≡ map (map (exchanged_content separator)) records

-- ---- with the separator and the comma exchanged
-- the text is a field that says this, and the rest
pub record IsFirstField (separator : ℕ) (text cell rest : List ℕ) : Type 0 where
  pub field : Field
  pub is : IsField field
  pub cell_is : cell ≡ exchanged_content separator field
  pub printed : text ≡ print_field field ++ rest

-- the text is bytes that need no double quotes and say this, and the rest
pub record IsPlainFront (separator : ℕ) (text cell rest : List ℕ) : Type 0 where
  pub printed : text ≡ map (exchanged separator) cell ++ rest
  pub plain : AllByRecursion (λ byte. IsTrue (is_plain byte)) (map (exchanged separator) cell)

-- a line break, and the rest; or the end of the text
abbrev pub EndsRecord : List ℕ → List ℕ → Type 0
EndsRecord text rest = ((end : LineBreak) × (text ≡ print_break end ++ rest)) ⊎ ((text ≡ []) × (rest ≡ []))

-- the text is a record of these cells, its end, and the rest
pub record IsFirstRecord (separator : ℕ) (text : List ℕ) (cells : List (List ℕ)) (rest : List ℕ) : Type 0 where
  pub fields : List Field
  pub is : IsRecord fields
  pub cells_are : cells ≡ map (exchanged_content separator) fields
  pub after : List ℕ
  pub printed : text ≡ print_record fields ++ after
  pub ends : EndsRecord after rest
