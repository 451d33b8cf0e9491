-- The records of a text (RFC 4180, section 2). Each form is a tree, a printer from the tree to its bytes, and a fact that
-- says which trees are valid. Where the RFC is open: LF alone ends a line too, any other byte may stand in a field, and an
-- empty line is a record of one empty field.
use Rattle.std.specs.Prelude.{◌≡◌, ℕ, ◌<◌, Bool, ◌||◌, not, List, [], ◌∷◌, ◌++◌, length, map, if◌then◌else◌, ◌==◌, IsTrue, Option, None, Some, option_to_list, IfSome}
use Rattle.std.specs.List.{flat_map, AllByRecursion}
use Rattle.csv_grammar.specs.Bytes.{double_quote, comma, carriage_return, line_feed}

-- a line break (rule 1): CR LF, or LF alone
pub data LineBreak : Type 0 where
  crlf lf : LineBreak

-- the bytes of a line break
abbrev pub print_break : LineBreak → List ℕ
print_break crlf = carriage_return ∷ line_feed ∷ []
print_break lf = line_feed ∷ []

-- a byte that may stand outside double quotes: any but a double quote, a comma, CR and LF
abbrev pub is_plain : ℕ → Bool
is_plain b = not (b == double_quote || b == comma || b == carriage_return || b == line_feed)

-- a field (rules 5 to 7): bytes as they stand, or a content in double quotes
pub data Field : Type 0 where
  unquoted : List ℕ → Field
  quoted : List ℕ → Field

-- a content with each of its double quotes written as two (rule 7)
abbrev pub doubled : List ℕ → List ℕ
doubled [] = []
doubled (b ∷ content) = if b == double_quote then double_quote ∷ double_quote ∷ doubled content else b ∷ doubled content

-- the bytes of a field
abbrev pub print_field : Field → List ℕ
print_field (unquoted bytes) = bytes
print_field (quoted content) = double_quote ∷ doubled content ++ double_quote ∷ []

-- outside double quotes each byte is plain; inside, any byte may stand
abbrev pub IsField : Field → Type 0
IsField (unquoted bytes) = AllByRecursion (λ b. IsTrue (is_plain b)) bytes
IsField (quoted content) = Unit {0}

-- what a field says: its bytes as they stand, or its content
abbrev pub content : Field → List ℕ
content (unquoted bytes) = bytes
content (quoted inside) = inside

-- the bytes of a record: its fields with commas between (rule 4)
abbrev pub print_record : List Field → List ℕ
print_record [] = []
print_record (field ∷ []) = print_field field
print_record (field ∷ next ∷ fields) = print_field field ++ comma ∷ print_record (next ∷ fields)

-- a record has one field or more
abbrev pub IsRecord : List Field → Type 0
IsRecord fields = (0 < length fields) × AllByRecursion IsField fields

-- a record and the line break after it
pub record Line : Type 0 where
  pub fields : List Field
  pub end : LineBreak

abbrev pub print_line : Line → List ℕ
print_line line = print_record line.fields ++ print_break line.end

-- a text: lines, and then perhaps a last record with no line break (rule 2)
pub record CsvText : Type 0 where
  pub lines : List Line
  pub last : Option (List Field)

abbrev pub print_last : Option (List Field) → List ℕ
print_last None = []
print_last (Some fields) = print_record fields

-- the bytes of a text
abbrev pub print_text : CsvText → List ℕ
print_text text = flat_map print_line text.lines ++ print_last text.last

-- a last record with no line break is a nonempty text
abbrev pub IsLast : List Field → Type 0
IsLast fields = IsRecord fields × (0 < length (print_record fields))

-- each part is of its form
pub record IsText (text : CsvText) : Type 0 where
  pub lines : AllByRecursion (λ line. IsRecord line.fields) text.lines
  pub last : IfSome text.last IsLast

-- the records of a text, in order
abbrev pub records_of : CsvText → List (List Field)
records_of text = map (λ line. line.fields) text.lines ++ option_to_list text.last

-- these are records of the bytes
pub record AreRecords (bytes : List ℕ) (records : List (List Field)) : Type 0 where
  pub tree : CsvText
  pub valid : IsText tree
  pub printed : bytes ≡ print_text tree
  pub are : records ≡ records_of tree
