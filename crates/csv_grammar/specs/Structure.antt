-- Where the structure of a text stands (RFC 4180, section 2, rules 1, 2 and 4): the commas that part fields and the LFs that
-- end records are its structural places. The roles of a tree's bytes are defined beside its printer, part for part.
use Rattle.std.specs.Prelude.{◌≡◌, ℕ, List, [], ◌∷◌, ◌++◌, length, map, take, Option, None, Some}
use Rattle.std.specs.List.{flat_map}
use Rattle.csv_grammar.specs.Records.{Field, LineBreak, crlf, lf, Line, CsvText, print_field, print_text, IsText}

-- what a byte of a text is there for
pub data Role : Type 0 where
  -- a comma that parts two fields of a record
  separator : Role
  -- the LF of a line break, which ends a record
  record_end : Role
  -- any other byte: one of a field, or the CR of a line break
  inner : Role

abbrev pub field_roles : Field → List Role
field_roles field = map (λ _. inner) (print_field field)

abbrev pub break_roles : LineBreak → List Role
break_roles crlf = inner ∷ record_end ∷ []
break_roles lf = record_end ∷ []

abbrev pub record_roles : List Field → List Role
record_roles [] = []
record_roles (field ∷ []) = field_roles field
record_roles (field ∷ next ∷ fields) = field_roles field ++ separator ∷ record_roles (next ∷ fields)

abbrev pub line_roles : Line → List Role
line_roles line = record_roles line.fields ++ break_roles line.end

abbrev pub last_roles : Option (List Field) → List Role
last_roles None = []
last_roles (Some fields) = record_roles fields

-- the roles of the bytes that the text prints to, in order
abbrev pub text_roles : CsvText → List Role
text_roles text = flat_map line_roles text.lines ++ last_roles text.last

-- These are the roles of the bytes in a text that they begin: what follows them there is a continuation in the grammar.
pub record AreRoles (bytes : List ℕ) (roles : List Role) : Type 0 where
  pub more : List ℕ
  pub tree : CsvText
  pub valid : IsText tree
  pub printed : bytes ++ more ≡ print_text tree
  pub are : roles ≡ take (length bytes) (text_roles tree)
