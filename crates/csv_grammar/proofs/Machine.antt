-- A machine that reads a text byte by byte and keeps the tree of what it has read: the tool of the proofs, and no definition.
use Rattle.std.specs.Prelude.{ℕ, List, [], ◌∷◌, ◌++◌, if◌then◌else◌, ◌==◌, Option, None, Some, option_and_then}
use Rattle.csv_grammar.specs.Bytes.{double_quote, comma, carriage_return, line_feed}
use Rattle.csv_grammar.specs.Records.{Field, unquoted, quoted, LineBreak, crlf, lf, Line, CsvText}

-- where the machine stands
pub data Mode : Type 0 where
  -- at the start of a field
  start : Mode
  -- in an unquoted field, after these bytes and one more
  plain : List ℕ → ℕ → Mode
  -- inside double quotes, after this content
  inside : List ℕ → Mode
  -- after this content and a double quote: the end of the field, or the first of two
  closed : List ℕ → Mode
  -- after a field that ends its record, and a CR
  returned : Field → Mode

-- the lines and the fields of the record under way that were read, and where the machine stands
pub record Progress : Type 0 where
  pub lines : List Line
  pub fields : List Field
  pub mode : Mode

abbrev pub initial : Progress
initial = record { lines = []; fields = []; mode = start }

-- the same lines and fields, somewhere else
abbrev pub moved : Progress → Mode → Progress
moved p mode = record p { mode = mode }

-- after the comma after a field
abbrev pub next_field : Progress → Field → Progress
next_field p field = record p { fields = p.fields ++ field ∷ []; mode = start }

-- after the line break after a record's last field
abbrev pub next_line : Progress → Field → LineBreak → Progress
next_line p field end = record {
  lines = p.lines ++ record { fields = p.fields ++ field ∷ []; end = end } ∷ [];
  fields = [];
  mode = start;
}

-- one byte that ends a field: a comma, CR or LF; any other leads on
abbrev pub after_field : Progress → Field → ℕ → Option Progress → Option Progress
after_field p field b other =
    if b == comma then Some (next_field p field)
    else (if b == carriage_return then Some (moved p (returned field))
    else (if b == line_feed then Some (next_line p field lf) else other))

abbrev pub step_in : Mode → Progress → ℕ → Option Progress
step_in start p b =
    if b == double_quote then Some (moved p (inside []))
    else after_field p (unquoted []) b (Some (moved p (plain [] b)))
step_in (plain bytes last) p b =
    if b == double_quote then None
    else after_field p (unquoted (bytes ++ last ∷ [])) b (Some (moved p (plain (bytes ++ last ∷ []) b)))
step_in (inside content) p b =
    if b == double_quote then Some (moved p (closed content)) else Some (moved p (inside (content ++ b ∷ [])))
step_in (closed content) p b =
    if b == double_quote then Some (moved p (inside (content ++ double_quote ∷ [])))
    else after_field p (quoted content) b None
step_in (returned field) p b = if b == line_feed then Some (next_line p field crlf) else None

abbrev pub step : Progress → ℕ → Option Progress
step p b = step_in p.mode p b

-- the machine after these bytes
abbrev pub run : Progress → List ℕ → Option Progress
run p [] = Some p
run p (b ∷ bytes) = option_and_then (λ q. run q bytes) (step p b)

-- the text with a last record
abbrev pub ended : Progress → List Field → CsvText
ended p fields = record { lines = p.lines; last = Some fields }

-- at the start of a field: no last record where no field was read
abbrev pub finish_start : Progress → List Field → CsvText
finish_start p [] = record { lines = p.lines; last = None }
finish_start p (field ∷ fields) = ended p ((field ∷ fields) ++ unquoted [] ∷ [])

-- the tree, where the text may end here
abbrev pub finish_in : Mode → Progress → Option CsvText
finish_in start p = Some (finish_start p p.fields)
finish_in (plain bytes last) p = Some (ended p (p.fields ++ unquoted (bytes ++ last ∷ []) ∷ []))
finish_in (inside content) p = None
finish_in (closed content) p = Some (ended p (p.fields ++ quoted content ∷ []))
finish_in (returned field) p = None

abbrev pub finish : Progress → Option CsvText
finish p = finish_in p.mode p
