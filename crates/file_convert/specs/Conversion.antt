-- A file and what is written in its place.
use Rattle.std.specs.Prelude.{◌≡◌, ◌⊎◌, ℕ, ◌≤◌, ◌<◌, Bool, true, false, List, [], ◌∷◌, ◌++◌, length, map}
use Rattle.csv_grammar.specs.Records.{Field, AreRecords}
use Rattle.csv_records.specs.Exchange.{Exchange, exchanged_content}
use Rattle.csv_records.specs.Lines.{after_lines, with_feeds}
use Rattle.csv_records.specs.Written.{AreRows, HaveCells, row_bytes, rows_bytes}
use Rattle.text_encodings.specs.declared.encoding.Encoding.{Encoding}
use Rattle.text_encodings.specs.Encodings.{IsTextIn}
use Rattle.file_convert.specs.declared.asks.ConvertOptions.{ConvertOptions}
use Rattle.file_convert.specs.declared.report.Converted.{Converted}
use Rattle.file_convert.specs.declared.table.Reading.{Reading}
use Rattle.file_convert.specs.Rows.{Plan, AreTitled, AreWritten, plan_of}

-- the text of a table: with line feeds, and without the lines before the header
abbrev pub kept_text : ℕ → List ℕ → List ℕ
kept_text skip_lines text = after_lines skip_lines (with_feeds false text)

-- what is written for the rows after the header, in order: each row with all its cells, and empty ones after them if this is asked; an empty line of a table of several
-- columns is left out
pub data AreConverted (plans : List Plan) (pads : Bool) (width : ℕ) : List (List (List ℕ)) → List (List (List ℕ)) → Type 0 where
  no_row : AreConverted plans pads width [] []
  empty_line : (rows outs : List (List (List ℕ))) → 1 < width → AreConverted plans pads width rows outs
      → AreConverted plans pads width (rows ++ ([] ∷ []) ∷ []) outs
  next_row : (rows outs : List (List (List ℕ))) (row out : List (List ℕ)) → AreConverted plans pads width rows outs
      → length row ≤ length plans → (pads ≡ true) ⊎ (width ≤ length row) → AreWritten plans row (length plans) out
      → AreConverted plans pads width (rows ++ row ∷ []) (outs ++ out ∷ [])

-- with the separator, the text is a header and rows; the bytes are those that the columns write for them
pub record IsConvertedTable (plans : List Plan) (pads : Bool) (separator : ℕ) (text bytes : List ℕ) : Type 0 where
  pub header : List (List ℕ)
  pub rows : List (List (List ℕ))
  pub read : Exchange separator text (header ∷ rows)
  pub titles : List (List ℕ)
  pub outs : List (List (List ℕ))
  pub named : length header ≤ length plans
  pub titled : AreTitled plans header (length plans) titles
  pub converted : AreConverted plans pads (length header) rows outs
  pub written : AreRows bytes (titles ∷ outs)

-- the bytes of a file are a text, here with line feeds
pub record IsSource (file : List ℕ) (encoding : Encoding) (fed : List ℕ) : Type 0 where
  pub text : List ℕ
  pub decoded : IsTextIn encoding file text
  pub is_fed : fed ≡ with_feeds false text

-- the bytes of a file are a text, and what is written is its table
pub record IsConversion (asks : ConvertOptions) (file made : List ℕ) (converted : Converted) : Type 0 where
  pub text : List ℕ
  pub decoded : IsTextIn converted.encoding file text
  pub table : IsConvertedTable (map plan_of converted.columns.items) asks.pads converted.separator (kept_text asks.skip_lines text) made

-- ---- row after row
-- the bytes after those before are what the columns write for a record
abbrev pub PutsRow : List Plan → Reading → List (List ℕ) → List ℕ → List ℕ → Type 0
PutsRow plans how row before after =
    ((1 < how.width) × (row ≡ [] ∷ []) × (after ≡ before))
    ⊎ ((out : List (List ℕ)) × (length row ≤ length plans) × ((how.pads ≡ true) ⊎ (how.width ≤ length row))
    × AreWritten plans row (length plans) out × (0 < length out) × (after ≡ before ++ row_bytes out))

-- and for the records of a text in which the comma and the separator are exchanged
pub record PutsRows (plans : List Plan) (how : Reading) (text before after : List ℕ) : Type 0 where
  pub records : List (List Field)
  pub are : AreRecords text records
  pub outs : List (List (List ℕ))
  pub converted : AreConverted plans how.pads how.width (map (map (exchanged_content how.separator)) records) outs
  pub have : HaveCells outs
  pub after_is : after ≡ before ++ rows_bytes outs
