-- A file that is converted in pieces.
use Rattle.std.specs.Prelude.{◌≡◌, ℕ, ◌-◌, ◌<◌, ◌≤◌, false, List, [], ◌++◌, length, map, slice_get, Some}
use Rattle.csv_grammar.specs.Bytes.{line_feed}
use Rattle.csv_records.specs.Exchange.{IsFirstRecord, exchanged}
use Rattle.csv_records.specs.Lines.{after_lines, fed, with_feeds}
use Rattle.csv_records.specs.Written.{row_bytes}
use Rattle.text_encodings.specs.declared.encoding.Encoding.{Encoding}
use Rattle.text_encodings.specs.Decoders.{AddsText, IsDecoded}
use Rattle.file_convert.specs.declared.asks.ConvertOptions.{ConvertOptions}
use Rattle.file_convert.specs.declared.conversion.FileConversion.{FileConversion}
use Rattle.file_convert.specs.declared.source.FileText.{FileText}
use Rattle.file_convert.specs.declared.stages.TableStage.{TableStage}
use Rattle.file_convert.specs.declared.stages.TableStage.TheVariants.{Lines, Header, Rows}
use Rattle.file_convert.specs.declared.table.Reading.{Reading}
use Rattle.file_convert.specs.declared.stages.Table.{Table}
use Rattle.file_convert.specs.declared.report.Converted.{Converted}
use Rattle.file_convert.specs.Conversion.{IsConversion, IsConvertedTable, PutsRows}
use Rattle.file_convert.specs.Rows.{Plan, AreTitled, plan_of}

abbrev pub EndsInBreak : List ℕ → Type 0
EndsInBreak text = slice_get text (length text - 1) ≡ Some line_feed

-- bytes are given so far; of the text with line feeds the first bytes are gone, others are held, and the rest comes from what follows
pub record IsTextRead (encoding : Encoding) (given gone : List ℕ) (source : FileText) : Type 0 where
  pub encoding_is : source.decoder.encoding ≡ encoding
  pub text : List ℕ
  pub decoded : IsDecoded source.decoder given text
  pub feeds : (more : List ℕ) → with_feeds false (text ++ more) ≡ gone ++ (source.held.items ++ fed source.feeds more)

-- a text that begins so has these bytes before its header, and no others
abbrev pub LeavesOut : ℕ → List ℕ → Type 0
LeavesOut skip_lines front = (rest : List ℕ) → after_lines skip_lines (front ++ rest) ≡ rest

-- the bytes after those before are what the columns write for a header, the first record of a text in which the comma and the separator are exchanged
pub record PutsHeader (plans : List Plan) (how : Reading) (text rest : List ℕ) (width : ℕ) (before after : List ℕ) : Type 0 where
  pub header : List (List ℕ)
  pub titles : List (List ℕ)
  pub long : 0 < length text
  pub first : IsFirstRecord how.separator text header rest
  pub width_is : width ≡ length header
  pub named : length header ≤ length plans
  pub titled : AreTitled plans header (length plans) titles
  pub some : 0 < length titles
  pub after_is : after ≡ before ++ row_bytes titles

-- bytes are written for the front of a text: nothing before the header; and after it the table of that front and what follows, if what is written for this comes after
abbrev pub IsStageSo : TableStage → List Plan → Reading → ℕ → List ℕ → List ℕ → Type 0
IsStageSo Lines plans how skip_lines gone made = (gone ≡ []) × (made ≡ [])
IsStageSo Header plans how skip_lines gone made = LeavesOut skip_lines gone × (made ≡ [])
IsStageSo Rows plans how skip_lines gone made =
    (rest after : List ℕ) → PutsRows plans how (map (exchanged how.separator) rest) made after
    → IsConvertedTable plans how.pads how.separator (after_lines skip_lines (gone ++ rest)) after

abbrev pub IsTableSo : Table → List ℕ → List ℕ → Type 0
IsTableSo table gone made = IsStageSo table.stage (map plan_of table.columns.items) table.how table.skip_lines gone made

-- the front of the text that follows is used, and what is written for it is appended
pub record TableStep (old new : Table) (front before after : List ℕ) : Type 0 where
  pub skip : new.skip_lines ≡ old.skip_lines
  pub pads : new.how.pads ≡ old.how.pads
  pub goes : (gone made : List ℕ) → IsTableSo old gone made → AddsText before after (λ part. IsTableSo new (gone ++ front) (made ++ part))

-- the rest of the text is used, and what is written for it is appended
pub record TableEnd (old new : Table) (rest before after : List ℕ) : Type 0 where
  pub separator : new.how.separator ≡ old.how.separator
  pub goes : (gone made : List ℕ) → IsTableSo old gone made
      → AddsText before after (λ part. IsConvertedTable (map plan_of new.columns.items) old.how.pads old.how.separator (after_lines old.skip_lines (gone ++ rest)) (made ++ part))

-- bytes of a file are given so far, and bytes are written for them
pub record IsConverting (asks : ConvertOptions) (given made : List ℕ) (conversion : FileConversion) : Type 0 where
  pub skip : conversion.table.skip_lines ≡ asks.skip_lines
  pub pads : conversion.table.how.pads ≡ asks.pads
  pub encoding : Encoding
  pub gone : List ℕ
  pub read : IsTextRead encoding given gone conversion.source
  pub table : IsTableSo conversion.table gone made

-- what is written for more of the text that was read is appended
abbrev pub WritesHeld : FileConversion → FileConversion → List ℕ → List ℕ → Type 0
WritesHeld old new before after =
    (asks : ConvertOptions) (given made : List ℕ) → IsConverting asks given made old → AddsText before after (λ part. IsConverting asks given (made ++ part) new)

-- the next piece is read, and what is written is appended
abbrev pub WritesPiece : FileConversion → FileConversion → List ℕ → List ℕ → List ℕ → Type 0
WritesPiece old new piece before after =
    (asks : ConvertOptions) (given made : List ℕ) → IsConverting asks given made old
    → AddsText before after (λ part. IsConverting asks (given ++ piece) (made ++ part) new)

-- what is written for the rest of the file is appended: all that is written is the conversion of all that was given
abbrev pub WritesEnd : FileConversion → Converted → List ℕ → List ℕ → Type 0
WritesEnd old converted before after =
    (asks : ConvertOptions) (given made : List ℕ) → IsConverting asks given made old → AddsText before after (λ part. IsConversion asks given (made ++ part) converted)
