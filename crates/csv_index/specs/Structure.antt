-- What a reading of a whole file says, in the words of the grammar.
use Rattle.std.specs.Prelude.{◌≡◌, ◌⊎◌, ℕ, ◌+◌, ◌*◌, ◌^◌, ◌<◌, true, List, ◌++◌, length, map, drop, Option, Some, option_to_list}
use Rattle.std.specs.List.{flat_map, AllByRecursion}
use Rattle.std.specs.Str.{is_utf8, IsCharBoundary}
use Rattle.csv_grammar.specs.Records.{Field, AreRecords}
use Rattle.csv_grammar.specs.Faults.{Cause, HasFault}
use Rattle.csv_grammar.specs.Files.{malformed}
use Rattle.csv_grammar.specs.Raw.{raw_of}
use Rattle.csv_fields.specs.Between.{cut, raw_between}
use Rattle.csv_index.specs.Index.{Rise, AreAscii}
use Rattle.csv_index.specs.Blocks.{block_places}
use Rattle.csv_index.specs.Widths.{CountsWidths}
use Rattle.csv_index.specs.Fault.{text_cause}
use Rattle.csv_index.specs.declared.widths.Widths.{Widths}
use Rattle.csv_index.specs.declared.fault.TextFault.{TextFault}
use Rattle.csv_index.specs.declared.fault.TextFault.TheVariants.{NoMemory}

-- the fields of the records, in order
abbrev pub all_fields : List (List Field) → List Field
all_fields records = flat_map (λ fields. fields) records

-- the places are those after these fields, each field is text, and no character is cut
pub record Cuts (file : List ℕ) (mark : ℕ) (ends : List ℕ) (fields : List Field) : Type 0 where
  pub raws : map raw_between (cut mark ends file) ≡ map raw_of fields
  pub rise : Rise mark ends (length file)
  pub text : AllByRecursion (λ raw. is_utf8 raw.bytes ≡ true) (map raw_of fields)
  pub boundary : IsCharBoundary file mark
  pub ascii : AreAscii file ends

-- the places after the fields: those of the blocks, and the end of a last record with no line break
abbrev pub ends_of : ℕ → List ℕ → Option ℕ → List ℕ
ends_of start masks last = block_places start masks ++ option_to_list last

-- the file from its mark on is these records
pub record ReadsAsRecords (file : List ℕ) (mark : ℕ) (records : List (List Field)) (masks : List ℕ) (last : Option ℕ) (counted : Widths) : Type 0 where
  pub are : AreRecords (drop mark file) records
  pub cuts : Cuts file mark (ends_of mark masks last) (all_fields records)
  pub count : counted.records ≡ length records
  pub widths : CountsWidths counted.width counted.uneven records
  pub room : mark + 64 * length masks + 64 < 2 ^ 64

-- the error is that memory ran out, or it names the fault of the text after the mark
abbrev pub HasTextFault : TextFault → List ℕ → ℕ → Type 0
HasTextFault e file mark =
    (e ≡ NoMemory) ⊎ ((place : ℕ) × (cause : Cause) × HasFault (drop mark file) place cause × (text_cause e ≡ Some (malformed cause (mark + place))))
