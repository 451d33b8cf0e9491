-- What is known of a file that was looked at.
use Rattle.std.proofs.Common.{◌≡◌, ◌≢◌, ◌∙◌, inl, inr, ℕ, List, Option, None, Some, IfSome, map, subst, sym, refl}
use Rattle.std.proofs.lemmas.List.{length-map}
use Rattle.csv_grammar.specs.Files.{FileCause, IsFileFault}
use Rattle.csv_grammar.specs.Raw.{field_of, RawTable}
use Rattle.csv_index.specs.Fault.{text_cause}
use Rattle.csv_index.specs.Index.{IsRawTable}
use Rattle.csv_index.specs.declared.fault.TextFault.{TextFault}
use Rattle.csv_index.specs.declared.fault.TextFault.TheVariants as text
use Rattle.csv_windows.specs.Windows.{with_rows, AreFirstLines, Continues, HasLines, HasSize}
use Rattle.csv_windows.specs.declared.front.FirstLines.{FirstLines}
use Rattle.csv_windows.specs.declared.front.FirstLines.TheVariants as lines
use Rattle.csv_windows.specs.declared.front.TableSize.{TableSize}
use Rattle.csvw_meta.specs.declared.limits.Limits.{Limits}
use Rattle.folder_checks.specs.Windows.{EndsWindows, HasWindows, IsGivenTo, ReadsWindowOn}
use Rattle.folder_checks.specs.declared.windows.Fed.TheVariants as feds
use Rattle.folder_checks.specs.declared.windows.Windows.{Windows}
use Rattle.schema_inference.specs.Looks.{HasBytesCause, IsTableOfWidth}
use Rattle.schema_inference.specs.declared.fault.LeftOutCause.{LeftOutCause}
use Rattle.schema_inference.specs.declared.fault.LeftOutCause.TheVariants.{NoTable}

-- the whole is a table of that size
whole_of : (given front : List ℕ) (first : FirstLines) (file : RawTable) (size : TableSize) → AreFirstLines front first → Continues front given first file (HasLines (lines.Table size))
    → (raw : RawTable) × IsRawTable given raw × HasSize raw size
whole_of given front lines.Nothing file size are continues = (file, continues.0, continues.1)
whole_of given front (lines.Table old) file size are continues =
    let joined = continues are.0 are.1 are.2 in (with_rows are.0 file.rows, joined.1, joined.2)
whole_of given front (lines.Faulty fault) file size are continues = absurd continues

pub table_of_width : (given front : List ℕ) (windows : Windows) (end : FirstLines × RawTable × TableSize) → HasWindows given front windows → EndsWindows given front windows end
    → IsTableOfWidth end.2.width given
table_of_width given front windows end fed ends =
    let whole = whole_of given front end.0 end.1 end.2 (subst (AreFirstLines front) (sym ends.0) fed.begins.are) ends.1 in
    record {
      header = map field_of whole.0.header;
      rows = map (map field_of) whole.0.rows;
      table = whole.1.is;
      width = length-map whole.0.header field_of ∙ sym whole.2.width;
    }

some_cause : (cause : Option FileCause) (bytes : List ℕ) → (cause ≡ None → ⊥) → IfSome cause (IsFileFault bytes) → (is : FileCause) × (cause ≡ Some is) × IsFileFault bytes is
some_cause None bytes not is = absurd (not refl)
some_cause (Some cause) bytes not is = (cause, refl, is)

cause_known : (fault : TextFault) → fault ≢ text.NoMemory → text_cause fault ≡ None → ⊥
cause_known text.NoMemory not none = not refl
cause_known fault not none = cc

pub no_table : (limits : Limits) (bytes : List ℕ) (fault : TextFault) (cause : LeftOutCause) → cause ≡ NoTable fault → fault ≢ text.NoMemory
    → IfSome (text_cause fault) (IsFileFault bytes) → HasBytesCause limits bytes cause
no_table limits bytes fault cause is known wrong =
    let found = some_cause (text_cause fault) bytes (cause_known fault known) wrong in
    subst (HasBytesCause limits bytes) (sym is) (record { cause = found.0; is = found.1; wrong = found.2 })

-- no row more is read
pub given_on : (all front : List ℕ) (old new : Windows) → ReadsWindowOn all front old (feds.On new) → IsGivenTo all new
given_on all front old new (inl same) = (front, same.0)
given_on all front old new (inr faulty) = (faulty.0, faulty.1)
