use Rattle.std.proofs.Common.{◌∙◌, ℕ, Bool, List, ◌++◌, ap, map, subst, sym}
use Rattle.csv_records.specs.Lines.{after_lines}
use Rattle.text_encodings.specs.declared.encoding.Encoding.{Encoding}
use Rattle.text_encodings.specs.Encodings.{IsTextIn}
use Rattle.file_convert.specs.Conversion.{IsConvertedTable}
use Rattle.file_convert.specs.Rows.{plan_of}
use Rattle.file_convert.proofs.conversion.FileConversion.end.Goals as goal

pub returns : goal.returns
returns c = λ asks given made is.
    let old = c.args.self.table in
    let new = c.end-2.new.self in
    let ended = c.in_ok-rest.ensures is.encoding given is.gone is.read in
    let source = ended.1 in
    let adds = c.in_ok-end.ensures.goes is.gone made is.table in
    let plans = map plan_of new.columns.items in
    let E : Encoding → Type 0 = λ e. IsTextIn e given source.text in
    let P : Bool → Type 0 = λ b. IsConvertedTable plans b old.how.separator (after_lines old.skip_lines (is.gone ++ c.as_slice.result.now)) (made ++ adds.0) in
    let S : ℕ → Type 0 = λ s. IsConvertedTable plans asks.pads s (after_lines old.skip_lines (is.gone ++ c.as_slice.result.now)) (made ++ adds.0) in
    let K : ℕ → Type 0 = λ k. IsConvertedTable plans asks.pads new.how.separator (after_lines k (is.gone ++ c.as_slice.result.now)) (made ++ adds.0) in
    let T : List ℕ → Type 0 = λ l. IsConvertedTable plans asks.pads new.how.separator (after_lines asks.skip_lines l) (made ++ adds.0) in (
      adds.0,
      adds.1,
      record {
        text = source.text;
        decoded = subst E (sym ended.0) source.decoded;
        table = subst T (ap (λ l. is.gone ++ l) c.as_slice.ensures.value ∙ source.is_fed)
            (subst K is.skip (subst S (sym c.in_ok-end.ensures.separator) (subst P is.pads adds.2)));
      },
    )
