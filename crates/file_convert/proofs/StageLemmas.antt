-- What is written for a table, stage after stage.
use Rattle.std.proofs.Common.{◌∙◌, ℕ, ◌-◌, ◌<◌, List, [], ◌++◌, length, map, take, ap, refl, sym, subst, append_assoc, append-nil}
use Rattle.std.proofs.lemmas.List.{map-append}
use Rattle.csv_grammar.specs.Pieces.{InWindows}
use Rattle.csv_records.specs.Exchange.{exchanged}
use Rattle.csv_records.specs.Lines.{after_lines}
use Rattle.csv_records.specs.Written.{RowsReadBack, row_bytes, rows_bytes}
use Rattle.text_encodings.specs.Decoders.{AddsText}
use Rattle.file_convert.specs.declared.stages.TableStage.TheVariants.{Lines, Header, Rows}
use Rattle.file_convert.specs.declared.stages.Table.{Table}
use Rattle.file_convert.specs.declared.table.Reading.{Reading}
use Rattle.file_convert.specs.Conversion.{IsConvertedTable, PutsRows}
use Rattle.file_convert.specs.Pieces.{EndsInBreak, IsStageSo, IsTableSo, LeavesOut, PutsHeader, TableStep}
use Rattle.file_convert.specs.Rows.{Plan}
use Rattle.file_convert.proofs.FrontLemmas.{header_then, leaves_out}
use Rattle.file_convert.proofs.TableLemmas.{table_written}
use Rattle.file_convert.proofs.WindowLemmas.{rows_after, rows_more}

-- ---- texts that are appended
pub then_adds : (P Q : List ℕ → Type 0) (made a b c : List ℕ) → AddsText a b (λ p. P (made ++ p)) → ((m : List ℕ) → P m → AddsText b c (λ q. Q (m ++ q)))
    → AddsText a c (λ r. Q (made ++ r))
then_adds P Q made a b c one next =
    let other = next (made ++ one.0) one.2 in (
      one.0 ++ other.0,
      other.1 ∙ (ap (λ l. l ++ other.0) one.1 ∙ append_assoc a one.0 other.0),
      subst Q (append_assoc made one.0 other.0) other.2,
    )

pub adds_none : (P : List ℕ → Type 0) (made a : List ℕ) → P made → AddsText a a (λ p. P (made ++ p))
adds_none P made a is = ([], sym (append-nil a), subst P (sym (append-nil made)) is)

pub nothing_done : (table : Table) (text out : List ℕ) → TableStep table table (take 0 text) out out
nothing_done table text out = record {
  skip = refl;
  pads = refl;
  goes = λ gone made so. adds_none (λ l. IsTableSo table (gone ++ []) l) made out (subst (λ l. IsTableSo table l made) (sym (append-nil gone)) so);
}

-- a step that writes nothing
pub nothing_written : (old new : Table) (front out : List ℕ) → TableStep old new front [] [] → TableStep old new front out out
nothing_written old new front out step = record {
  skip = step.skip;
  pads = step.pads;
  goes = λ gone made so. let adds = step.goes gone made so in (adds.0, sym (append-nil out) ∙ ap (λ l. out ++ l) adds.1, adds.2);
}

-- ---- steps
pub stage_lines : (plans : List Plan) (how : Reading) (skip : ℕ) (gone made text : List ℕ) → IsStageSo Lines plans how skip gone made → 0 < length (after_lines skip text)
    → IsStageSo Header plans how skip (gone ++ take (length text - length (after_lines skip text)) text) (made ++ [])
stage_lines plans how skip gone made text so some =
    let front = take (length text - length (after_lines skip text)) text in
    (subst (λ l. LeavesOut skip (l ++ front)) (sym so.0) (leaves_out skip text some), append-nil made ∙ so.1)

pub stage_header : RowsReadBack → (plans : List Plan) (how : Reading) (skip width : ℕ) (gone made text rest before after : List ℕ) → IsStageSo Header plans how skip gone made
    → PutsHeader plans how (map (exchanged how.separator) text) (map (exchanged how.separator) rest) width before after → 0 < length rest
    → AddsText before after (λ part. IsStageSo Rows plans (record how { width = width }) skip (gone ++ take (length text - length rest) text) (made ++ part))
stage_header law plans how skip width gone made text rest before after so h some =
    let front = take (length text - length rest) text in (
      row_bytes h.titles,
      h.after_is,
      λ other last puts.
          let begun = header_then plans how width text rest before after other made h some so.1 in
          let table = table_written plans how width (front ++ other) (map (exchanged how.separator) other) [] (made ++ row_bytes h.titles) last law begun puts in
          let T : List ℕ → Type 0 = λ l. IsConvertedTable plans how.pads how.separator l last in
          let B : List ℕ → Type 0 = λ l. IsConvertedTable plans how.pads how.separator (front ++ other) l in
          subst T (sym (ap (after_lines skip) (append_assoc gone front other) ∙ so.0 (front ++ other))) (subst B (sym table.1) table.2),
    )

pub stage_rows : InWindows → (plans : List Plan) (how : Reading) (skip : ℕ) (gone made window before after : List ℕ) → IsStageSo Rows plans how skip gone made
    → EndsInBreak (map (exchanged how.separator) window) → PutsRows plans how (map (exchanged how.separator) window) before after
    → AddsText before after (λ part. IsStageSo Rows plans how skip (gone ++ window) (made ++ part))
stage_rows law plans how skip gone made window before after so ends puts = (
  rows_bytes puts.outs,
  puts.after_is,
  λ other last more.
      let ex : ℕ → ℕ = exchanged how.separator in
      let now = made ++ rows_bytes puts.outs in
      let both = rows_more law plans how (map ex window) (map ex other) made now last ends (rows_after plans how (map ex window) before after made puts) more in
      let P : List ℕ → Type 0 = λ l. PutsRows plans how l made last in
      let T : List ℕ → Type 0 = λ l. IsConvertedTable plans how.pads how.separator (after_lines skip l) last in
      subst T (sym (append_assoc gone window other)) (so (window ++ other) last (subst P (sym (map-append ex window other)) both)),
)
