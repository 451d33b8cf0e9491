use Rattle.std.proofs.Common.{◌≡◌, ◌∙◌, ◌++◌, ℕ, List, length, map, take, true, ap, refl, subst, sym, arith}
use Rattle.std.specs.Vec.{with_items}
use Rattle.std.proofs.lemmas.List.{length-map, with_items_is}
use Rattle.csv_records.specs.Exchange.{exchanged}
use Rattle.text_encodings.specs.Decoders.{AddsText}
use Rattle.file_convert.specs.declared.report.ColumnReport.{ColumnReport}
use Rattle.file_convert.specs.declared.stages.TableStage.{TableStage}
use Rattle.file_convert.specs.Conversion.{PutsRows}
use Rattle.file_convert.specs.Pieces.{EndsInBreak, IsStageSo}
use Rattle.file_convert.specs.Rows.{Plan, plan_of}
use Rattle.file_convert.proofs.StageLemmas.{stage_rows}
use Rattle.file_convert.proofs.stages.Table.put_rows.Goals as goal

pub returns-clause-step : goal.returns-clause-step
returns-clause-step c =
    let self = c.args.self.now in
    let how = self.how in
    let columns = self.columns in
    let reports = c.put_rows.new.reports in
    let front = take c.whole_len-len.result c.args.text.now in
    let before = c.args.out.now.items in
    let after = c.put_rows.new.out.items in
    let plans : List Plan = map plan_of columns.items in
    let long : length reports ≡ columns.len =
    omega (arith, c.as_mut_slice.ensures.len, ap length c.put_rows.ensures.plans, length-map reports plan_of, length-map c.as_mut_slice.result.now plan_of) in
    let same : map plan_of (with_items columns reports).items ≡ plans =
    ap (λ (l : List ColumnReport). map plan_of l) (with_items_is columns reports long)
    ∙ (c.put_rows.ensures.plans ∙ ap (λ (l : List ColumnReport). map plan_of l) c.as_mut_slice.ensures.value) in
    let ends : c.ends_in_feed.result ≡ true = grind arith in
    let E : List ℕ → Type 0 = λ l. EndsInBreak (map (exchanged how.separator) l) in
    let R : List ColumnReport → Type 0 = λ l. PutsRows (map plan_of l) how (map (exchanged how.separator) c.split_at.result.0.now) before after in
    let W : List ℕ → Type 0 = λ l. PutsRows plans how (map (exchanged how.separator) l) before after in
    let puts = subst W c.split_at.ensures.front (subst R c.as_mut_slice.ensures.value c.in_ok-line.ensures.rows) in
    record {
      skip = refl;
      pads = refl;
      goes = λ gone made so.
          let S : TableStage → Type 0 = λ s. IsStageSo s plans how self.skip_lines gone made in
          let T : TableStage → Type 0 = λ s. AddsText before after (λ part. IsStageSo s plans how self.skip_lines (gone ++ front) (made ++ part)) in
          let P : List Plan → Type 0 = λ l. AddsText before after (λ part. IsStageSo self.stage l how self.skip_lines (gone ++ front) (made ++ part)) in
          subst P (sym same)
          (subst T (sym c.requires)
          (stage_rows c.in_windows.ensures plans how self.skip_lines gone made front before after (subst S c.requires so) (subst E c.split_at.ensures.front (c.ends_in_feed.ensures ends)) puts));
    }
