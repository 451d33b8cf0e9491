use Rattle.std.proofs.Common.{◌∙◌, ◌<◌, ◌++◌, ℕ, List, length, map, take, refl, subst, sym}
use Rattle.csv_records.specs.Exchange.{exchanged}
use Rattle.text_encodings.specs.Decoders.{AddsText}
use Rattle.file_convert.specs.declared.report.ColumnReport.{ColumnReport}
use Rattle.file_convert.specs.declared.stages.TableStage.{TableStage}
use Rattle.file_convert.specs.declared.stages.TableStage.TheVariants.{Rows}
use Rattle.file_convert.specs.Pieces.{IsStageSo, PutsHeader}
use Rattle.file_convert.specs.Rows.{plan_of}
use Rattle.file_convert.proofs.RowLemmas.{some_items}
use Rattle.file_convert.proofs.StageLemmas.{stage_header}
use Rattle.file_convert.proofs.stages.Table.put_header.Goals as goal

pub returns-clause-step : goal.returns-clause-step
returns-clause-step c =
    let self = c.args.self.now in
    let text = c.args.text.now in
    let rest = c.in_ok-header.header.rest.now in
    let width = c.in_ok-header.header.width in
    let plans = map plan_of self.columns.items in
    let before = c.args.out.now.items in
    let after = c.put_header.new.out.items in
    let some : 0 < length rest = some_items rest (sym c.is_empty.ensures ∙ c.if-is_empty.false) in
    let H : List ColumnReport → Type 0 = λ l. PutsHeader (map plan_of l) self.how (map (exchanged self.how.separator) text) (map (exchanged self.how.separator) rest) width before after in
    record {
      skip = refl;
      pads = refl;
      goes = λ gone made so.
          let S : TableStage → Type 0 = λ s. IsStageSo s plans self.how self.skip_lines gone made in
          let L : ℕ → Type 0 =
          λ n. AddsText before after (λ part. IsStageSo Rows plans (record self.how { width = width }) self.skip_lines (gone ++ take n text) (made ++ part)) in
          subst L (sym c.saturating_sub.ensures)
          (stage_header c.rows_read_back.ensures plans self.how self.skip_lines width gone made text rest before after (subst S c.requires so)
          (subst H c.as_slice.ensures.value c.in_ok-header.ensures) some);
    }
