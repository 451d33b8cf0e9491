use Rattle.std.proofs.Common.{◌≡◌, ◌∙◌, ◌-◌, ◌<◌, ◌++◌, ℕ, List, [], length, map, take, ap, refl, subst, sym, arith}
use Rattle.csv_records.specs.Lines.{after_lines}
use Rattle.file_convert.specs.declared.stages.TableStage.{TableStage}
use Rattle.file_convert.specs.declared.stages.TableStage.TheVariants.{Header}
use Rattle.file_convert.specs.Pieces.{IsStageSo}
use Rattle.file_convert.specs.Rows.{plan_of}
use Rattle.file_convert.proofs.RowLemmas.{some_items}
use Rattle.file_convert.proofs.StageLemmas.{stage_lines}
use Rattle.file_convert.proofs.stages.Table.skip.Goals as goal

pub returns-clause-step : goal.returns-clause-step
returns-clause-step c =
    let self = c.args.self.now in
    let text = c.args.text.now in
    let kept : List ℕ = after_lines self.skip_lines text in
    let plans = map plan_of self.columns.items in
    let some : 0 < length kept =
    omega (arith, some_items c.after_lines-kept.result.now (sym c.is_empty.ensures ∙ c.if-is_empty.false), ap length c.after_lines-kept.ensures) in
    let len : c.saturating_sub.result ≡ length text - length kept = omega (arith, c.saturating_sub.ensures, ap length c.after_lines-kept.ensures) in
    record {
      skip = refl;
      pads = refl;
      goes = λ gone made so.
          let S : TableStage → Type 0 = λ s. IsStageSo s plans self.how self.skip_lines gone made in
          let L : ℕ → Type 0 = λ n. IsStageSo Header plans self.how self.skip_lines (gone ++ take n text) (made ++ []) in
          ([], refl, subst L (sym len) (stage_lines plans self.how self.skip_lines gone made text (subst S c.requires so) some));
    }
