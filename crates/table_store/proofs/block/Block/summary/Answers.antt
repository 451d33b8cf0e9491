use Rattle.std.proofs.Common.{◌<◌, ◌/◌, List, [], length, get_or, sym, ap, subst, ◌∙◌, arith}
use Rattle.std.proofs.lemmas.List.{get_or_default}
use Rattle.block_summary.specs.declared.block.TheConstants.{BLOCK_ROWS}
use Rattle.block_summary.specs.Ranges.{RangeOf}
use Rattle.table_store.specs.Block.{part}
use Rattle.table_store.specs.Summaries.{IsSummaryOf}
use Rattle.table_store.specs.Table.{TableOf}
use Rattle.table_store.proofs.BlockLemmas.{part-fewer}
use Rattle.table_store.proofs.block.Block.summary.Goals as goal

pub returns : goal.returns
returns c =
    let block = c.self.inside in
    let table = block.table.now in
    let number = block.first / BLOCK_ROWS in
    let summaries = c.summary.result.now in
    let within : number < length summaries = omega (arith, c.summary.ensures.count, c.self.invariant.some, c.self.invariant.aligned) in
    let rows = ap (λ first. part table first BLOCK_ROWS) c.self.invariant.aligned ∙ sym (part-fewer table block.first block.rows BLOCK_ROWS c.self.invariant.whole) in
    let same = get_or_default summaries number [] c.index-summary-self.result within ∙ sym c.index-summary-self.is in
    subst (λ (ranges : List RangeOf). IsSummaryOf c.args.self.now ranges) same
    (subst (λ (block : TableOf). IsSummaryOf block (get_or summaries number [])) (rows ∙ c.self.view_is) (c.summary.ensures.each number within))
