use Rattle.std.proofs.Common.{◌<◌, length, slice_get, option_and_then, sym, ap, ◌∙◌, arith}
use Rattle.std.proofs.lemmas.Result.{IfOk-weaker}
use Rattle.table_store.specs.Table.{TableOf}
use Rattle.table_store.proofs.BlockLemmas.{length-part, part-row}
use Rattle.table_store.proofs.block.Block.value.Goals as goal

pub overflow_add-self-inside : goal.overflow_add-self-inside
overflow_add-self-inside c =
    let block = c.self.inside in
    let size = length-part block.table.now block.first block.rows c.self.invariant.within in
    omega (arith, size, ap (λ (t : TableOf). length t.rows) c.self.view_is, c.requires.row, c.self.invariant.fits)

pub value-requires-clause-row : goal.value-requires-clause-row
value-requires-clause-row c =
    let block = c.self.inside in
    let size = length-part block.table.now block.first block.rows c.self.invariant.within in
    omega (arith, size, ap (λ (t : TableOf). length t.rows) c.self.view_is, c.requires.row, c.self.invariant.within)

pub returns-clause-memory : goal.returns-clause-memory
returns-clause-memory c = c.value.ensures.memory

pub returns-clause-value : goal.returns-clause-value
returns-clause-value c =
    let block = c.self.inside in
    let size = length-part block.table.now block.first block.rows c.self.invariant.within in
    let within : c.args.row < block.rows = omega (arith, size, ap (λ (t : TableOf). length t.rows) c.self.view_is, c.requires.row) in
    IfOk-weaker c.value.result _ _
    (λ value e. ap (option_and_then (λ values. slice_get values c.args.col))
    (ap (λ (t : TableOf). slice_get t.rows c.args.row) (sym c.self.view_is) ∙ part-row block.table.now block.first block.rows c.args.row within) ∙ e) c.value.ensures.value
