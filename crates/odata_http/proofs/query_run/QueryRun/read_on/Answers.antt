use Rattle.std.proofs.Common.{◌+◌, Some, None, refl, ap, sym, subst, ◌∙◌}
use Rattle.result_rows.specs.Rows.{RowsOf}
use Rattle.odata_http.specs.Reply.{HaveSizesIn}
use Rattle.query_exec.specs.Run.{ended, reads}
use Rattle.odata_http.proofs.QueryRunLemmas.{advanced_done, advanced_fault, advanced_more, block_is, lent_gives, lent_handed, lent_lends, lent_needs, lent_stands, lent_tells, may_be_handed, needs_blocks, reads_last, reads_more, reordered_sizes}
use Rattle.odata_http.proofs.query_run.QueryRun.read_on.Goals as goal

pub next_block-block-requires : goal.next_block-block-requires
next_block-block-requires c =
    lent_needs c.args.self.run.value c.deref.result.now c.index-tables-self.result c.deref.ensures
    (needs_blocks c.args.catalog.now c.tables.result.now c.args.self c.index-tables-self.result c.requires c.tables.ensures c.index-tables-self.is)

pub advance-requires : goal.advance-requires
advance-requires c =
    lent_handed c.args.self.run.value c.deref_mut.result.now c.next_block-block.result c.deref_mut.ensures.value
    (may_be_handed c.args.catalog.now c.tables.result.now c.args.self c.index-tables-self.result c.next_block-block.result c.requires c.tables.ensures c.index-tables-self.is
    (lent_tells c.args.self.run.value c.deref.result.now c.index-tables-self.result c.next_block-block.result c.deref.ensures c.next_block-block.ensures))

pub counted-sizes-requires : goal.counted-sizes-requires
counted-sizes-requires c =
    let is = c.requires.2 in
    let block = block_is c.args.catalog.now c.tables.result.now c.args.self c.index-tables-self.result c.next_block-block.result c.requires.0 c.requires.1 is c.tables.ensures
    c.index-tables-self.is
    (lent_tells c.args.self.run.value c.deref.result.now c.index-tables-self.result c.next_block-block.result c.deref.ensures c.next_block-block.ensures) in
    let on = advanced_more is.plan is.table is.handed _ _ c.in-Ok-More.field-0-is
    (c.in-Ok-More.ensures.advances is.plan is.table is.handed (lent_stands c.args.self.run.value c.deref_mut.result.now is.plan is.table is.handed c.deref_mut.ensures.value is.stands) block) in
    (is.plan, is.table, reads (is.handed + 1) (lent_stands c.advance.new.self c.deref-in-Ok-More.result.now is.plan is.table (is.handed + 1) c.deref-in-Ok-More.ensures on.1))

pub returns-in-Ok-More-clause-reads : goal.returns-in-Ok-More-clause-reads
returns-in-Ok-More-clause-reads c = λ asked left is.
    let block = block_is c.args.catalog.now c.tables.result.now c.args.self c.index-tables-self.result c.next_block-block.result asked left is c.tables.ensures
    c.index-tables-self.is
    (lent_tells c.args.self.run.value c.deref.result.now c.index-tables-self.result c.next_block-block.result c.deref.ensures c.next_block-block.ensures) in
    let on = advanced_more is.plan is.table is.handed _ _ c.in-Ok-More.field-0-is
    (c.in-Ok-More.ensures.advances is.plan is.table is.handed (lent_stands c.args.self.run.value c.deref_mut.result.now is.plan is.table is.handed c.deref_mut.ensures.value is.stands) block) in
    reads_more c.args.catalog.now asked left c.args.self _ is refl refl refl refl on.0 on.1
    (λ rows answers. c.counted-sizes.ensures is.plan is.table rows (reads (is.handed + 1) (lent_stands c.advance.new.self c.deref-in-Ok-More.result.now is.plan is.table (is.handed + 1) c.deref-in-Ok-More.ensures on.1)) answers)

pub finish-rows-requires : goal.finish-rows-requires
finish-rows-requires c =
    let is = c.requires.2 in
    let block = block_is c.args.catalog.now c.tables.result.now c.args.self c.index-tables-self.result c.next_block-block.result c.requires.0 c.requires.1 is c.tables.ensures
    c.index-tables-self.is
    (lent_tells c.args.self.run.value c.deref.result.now c.index-tables-self.result c.next_block-block.result c.deref.ensures c.next_block-block.ensures) in
    let on = advanced_done is.plan is.table is.handed _ _ c.in-Ok-Done.field-0-is
    (c.in-Ok-Done.ensures.advances is.plan is.table is.handed (lent_stands c.args.self.run.value c.deref_mut.result.now is.plan is.table is.handed c.deref_mut.ensures.value is.stands) block) in
    (on.0, (lent_gives c.advance.new.self c.into_inner.result on.0 c.into_inner.ensures on.3))

pub counted-sizes-requires-in-Ok-Done : goal.counted-sizes-requires-in-Ok-Done
counted-sizes-requires-in-Ok-Done c =
    let is = c.requires.2 in
    let block = block_is c.args.catalog.now c.tables.result.now c.args.self c.index-tables-self.result c.next_block-block.result c.requires.0 c.requires.1 is c.tables.ensures
    c.index-tables-self.is
    (lent_tells c.args.self.run.value c.deref.result.now c.index-tables-self.result c.next_block-block.result c.deref.ensures c.next_block-block.ensures) in
    let on = advanced_done is.plan is.table is.handed _ _ c.in-Ok-Done.field-0-is
    (c.in-Ok-Done.ensures.advances is.plan is.table is.handed (lent_stands c.args.self.run.value c.deref_mut.result.now is.plan is.table is.handed c.deref_mut.ensures.value is.stands) block) in
    (is.plan, is.table, lent_lends c.advance.new.self c.deref-in-Ok-Done.result.now is.plan is.table c.deref-in-Ok-Done.ensures (ended on.4))

pub answer_response-requires-clause-counted : goal.answer_response-requires-clause-counted
answer_response-requires-clause-counted c =
    let is = c.requires.2 in
    let block = block_is c.args.catalog.now c.tables.result.now c.args.self c.index-tables-self.result c.next_block-block.result c.requires.0 c.requires.1 is c.tables.ensures
    c.index-tables-self.is
    (lent_tells c.args.self.run.value c.deref.result.now c.index-tables-self.result c.next_block-block.result c.deref.ensures c.next_block-block.ensures) in
    let on = advanced_done is.plan is.table is.handed _ _ c.in-Ok-Done.field-0-is
    (c.in-Ok-Done.ensures.advances is.plan is.table is.handed (lent_stands c.args.self.run.value c.deref_mut.result.now is.plan is.table is.handed c.deref_mut.ensures.value is.stands) block) in
    let moved = c.orders_move_rows.ensures is.plan is.table on.0 on.2 in
    let lends = lent_lends c.advance.new.self c.deref-in-Ok-Done.result.now is.plan is.table c.deref-in-Ok-Done.ensures (ended on.4) in
    subst (λ (rows : RowsOf). HaveSizesIn c.args.self.format c.counted-sizes-in-Ok-Done.result rows) (sym (c.finish-rows.ensures on.0 (lent_gives c.advance.new.self c.into_inner.result on.0 c.into_inner.ensures on.3)).rows_are)
    (reordered_sizes c.args.self.format c.counted-sizes-in-Ok-Done.result moved.0 on.0 moved.2
    (c.counted-sizes-in-Ok-Done.ensures is.plan is.table moved.0 lends moved.1 (is.counted moved.0 moved.1)))

pub answer_response-requires-clause-untaken : goal.answer_response-requires-clause-untaken
answer_response-requires-clause-untaken c =
    let is = c.requires.2 in
    let block = block_is c.args.catalog.now c.tables.result.now c.args.self c.index-tables-self.result c.next_block-block.result c.requires.0 c.requires.1 is c.tables.ensures
    c.index-tables-self.is
    (lent_tells c.args.self.run.value c.deref.result.now c.index-tables-self.result c.next_block-block.result c.deref.ensures c.next_block-block.ensures) in
    let on = advanced_done is.plan is.table is.handed _ _ c.in-Ok-Done.field-0-is
    (c.in-Ok-Done.ensures.advances is.plan is.table is.handed (lent_stands c.args.self.run.value c.deref_mut.result.now is.plan is.table is.handed c.deref_mut.ensures.value is.stands) block) in
    (c.finish-rows.ensures on.0 (lent_gives c.advance.new.self c.into_inner.result on.0 c.into_inner.ensures on.3)).untaken

pub returns-in_ok-answer-in-Ok-Done-clause-reads : goal.returns-in_ok-answer-in-Ok-Done-clause-reads
returns-in_ok-answer-in-Ok-Done-clause-reads c = λ asked left is.
    let block = block_is c.args.catalog.now c.tables.result.now c.args.self c.index-tables-self.result c.next_block-block.result asked left is c.tables.ensures
    c.index-tables-self.is
    (lent_tells c.args.self.run.value c.deref.result.now c.index-tables-self.result c.next_block-block.result c.deref.ensures c.next_block-block.ensures) in
    let on = advanced_done is.plan is.table is.handed _ _ c.in-Ok-Done.field-0-is
    (c.in-Ok-Done.ensures.advances is.plan is.table is.handed (lent_stands c.args.self.run.value c.deref_mut.result.now is.plan is.table is.handed c.deref_mut.ensures.value is.stands) block) in
    let rows = (c.finish-rows.ensures on.0 (lent_gives c.advance.new.self c.into_inner.result on.0 c.into_inner.ensures on.3)).rows_are in
    reads_last c.args.catalog.now asked left c.args.self _ (Some c.finish-rows.result.rows) is on.1 (on.2 ∙ ap Some (sym rows)) c.in_ok-answer-in-Ok-Done.ensures.response

pub returns-in_ok-error_response-in-Err-DivisionByZero-clause-reads : goal.returns-in_ok-error_response-in-Err-DivisionByZero-clause-reads
returns-in_ok-error_response-in-Err-DivisionByZero-clause-reads c = λ asked left is.
    let block = block_is c.args.catalog.now c.tables.result.now c.args.self c.index-tables-self.result c.next_block-block.result asked left is c.tables.ensures
    c.index-tables-self.is
    (lent_tells c.args.self.run.value c.deref.result.now c.index-tables-self.result c.next_block-block.result c.deref.ensures c.next_block-block.ensures) in
    let on = advanced_fault is.plan is.table is.handed c.advance.new.self _ c.in-Err-DivisionByZero.field-0-is
    (c.in-Err-DivisionByZero.ensures.advances is.plan is.table is.handed (lent_stands c.args.self.run.value c.deref_mut.result.now is.plan is.table is.handed c.deref_mut.ensures.value is.stands) block) in
    reads_last c.args.catalog.now asked left c.args.self _ None is on.0 on.1 c.in_ok-error_response-in-Err-DivisionByZero.ensures.response
