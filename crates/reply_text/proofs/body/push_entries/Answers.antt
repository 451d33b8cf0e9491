use Rattle.table_store.specs.Table.{TableOf}
use Rattle.reply_text.specs.Body.{entry_text}
use Rattle.reply_text.proofs.JoinLemmas.{item_more}
use Rattle.reply_text.proofs.body.push_entries.Goals as goal

pub loop-place-preserved : goal.loop-place-preserved
loop-place-preserved c =
    item_more (λ (table : TableOf). entry_text table.schema.name) c.args.tables.now c.index-tables-place.result _ _ _ _ _ c.loop-place.invariant c.loop-place-test.true c.index-tables-place.is
    c.in_ok-push_comma.ensures (rw (c.as_bytes.ensures.value, c.name.ensures) at c.in_ok-push_entry.ensures)
