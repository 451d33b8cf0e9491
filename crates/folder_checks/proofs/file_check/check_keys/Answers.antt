use Rattle.std.proofs.Common.{◌≡◌, None, ◌∙◌, subst}
use Rattle.csvw_meta.specs.Schema.{schema_view}
use Rattle.key_index.specs.Key.{null_row, repeated_row}
use Rattle.key_index.specs.Keys.{HasKeyFault}
use Rattle.table_store.proofs.LoadingLemmas.{key_fault-cause}
use Rattle.folder_checks.proofs.CheckLemmas.{keys_of_kept}
use Rattle.folder_checks.proofs.file_check.check_keys.Goals as goal

pub loop-on-init : goal.loop-on-init
loop-on-init c = record {
  held = c.start-keys.ensures.held (schema_view c.args.schema.now).key;
  rows = c.start-keys.ensures.rows;
  columns = c.start-keys.ensures.columns ∙ c.in_ok-columns.ensures;
}

pub returns-in-Over-clause-keys : goal.returns-in-Over-clause-keys
returns-in-Over-clause-keys c raw count has =
    let keys = c.loop-on.keys in
    let invariant = c.loop-on.invariant in
    let over = rw c.in-Over.is at c.in_ok-on.ensures in
    let same = keys_of_kept (schema_view c.args.schema.now) raw c.args.readers.items c.as_slice.result.now keys.columns.items keys.rows c.args.rows c.requires.key has count
    c.as_slice.ensures.value invariant.columns invariant.rows in
    (subst (λ of. null_row of ≡ None) same over.0.whole, subst (λ of. repeated_row of ≡ None) same over.0.distinct)

pub returns-in-Refused-clause-fault : goal.returns-in-Refused-clause-fault
returns-in-Refused-clause-fault c raw count has =
    let keys = c.loop-on.keys in
    let invariant = c.loop-on.invariant in
    let lacks = rw c.in-Refused.is at c.in_ok-on.ensures in
    let same = keys_of_kept (schema_view c.args.schema.now) raw c.args.readers.items c.as_slice.result.now keys.columns.items keys.rows c.args.rows c.requires.key has count
    c.as_slice.ensures.value invariant.columns invariant.rows in
    key_fault-cause (schema_view c.args.schema.now) raw.rows c.in-Refused.fault has.right (subst (λ of. HasKeyFault of c.in-Refused.fault) same lacks)
