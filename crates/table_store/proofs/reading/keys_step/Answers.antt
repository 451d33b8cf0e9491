use Rattle.std.proofs.Common.{◌<◌, All, length, sym, subst, ap, ◌∙◌, arith}
use Rattle.csvw_meta.specs.Schema.{schema_view}
use Rattle.csv_fields.specs.Values.{rows_in}
use Rattle.key_index.specs.declared.reading.KeyedRows.{KeyedRows}
use Rattle.key_index.specs.Keys.{typed_keys, AreKeysOf, HasKeyFault}
use Rattle.key_index.specs.Reading.{AreHeld}
use Rattle.column_blocks.specs.TypedColumn.{AreTyped}
use Rattle.file_cells.specs.Reading.{HasColumns}
use Rattle.table_store.proofs.LoadingLemmas.{key_fault-cause}
use Rattle.table_store.proofs.StageLemmas.{keys_read, summaries_begun}
use Rattle.table_store.proofs.reading.keys_step.Goals as goal

pub step-requires-clause-places : goal.step-requires-clause-places
step-requires-clause-places c =
    let typed = c.requires.reads.1.columns.cells in
    subst (λ places. All (λ place. place < length c.args.keys.columns.items) places) (sym c.as_slice.ensures.value)
    (λ k d within. omega (arith, typed.count, c.requires.key k d within))

pub step-requires-clause-held : goal.step-requires-clause-held
step-requires-clause-held c =
    subst (λ places. AreHeld places c.args.keys) (sym c.as_slice.ensures.value) c.requires.reads.1.held

pub returns-in-On-clause-goes_on : goal.returns-in-On-clause-goes_on
returns-in-On-clause-goes_on c = λ raws reads.
    let schema = schema_view c.args.schema.now in
    let on = rw c.in-On.is at c.in_ok-keys.ensures in (
      record {
        count = on.1 ∙ reads.count;
        wide = reads.wide;
        columns = subst (HasColumns schema.columns raws) (sym on.2) reads.columns;
        held = subst (λ places. AreHeld places c.in-On.keys) c.as_slice.ensures.value on.0;
      },
      omega (arith, on.1, on.3),
    )

pub returns-in_ok-rows-in-Over-clause-goes_on : goal.returns-in_ok-rows-in-Over-clause-goes_on
returns-in_ok-rows-in-Over-clause-goes_on c = λ raws reads.
    let schema = schema_view c.args.schema.now in
    let old = c.args.keys in
    let over = rw c.in-Over.is at c.in_ok-keys.ensures in
    let start = c.in_ok-rows-in-Over.ensures in (
      summaries_begun schema raws c.in-Over.keyed c.in_ok-rows-in-Over.rows start.rows start.none reads.columns.right (record {
        count = over.1 ∙ reads.count;
        columns = subst (AreTyped schema.columns (rows_in schema.columns raws)) (sym over.2) reads.columns.cells;
        keys = subst (AreKeysOf c.in-Over.keyed.keys)
            (ap (λ places. typed_keys places old.columns.items old.rows) c.as_slice.ensures.value
            ∙ keys_read schema raws old.rows old.columns.items reads.count reads.wide reads.columns.cells)
            over.0;
      }),
      omega (arith, over.1, ap (λ (r : KeyedRows). r.rows) start.rows, ap length start.none),
    )

pub returns-in-Refused-clause-fault : goal.returns-in-Refused-clause-fault
returns-in-Refused-clause-fault c = λ raws reads.
    let schema = schema_view c.args.schema.now in
    let old = c.args.keys in
    let lacks = rw c.in-Refused.is at c.in_ok-keys.ensures in
    key_fault-cause schema raws c.in-Refused.fault reads.columns.right (subst (λ of. HasKeyFault of c.in-Refused.fault)
    (ap (λ places. typed_keys places old.columns.items old.rows) c.as_slice.ensures.value
    ∙ keys_read schema raws old.rows old.columns.items reads.count reads.wide reads.columns.cells)
    lacks)
