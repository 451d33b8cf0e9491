use Rattle.std.proofs.Common.{◌+◌, ◌*◌, ◌++◌, map, [], append-nil, refl, sym, ap, ◌∙◌, subst}
use Rattle.cell_types.specs.Column.{column_view}
use Rattle.csvw_meta.specs.Schema.{schema_view}
use Rattle.file_cells.specs.Reading.{IsReading, IsWrongFile, RefusesGiven, StepsOn}
use Rattle.file_cells.specs.declared.file_reading.FileStep.TheVariants as file_steps
use Rattle.table_store.proofs.LoadingLemmas.{file_known, file_wrong}
use Rattle.table_store.proofs.StageLemmas.{keys_begun}
use Rattle.table_store.proofs.reading.file_step.Goals as goal

pub step-requires-clause-reads : goal.step-requires-clause-reads
step-requires-clause-reads c =
    (c.requires.reads.0, subst (λ columns. IsReading (map column_view columns) c.requires.reads.0 c.args.reading) (sym c.as_slice.ensures.value) c.requires.reads.1)

pub returns-in-Ok-On-clause-goes_on : goal.returns-in-Ok-On-clause-goes_on
returns-in-Ok-On-clause-goes_on c = λ given reads.
    let on = rw c.in-Ok-On.field-0-is at c.in-Ok-On.ensures.goes_on in
    (subst (λ columns. StepsOn (map column_view columns) c.args.reading (file_steps.On c.in-Ok-On.reading)) c.as_slice.ensures.value on) given reads

pub returns-in-Ok-Over-clause-goes_on : goal.returns-in-Ok-Over-clause-goes_on
returns-in-Ok-Over-clause-goes_on c = λ given reads.
    let schema = schema_view c.args.schema.now in
    let over = rw c.in-Ok-Over.field-0-is at c.in-Ok-Over.ensures.goes_on in
    let has = (subst (λ columns. StepsOn (map column_view columns) c.args.reading (file_steps.Over c.in-Ok-Over.read)) c.as_slice.ensures.value over) given reads in (
      keys_begun schema given c.in-Ok-Over.read c.start-keys.result reads.short has c.start-keys.ensures.rows c.start-keys.ensures.columns (c.start-keys.ensures.held schema.key),
      c.start-keys.ensures.left ∙ ap (λ n. 4 * n + 5) (sym c.start-keys.ensures.rows),
    )

pub returns-in-Err-clause-fault : goal.returns-in-Err-clause-fault
returns-in-Err-clause-fault c = λ given reads.
    let schema = schema_view c.args.schema.now in
    let refused = subst (λ columns. RefusesGiven (map column_view columns) c.args.reading c.in-Err.fault) c.as_slice.ensures.value c.in-Err.ensures.fault in
    let is = file_wrong schema given c.in-Err.fault (subst (λ bytes. IsWrongFile schema.columns bytes c.in-Err.fault) (append-nil given) (refused given [] reads (λ e. refl))) in
    rw c.fault_of_file.ensures.cause is

pub returns-in-Err-clause-memory : goal.returns-in-Err-clause-memory
returns-in-Err-clause-memory c none =
    let given = c.requires.reads.0 in
    let reads = subst (λ columns. IsReading (map column_view columns) given c.args.reading) (sym c.as_slice.ensures.value) c.requires.reads.1 in
    let wrong = c.in-Err.ensures.fault given [] reads (λ e. refl) in
    c.fault_of_file.ensures.memory (file_known (map column_view c.as_slice.result.now) (given ++ []) c.in-Err.fault wrong (sym c.fault_of_file.ensures.cause ∙ none))
