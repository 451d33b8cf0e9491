use Rattle.std.proofs.Common.{IfSome, refl, sym, subst, string_bytes}
use Rattle.csvw_meta.specs.Laws.{HasShortDefaults}
use Rattle.csvw_meta.specs.Schema.{schema_view}
use Rattle.table_store.specs.Catalog.{HasTable}
use Rattle.table_store.specs.Fault.{load_cause}
use Rattle.table_store.specs.Loading.{table_cause, HasKeyColumns, IsRefusedTable}
use Rattle.table_store.proofs.CatalogLemmas.{refused-table}
use Rattle.table_store.proofs.StageLemmas.{at_stage, loads_on}
use Rattle.table_store.proofs.table_loading.TableLoading.step.Goals as goal

pub step-requires-clause-key : goal.step-requires-clause-key
step-requires-clause-key c = let l = c.requires.loads in subst HasKeyColumns (sym l.3.of_schema) l.3.keys

pub step-requires-clause-at : goal.step-requires-clause-at
step-requires-clause-at c = let l = c.requires.loads in (l.0, l.1, at_stage l.0 l.1 l.2 c.args.self l.3)

pub returns-in-Ok-On-clause-goes_on : goal.returns-in-Ok-On-clause-goes_on
returns-in-Ok-On-clause-goes_on c = λ limit file schema loads.
    let goes = rw c.in-Ok-On.field-0-is at c.in-Ok-On.ensures.goes_on in
    let next = goes limit file (at_stage limit file schema c.args.self loads) in
    (loads_on limit file schema c.args.self c.in-Ok-On.stage next.0 loads, next.1)

pub of_rows-requires-clause-read : goal.of_rows-requires-clause-read
of_rows-requires-clause-read c =
    let l = c.requires.loads in
    let goes = rw c.in-Ok-Over.field-0-is at c.in-Ok-Over.ensures.goes_on in
    (l.0, l.1, goes l.0 l.1 (at_stage l.0 l.1 l.2 c.args.self l.3))

pub of_rows-requires-clause-key : goal.of_rows-requires-clause-key
of_rows-requires-clause-key c = let l = c.requires.loads in subst HasKeyColumns (sym l.3.of_schema) l.3.keys

pub of_rows-requires-clause-defaults : goal.of_rows-requires-clause-defaults
of_rows-requires-clause-defaults c = let l = c.requires.loads in subst HasShortDefaults (sym l.3.of_schema) l.3.defaults

pub returns-in-Ok-Over-clause-goes_on : goal.returns-in-Ok-Over-clause-goes_on
returns-in-Ok-Over-clause-goes_on c = λ limit file schema loads.
    let goes = rw c.in-Ok-Over.field-0-is at c.in-Ok-Over.ensures.goes_on in
    subst (λ s. HasTable limit file s c.of_rows.result) loads.of_schema
    (c.of_rows.ensures limit file (goes limit file (at_stage limit file schema c.args.self loads)))

pub returns-in-Err-clause-fault : goal.returns-in-Err-clause-fault
returns-in-Err-clause-fault c = λ limit file schema loads.
    subst (λ s. IfSome (load_cause c.fault_of.result) (IsRefusedTable limit file s)) loads.of_schema
    (refused-table limit file (schema_view c.args.self.schema) (string_bytes c.args.self.schema.url) (table_cause c.in-Err.fault) (load_cause c.fault_of.result)
    c.fault_of.ensures.cause refl (c.in-Err.ensures.fault limit file (at_stage limit file schema c.args.self loads)))
