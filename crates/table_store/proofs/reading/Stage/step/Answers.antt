use Rattle.std.proofs.Common.{sym, subst}
use Rattle.std.proofs.lemmas.Result.{IfErr-weaker, IfOk-weaker}
use Rattle.csvw_meta.specs.Schema.{schema_view}
use Rattle.table_store.specs.Loading.{table_cause}
use Rattle.table_store.specs.Steps.{stage_left, IsAtStage, ReadsKeys, StageGoesOn, Summarizes}
use Rattle.table_store.proofs.StageLemmas.{columns_refused, few_keys, rows_refused, stage_of_file, stage_of_rows}
use Rattle.table_store.specs.declared.reading.Stage.TheVariants as stages
use Rattle.table_store.proofs.reading.Stage.step.Goals as goal

pub file_step-requires-clause-reads : goal.file_step-requires-clause-reads
file_step-requires-clause-reads c = let at = rw c.in-File.is at c.requires.at.2 in (at.0, at.2)

pub keys_step-requires-clause-few : goal.keys_step-requires-clause-few
keys_step-requires-clause-few c =
    let at = rw c.in-Keys.is at c.requires.at.2 in few_keys c.requires.at.0 c.requires.at.1 (schema_view c.args.schema.now) c.in-Keys.keys at

pub keys_step-requires-clause-reads : goal.keys_step-requires-clause-reads
keys_step-requires-clause-reads c =
    let at = rw c.in-Keys.is at c.requires.at.2 in (at.2.raw.rows, at.2.reads)

pub returns-in-File-clause-goes_on : goal.returns-in-File-clause-goes_on
returns-in-File-clause-goes_on c =
    let schema = schema_view c.args.schema.now in
    IfOk-weaker c.file_step.result _ _ (λ step on limit file at.
    subst (λ self. StageGoesOn limit file schema (stage_left self) step) (sym c.in-File.is)
    (stage_of_file limit file schema c.in-File.reading step (subst (IsAtStage limit file schema) c.in-File.is at) on)) c.file_step.ensures.goes_on

pub returns-in-File-clause-fault : goal.returns-in-File-clause-fault
returns-in-File-clause-fault c =
    let schema = schema_view c.args.schema.now in
    IfErr-weaker c.file_step.result _ _ (λ fault refused limit file at.
    let here = subst (IsAtStage limit file schema) c.in-File.is at in
    columns_refused limit file schema c.in-File.reading (table_cause fault) here (refused here.0 here.2)) c.file_step.ensures.fault

pub returns-in-Keys-clause-goes_on : goal.returns-in-Keys-clause-goes_on
returns-in-Keys-clause-goes_on c =
    let schema = schema_view c.args.schema.now in
    IfOk-weaker c.keys_step.result _ _ (λ step on limit file at.
    subst (λ self. StageGoesOn limit file schema (stage_left self) step) (sym c.in-Keys.is)
    (stage_of_rows limit file schema (λ rows. ReadsKeys schema rows c.in-Keys.keys) (stage_left (stages.Keys c.in-Keys.keys)) step
    (subst (IsAtStage limit file schema) c.in-Keys.is at) on)) c.keys_step.ensures.goes_on

pub returns-in-Keys-clause-fault : goal.returns-in-Keys-clause-fault
returns-in-Keys-clause-fault c =
    let schema = schema_view c.args.schema.now in
    IfErr-weaker c.keys_step.result _ _ (λ fault refused limit file at.
    let here = subst (IsAtStage limit file schema) c.in-Keys.is at in
    rows_refused limit file schema (λ rows. ReadsKeys schema rows c.in-Keys.keys) (table_cause fault) here (refused here.2.raw.rows here.2.reads)) c.keys_step.ensures.fault

pub summaries_step-requires : goal.summaries_step-requires
summaries_step-requires c =
    let at = rw c.in-Summaries.is at c.requires.at.2 in record { reads = (schema_view c.args.schema.now, at.2.raw.rows, at.2.reads) }

pub returns-in-Summaries-clause-goes_on : goal.returns-in-Summaries-clause-goes_on
returns-in-Summaries-clause-goes_on c =
    let schema = schema_view c.args.schema.now in
    IfOk-weaker c.summaries_step.result _ _ (λ step on limit file at.
    subst (λ self. StageGoesOn limit file schema (stage_left self) step) (sym c.in-Summaries.is)
    (stage_of_rows limit file schema (λ rows. Summarizes schema rows c.in-Summaries.rows) (stage_left (stages.Summaries c.in-Summaries.rows)) step
    (subst (IsAtStage limit file schema) c.in-Summaries.is at) (on schema))) c.summaries_step.ensures.goes_on

pub returns-in-Summaries-clause-fault : goal.returns-in-Summaries-clause-fault
returns-in-Summaries-clause-fault c =
    IfErr-weaker c.summaries_step.result _ _ (λ fault is limit file at. rw is tt) c.summaries_step.ensures.memory
