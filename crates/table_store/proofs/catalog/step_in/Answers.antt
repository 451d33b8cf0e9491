use Rattle.std.proofs.Common.{sym}
use Rattle.std.proofs.lemmas.Result.{IfErr-weaker}
use Rattle.cell_types.proofs.CaseLaws.{IfOk-both}
use Rattle.table_store.specs.Fault.{load_cause}
use Rattle.table_store.proofs.MemoryLemmas.{begin_refused_in, begun_in, feeds_none, goes_on_in, keeps_files}
use Rattle.table_store.proofs.catalog.step_in.Goals as goal

pub returns-in-Ok-clause-goes_on : goal.returns-in-Ok-clause-goes_on
returns-in-Ok-clause-goes_on c = λ folder loads.
    begun_in folder c.args.files.now.items _ c.args.loading c.in-Ok.loading c.in-Some.url.now c.take_file-file.result (sym c.in-Some.ensures)
    c.take_file-file.ensures.file c.take_file-file.ensures.others c.in-Ok.ensures.goes_on c.in-Ok.ensures.coming loads

pub returns-in-Err-clause-fault : goal.returns-in-Err-clause-fault
returns-in-Err-clause-fault c = λ folder loads.
    begin_refused_in folder c.args.files.now.items c.args.loading c.in-Some.url.now c.take_file-file.result (load_cause c.in-Err.fault) (sym c.in-Some.ensures)
    c.take_file-file.ensures.file c.in-Err.ensures.fault loads

pub returns-in-Ok-feed-clause-goes_on : goal.returns-in-Ok-feed-clause-goes_on
returns-in-Ok-feed-clause-goes_on c = λ folder loads.
    let on = c.in-Ok-feed.ensures.goes_on folder folder (feeds_none folder c.args.files.now.items c.args.loading loads) in
    (keeps_files folder c.args.files.now.items c.args.loading c.in-Ok-feed.loading loads on.0 c.in-Ok-feed.ensures.coming, on.1)

pub returns-in-Err-feed-clause-fault : goal.returns-in-Err-feed-clause-fault
returns-in-Err-feed-clause-fault c = λ folder loads. c.in-Err-feed.ensures.fault folder folder (feeds_none folder c.args.files.now.items c.args.loading loads)

pub returns-clause-goes_on : goal.returns-clause-goes_on
returns-clause-goes_on c =
    IfOk-both c.step.result _ _ _ (λ loaded on same folder loads. goes_on_in folder c.args.files.now.items c.args.loading loaded (on folder loads.loads) same loads)
    c.step.ensures.goes_on c.step.ensures.coming

pub returns-clause-fault : goal.returns-clause-fault
returns-clause-fault c = IfErr-weaker c.step.result _ _ (λ e refused folder loads. refused folder loads.loads) c.step.ensures.fault
