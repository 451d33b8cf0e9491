use Rattle.std.proofs.Common.{subst}
use Rattle.table_store.specs.Catalog.{CatalogOf}
use Rattle.odata_hub.specs.Connections.{Done}
use Rattle.odata_hub.specs.Schedules.{Reload}
use Rattle.odata_hub.specs.Stands.{IsHubStep}
use Rattle.hub_scripts.proofs.CommandLemmas.{kept_answers, reload_answers}
use Rattle.hub_scripts.proofs.replay.reload_line.Goals as goal

pub returns-in_ok-done_line-in-Ok : goal.returns-in_ok-done_line-in-Ok
returns-in_ok-done_line-in-Ok g c =
    reload_answers c.args.folder.now c.args.hub.now c.reload.new.self _ _ c.in-Ok.catalog
    (record { load = c.in-Ok.ensures.load; means = c.in-Ok.ensures.tables; counts = c.in-Ok.ensures.counts })
    (subst (λ (x : CatalogOf). IsHubStep c.args.hub.now (Reload x) Done c.reload.new.self) c.in-Ok-new.ensures.ok c.reload.ensures)
    _ c.in_ok-done_line-in-Ok.ensures

pub returns-in-Err : goal.returns-in-Err
returns-in-Err g c =
    kept_answers c.args.folder.now c.args.hub.now _ _ c.in-Err.fault
    (record { load = c.in-Err.ensures.load; cause = c.in-Err.ensures.fault; counts = c.in-Err.ensures.counts }) c.kept_line.result c.kept_line.ensures
