-- A hub that has other tables from now on.
use Rattle.std.proofs.Common.{◌≡◌, subst}
use Rattle.table_store.specs.Catalog.{CatalogOf}
use Rattle.odata_hub.specs.declared.hub.Hub.{Hub}
use Rattle.odata_hub.specs.Connections.{Done}
use Rattle.odata_hub.specs.Schedules.{Reload}
use Rattle.odata_hub.specs.Stands.{IsHubStep}

-- the tables are those
pub reload_step : (a b : Hub) (c d : CatalogOf) → IsHubStep a (Reload c) Done b → c ≡ d → IsHubStep a (Reload d) Done b
reload_step a b c d step e = let P : CatalogOf → Type 0 = λ x. IsHubStep a (Reload x) Done b in subst P e step
