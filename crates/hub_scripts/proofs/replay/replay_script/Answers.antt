use Rattle.std.proofs.Common.{refl, subst}
use Rattle.table_store.specs.Catalog.{CatalogOf}
use Rattle.odata_hub.specs.Stands.{Models}
use Rattle.hub_scripts.specs.Replay.{free_hub}
use Rattle.hub_scripts.proofs.ReplayLemmas.{is_replay, lacks_hub}
use Rattle.hub_scripts.proofs.replay.replay_script.Goals as goal

pub returns-in_default : goal.returns-in_default
returns-in_default g c =
    lacks_hub _ c.in-Ok.catalog (g.F.Folders.folders c.load.new.self) (record { load = c.in-Ok.ensures.load; means = c.in-Ok.ensures.tables; counts = c.in-Ok.ensures.counts }) refl refl

pub returns-in-Err-new : goal.returns-in-Err-new
returns-in-Err-new g c =
    lacks_hub _ c.in-Ok.catalog (g.F.Folders.folders c.load.new.self) (record { load = c.in-Ok.ensures.load; means = c.in-Ok.ensures.tables; counts = c.in-Ok.ensures.counts }) refl refl

pub returns-in-Ok-new-2 : goal.returns-in-Ok-new-2
returns-in-Ok-new-2 g c =
    is_replay _ c.in-Ok.catalog (g.F.Folders.folders c.load.new.self) (record { load = c.in-Ok.ensures.load; means = c.in-Ok.ensures.tables; counts = c.in-Ok.ensures.counts }) c.play_lines.result
    (c.play_lines.ensures (free_hub c.in-Ok.catalog) (subst (λ (x : CatalogOf). Models c.in-Ok-new-2.hub (free_hub x)) c.in-Ok-new.ensures.ok c.in-Ok-new-2.ensures))
