use Rattle.std.proofs.Common.{rules, ◌≡◌, replicate, None, refl}
use Rattle.odata_hub.proofs.PlaceLemmas.{zip_free}
use Rattle.odata_hub.proofs.hub.Hub.new.Goals as goal

pub returns : goal.returns
returns c =
    let same : c.loop-place.free.items ≡ replicate c.args.places None = search rules in
    record { tables = refl; places = rw same (zip_free c.args.places) }
