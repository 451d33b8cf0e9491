use Rattle.std.proofs.Common.{◌≡◌, map, drop}
use Rattle.odata_url.specs.Target.{stands_among, option_view}
use Rattle.odata_url.proofs.target.is_among.Given as goal

abbrev pub invariant-loop-option : goal.invariant-loop-option
invariant-loop-option l = stands_among (map option_view l.options) l.name ≡ stands_among (map option_view (drop l.option-index l.options)) l.name
