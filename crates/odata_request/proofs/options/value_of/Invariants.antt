use Rattle.std.proofs.Common.{◌≡◌, drop, map}
use Rattle.odata_url.specs.Target.{option_view}
use Rattle.odata_request.specs.Options.{option_value}
use Rattle.odata_request.proofs.options.value_of.Given as goal

-- the value is that among the options from here on
abbrev pub invariant-loop-option : goal.invariant-loop-option
invariant-loop-option l = option_value l.name (map option_view l.options) ≡ option_value l.name (map option_view (drop l.option-index l.options))
