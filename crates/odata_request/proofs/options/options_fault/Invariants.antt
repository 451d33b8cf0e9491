use Rattle.std.proofs.Common.{◌≡◌, drop, map}
use Rattle.odata_url.specs.Target.{option_view}
use Rattle.odata_request.specs.Options.{options_fault}
use Rattle.odata_request.specs.Resource.{resource_view}
use Rattle.odata_request.proofs.options.options_fault.Given as goal

-- the fault is that of the options from here on
abbrev pub invariant-loop-option : goal.invariant-loop-option
invariant-loop-option l =
    options_fault (resource_view l.resource) (map option_view l.options) ≡ options_fault (resource_view l.resource) (map option_view (drop l.option-index l.options))
