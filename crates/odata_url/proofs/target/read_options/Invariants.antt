use Rattle.std.proofs.Common.{◌≡◌, [], map}
use Rattle.std.specs.Prelude.{filter}
use Rattle.odata_url.specs.Cuts.{parts, parts_left}
use Rattle.odata_url.specs.Target.{ampersand, with_parts, has_bytes, option_view}
use Rattle.odata_url.proofs.CutLemmas.{length_left}
use Rattle.odata_url.proofs.target.read_options.Given as goal

abbrev pub invariant-loop-rest : goal.invariant-loop-rest
invariant-loop-rest l = with_parts [] (filter has_bytes (parts ampersand l.fn.query)) ≡ with_parts (map option_view l.options.items) (filter has_bytes (parts_left ampersand l.rest))

abbrev pub decreases-loop-rest : goal.decreases-loop-rest
decreases-loop-rest l = length_left l.rest
