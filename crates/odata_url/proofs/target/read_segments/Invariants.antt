use Rattle.std.proofs.Common.{◌≡◌, map, string_bytes}
use Rattle.odata_url.specs.Fault.{each}
use Rattle.odata_url.specs.Escapes.{decoded_text}
use Rattle.odata_url.specs.Cuts.{parts, parts_left}
use Rattle.odata_url.specs.Target.{slash}
use Rattle.odata_url.proofs.FaultLemmas.{onto}
use Rattle.odata_url.proofs.CutLemmas.{length_left}
use Rattle.odata_url.proofs.target.read_segments.Given as goal

abbrev pub invariant-loop-rest : goal.invariant-loop-rest
invariant-loop-rest l = each decoded_text (parts slash l.fn.path) ≡ onto (map string_bytes l.segments.items) (each decoded_text (parts_left slash l.rest))

abbrev pub decreases-loop-rest : goal.decreases-loop-rest
decreases-loop-rest l = length_left l.rest
