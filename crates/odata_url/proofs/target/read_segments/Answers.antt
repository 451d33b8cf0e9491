use Rattle.std.proofs.Common.{map, string_bytes, ap, ◌∙◌}
use Rattle.std.proofs.lemmas.Result.{err_from_is_err_and}
use Rattle.odata_url.specs.Cuts.{parts_left}
use Rattle.odata_url.specs.Target.{slash}
use Rattle.odata_url.proofs.FaultLemmas.{fault_of_part}
use Rattle.odata_url.proofs.TargetLemmas.{segments_of-fault, segments_of-all}
use Rattle.odata_url.proofs.target.read_segments.Goals as goal

pub returns-in_err-decode : goal.returns-in_err-decode
returns-in_err-decode c =
    let error = err_from_is_err_and c.from_residual.result c.from_residual.ensures.1 in
    let next = ap (parts_left slash) c.in-Some.is ∙ c.cut.ensures.parts in
    rw (error.1, error.2)
    (fault_of_part _ _ _ (segments_of-fault c.args.path.now (map string_bytes c.loop-rest.segments.items) c.loop-rest.rest _ _ _ c.loop-rest.invariant next) c.in_err-decode.ensures)

pub returns : goal.returns
returns c = segments_of-all c.args.path.now (map string_bytes c.loop-rest.segments.items) c.loop-rest.rest c.loop-rest.invariant c.in_default.is
