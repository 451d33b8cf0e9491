use Rattle.std.proofs.Common.{sym, subst}
use Rattle.odata_url.specs.Target.{target_view}
use Rattle.odata_request.specs.Fault.{Refuses}
use Rattle.odata_request.specs.Request.{Asks, request_view}
use Rattle.odata_request.proofs.RowsLemmas.{asks_target, refused_head, refused_target}
use Rattle.odata_request.proofs.StepLemmas.{none_of, passed_on}
use Rattle.odata_request.proofs.request.asked.Goals as goal

pub returns-in-Some : goal.returns-in-Some
returns-in-Some c =
    subst (Refuses (Asks c.args.catalog.now c.args.fault c.args.target.now)) (sym c.from.ensures)
    (refused_head c.args.catalog.now c.args.fault c.args.target.now c.in-Some.fault c.in-Some.is)

pub returns-in_err-target : goal.returns-in_err-target
returns-in_err-target c =
    passed_on request_view (Asks c.args.catalog.now c.args.fault c.args.target.now) c.from_residual.result _ c.from_residual.ensures.1
    (refused_target c.args.catalog.now c.args.fault c.args.target.now (none_of c.args.fault c.in_default.not-Some) c.in_err-target.field-0.0 c.in_err-target.ensures)

pub returns : goal.returns
returns c =
    asks_target c.args.catalog.now c.args.fault c.args.target.now (none_of c.args.fault c.in_default.not-Some) (target_view c.in_ok-target.target) c.in_ok-target.ensures
    c.path_request.result (rw (c.as_slice.ensures.value, c.as_slice-2.ensures.value) at c.path_request.ensures)
