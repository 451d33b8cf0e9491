use Rattle.std.proofs.Common.{Err, refl, subst}
use Rattle.odata_request.specs.Fault.{Refuses}
use Rattle.odata_request.specs.Request.{Asks}
use Rattle.odata_request.proofs.InsideLemmas.{asks_inside}
use Rattle.odata_request.proofs.request.request_of.Goals as goal

pub returns-in-Err-Refused-clause-asks : goal.returns-in-Err-Refused-clause-asks
returns-in-Err-Refused-clause-asks c = record {
  outcome = Err c.in-Err-Refused.code;
  asks = subst (Refuses (Asks c.args.catalog.now c.args.fault c.args.target.now)) c.in-Err-Refused.field-0-is c.in-Err-Refused.ensures;
  request_is = refl;
}

pub returns-in-Ok-clause-inside : goal.returns-in-Ok-clause-inside
returns-in-Ok-clause-inside c =
    asks_inside (record { filters = c.filters_are_queried.ensures; expressions = c.expressions_are_queried.ensures }) c.args.catalog.now c.args.fault c.args.target.now _
    c.requires c.in-Ok.ensures
