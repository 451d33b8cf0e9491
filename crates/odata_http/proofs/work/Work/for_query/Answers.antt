use Rattle.std.proofs.Common.{◌≡◌, Some, refl}
use Rattle.odata_query.specs.Query.{optional_values, values_view}
use Rattle.odata_request.specs.Request.{rows_request_view}
use Rattle.odata_http.proofs.WorkLemmas.{starts_finding}
use Rattle.odata_http.proofs.work.Work.for_query.Goals as goal

pub returns-in-Some : goal.returns-in-Some
returns-in-Some c =
    let at = c.in-Some.is in
    let taken = c.in-Some.ensures.value in
    let key : optional_values c.args.asked.query.key ≡ Some (values_view c.in-Some.key) = cc in
    starts_finding c.args.catalog.now (rows_request_view c.args.asked)
    (record { table = c.args.asked.table; key = c.in-Some.key; select = c.args.asked.query.select; format = c.args.asked.format })
    c.keys_stand_alone.ensures c.requires.asked c.requires.inside refl refl key refl
