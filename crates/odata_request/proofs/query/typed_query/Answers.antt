use Rattle.csvw_meta.specs.Schema.{schema_view}
use Rattle.odata_query.specs.Query.{query_typed_view, query_view}
use Rattle.odata_request.specs.Options.{asked_view}
use Rattle.odata_request.specs.Query.{AsksQuery}
use Rattle.odata_request.proofs.ReadingLemmas.{fit_query, unfit_query}
use Rattle.odata_request.proofs.StepLemmas.{passed_on, stop}
use Rattle.odata_request.proofs.query.typed_query.Goals as goal

pub returns-in_err-query : goal.returns-in_err-query
returns-in_err-query c =
    passed_on query_typed_view (AsksQuery c.args.limit (schema_view c.args.schema.now) (asked_view c.args.texts)) c.from_residual.result c.in_err-query.field-0.0 c.from_residual.ensures.1
    (stop _ _ c.in_err-query.field-0.0 c.in_err-query.ensures)

pub returns-in_err-check : goal.returns-in_err-check
returns-in_err-check c =
    passed_on query_typed_view (AsksQuery c.args.limit (schema_view c.args.schema.now) (asked_view c.args.texts)) c.from_residual-in_err-check.result _ c.from_residual-in_err-check.ensures.1
    (unfit_query c.args.limit (schema_view c.args.schema.now) (asked_view c.args.texts) (query_view c.in_ok-query.query) c.in_err-check.field-0.0
    c.in_ok-query.ensures c.in_err-check.ensures)

pub returns : goal.returns
returns c =
    fit_query c.args.limit (schema_view c.args.schema.now) (asked_view c.args.texts) (query_view c.in_ok-query.query) _ c.in_ok-query.ensures c.in_ok-check.ensures
