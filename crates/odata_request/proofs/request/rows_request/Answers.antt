use Rattle.std.proofs.Common.{ap}
use Rattle.csvw_meta.specs.Schema.{schema_view}
use Rattle.odata_query.specs.Query.{query_typed_view}
use Rattle.odata_request.specs.Options.{asked_view}
use Rattle.odata_request.specs.Request.{AsksRows, request_view}
use Rattle.odata_request.proofs.RowsLemmas.{asks_rows, refused_rows, table_at}
use Rattle.odata_request.proofs.StepLemmas.{passed_on}
use Rattle.odata_request.proofs.request.rows_request.Goals as goal

pub returns-in_err-query : goal.returns-in_err-query
returns-in_err-query c =
    let catalog = c.args.catalog.now in
    let at = table_at catalog.tables c.tables.result.now c.args.number c.index-tables-number.result c.tables.ensures c.requires c.index-tables-number.is in
    passed_on request_view (AsksRows catalog c.args.number (asked_view c.args.texts) c.args.format) c.from_residual.result c.in_err-query.field-0.0 c.from_residual.ensures.1
    (refused_rows catalog c.args.number (asked_view c.args.texts) c.args.format c.index-tables-number.result (schema_view c.schema.result.now) _ at c.schema.ensures
    (ap (λ l. l.transformations) c.limits.ensures) c.in_err-query.field-0.0 c.in_err-query.ensures)

pub returns : goal.returns
returns c =
    let catalog = c.args.catalog.now in
    let at = table_at catalog.tables c.tables.result.now c.args.number c.index-tables-number.result c.tables.ensures c.requires c.index-tables-number.is in
    asks_rows catalog c.args.number (asked_view c.args.texts) c.args.format c.index-tables-number.result (schema_view c.schema.result.now) _ at c.schema.ensures
    (ap (λ l. l.transformations) c.limits.ensures) (query_typed_view c.in_ok-query.query) c.in_ok-query.ensures
