use Rattle.std.proofs.Common.{ap, ◌∙◌, sym, refl, subst}
use Rattle.csvw_meta.specs.Schema.{SchemaOf, schema_view}
use Rattle.table_store.specs.Fits.{HasTableRows}
use Rattle.table_store.specs.Table.{TableOf}
use Rattle.query_plan.specs.Fitting.{IsFitFor}
use Rattle.query_plan.specs.Plan.{plan_view}
use Rattle.odata_request.specs.Request.{rows_request_view}
use Rattle.odata_http.proofs.QueryRunLemmas.{blocks_are, lent_stands, none_counted, starts, table_is}
use Rattle.odata_http.proofs.query_run.QueryRun.start.Goals as goal

pub start-requires : goal.start-requires
start-requires c =
    let here = table_is c.args.catalog.now.tables c.tables.result.now c.args.asked.table c.index-tables-asked.result c.requires.inside.table c.tables.ensures c.index-tables-asked.is
    c.requires.inside.table_is in
    let schema = c.schema.ensures ∙ ap (λ (t : TableOf). t.schema) here in
    subst (λ (s : SchemaOf). IsFitFor s (plan_view c.in_ok-plan.plan)) (sym schema)
    (c.in_ok-plan.ensures.fits c.requires.inside.table.schema (c.in_ok-first.ensures.fits c.requires.inside.table.schema c.requires.inside.typed))

pub returns-in_ok-new-in-Ok : goal.returns-in_ok-new-in-Ok
returns-in_ok-new-in-Ok c =
    let here = table_is c.args.catalog.now.tables c.tables.result.now c.args.asked.table c.index-tables-asked.result c.requires.inside.table c.tables.ensures c.index-tables-asked.is
    c.requires.inside.table_is in
    starts c.args.catalog.now c.tables.result.now (rows_request_view c.args.asked) c.args.asked.table c.index-tables-asked.result c.requires.inside.table (schema_view c.schema.result.now) _
    (plan_view c.in_ok-plan.plan) c.summary-summaries.result.now c.requires.inside.table_is refl c.tables.ensures c.index-tables-asked.is c.schema.ensures c.values_fit.ensures
    c.summary-summaries.ensures c.requires.unkeyed (plan_view c.in_ok-first.first) c.in_ok-first.ensures.means
    (c.in_ok-plan.ensures.means c.requires.inside.table.schema (c.in_ok-first.ensures.typed c.requires.inside.table.schema c.requires.inside.typed)) refl refl refl c.max.ensures
    (none_counted c.args.asked.format c.none.result c.none.ensures.json c.none.ensures.csv) (λ t of fit known. lent_stands c.in-Ok.run' c.in_ok-new-in-Ok.field-0.value (plan_view c.in_ok-plan.plan) t 0 c.in_ok-new-in-Ok.ensures.ok (c.in-Ok.ensures.stands t of fit known))
    c.plans_need_blocks.ensures
    (blocks_are c.needed_blocks_are_read.ensures (plan_view c.in_ok-plan.plan) (plan_view c.in_ok-first.first) (rows_request_view c.args.asked).query c.requires.inside.table
    c.in_ok-plan.ensures.rewritten c.in_ok-first.ensures.plan (subst HasTableRows here c.values_fit.ensures))
