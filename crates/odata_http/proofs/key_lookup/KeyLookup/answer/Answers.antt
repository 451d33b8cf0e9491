use Rattle.std.proofs.Common.{List, Some, ap, length, map, option_map, sym, ◌∙◌}
use Rattle.std.proofs.lemmas.Result.{IfOk-weaker}
use Rattle.cell_types.specs.declared.value.Value.{Value}
use Rattle.cell_types.specs.Value.{value_view}
use Rattle.csvw_meta.specs.Schema.{SchemaOf, schema_view}
use Rattle.key_index.specs.Key.{row_of}
use Rattle.table_store.specs.Table.{keys_of}
use Rattle.query_meaning.specs.Meaning.{selected_names, selected_values, table_names}
use Rattle.row_eval.specs.Row.{row_view}
use Rattle.odata_http.specs.Work.{response_view}
use Rattle.odata_http.proofs.KeyLookupLemmas.{finds_none, finds_row, row_told, select_there, select_within}
use Rattle.odata_http.proofs.key_lookup.KeyLookup.answer.Goals as goal

pub of_row-requires-clause-within : goal.of_row-requires-clause-within
of_row-requires-clause-within c =
    let schema = schema_view c.schema.result.now in
    let wide = ap length c.deref.ensures.value ∙ c.in_ok-values-in-Some.ensures.wide ∙ ap (λ (s : SchemaOf). length s.columns) (sym c.schema.ensures) in
    select_within c.selected.result (length schema.columns) (length c.deref.result.now) wide
    (select_there c.args.catalog.now c.tables.result.now c.args.self c.index-tables-self.result (option_map (λ s. s.now) c.selected.result) schema c.requires
    c.tables.ensures c.index-tables-self.is c.selected.ensures c.schema.ensures)

pub returns-in-Some-clause-responds : goal.returns-in-Some-clause-responds
returns-in-Some-clause-responds c = λ asked is.
    let select = option_map (λ s. s.now) c.selected.result in
    let row = row_view c.deref.result.now in
    let schema = schema_view c.schema.result.now in
    let number = sym (c.in-Some.ensures ∙ ap (λ (key : List Value). row_of (keys_of c.index-tables-self.result) (map value_view key)) c.as_slice.ensures.value) in
    IfOk-weaker c.row_response.result _ _ (λ response told.
    finds_row c.args.catalog.now c.tables.result.now c.args.self c.index-tables-self.result asked c.in-Some.row row (response_view response) is c.tables.ensures c.index-tables-self.is number
    (c.in_ok-values-in-Some.ensures.row ∙ ap (λ (values : List Value). Some (row_view values)) (sym c.deref.ensures.value)) (row_told c.args.self c.index-tables-self.result select schema row (response_view response) c.selected.ensures c.schema.ensures
    (told (selected_names select (table_names schema)) (selected_values select row) c.in_ok-rows-in-Some.ensures))) c.row_response.ensures.response

pub returns-clause-responds : goal.returns-clause-responds
returns-clause-responds c = λ asked is.
    let number = sym (c.in-None.ensures ∙ ap (λ (key : List Value). row_of (keys_of c.index-tables-self.result) (map value_view key)) c.as_slice.ensures.value) in
    IfOk-weaker c.error_response.result _ _ (λ response told.
    finds_none c.args.catalog.now c.tables.result.now c.args.self c.index-tables-self.result asked (response_view response) is c.tables.ensures c.index-tables-self.is number told)
    c.error_response.ensures.response
