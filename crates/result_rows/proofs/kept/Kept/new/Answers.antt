use Rattle.std.proofs.Common.{◌<◌, ap, length, map, refl, string_bytes, subst, ◌∙◌}
use Rattle.std.specs.Prelude.{IfSome}
use Rattle.std.specs.List.{All}
use Rattle.cell_types.specs.declared.column.Column.{Column}
use Rattle.cell_types.specs.Column.{column_view}
use Rattle.csvw_meta.specs.Schema.{schema_view}
use Rattle.odata_query.specs.Query.{optional_numbers}
use Rattle.query_meaning.specs.Apply.{names_at}
use Rattle.row_columns.specs.Kinds.{kinds_of}
use Rattle.row_columns.specs.Picked.{kinds_at}
use Rattle.result_rows.proofs.KeptLemmas.{kept_of}
use Rattle.result_rows.proofs.kept.Kept.new.Goals as goal

pub returns-in_ok-columns-in-Some-clause-columns : goal.returns-in_ok-columns-in-Some-clause-columns
returns-in_ok-columns-in-Some-clause-columns c =
    let columns = c.args.schema.now.columns.items in
    let places = c.in-Some.places.items in
    kept_of columns (schema_view c.args.schema.now) _ refl
    (subst (λ (ps : _). IfSome (optional_numbers ps) (All (λ place. place < length (schema_view c.args.schema.now).columns))) c.in-Some.is c.requires)
    (c.in_ok-names-in-Some.ensures
    ∙ ap (λ ps. names_at ps (map string_bytes c.as_slice.result.now)) c.as_slice-in-Some.ensures.value
    ∙ ap (λ ns. names_at places (map string_bytes ns)) c.as_slice.ensures.value
    ∙ ap (names_at places) (c.in_ok-names.ensures ∙ ap (λ cs. map (λ (column : Column). string_bytes column.name) cs) c.as_slice-columns.ensures.value))
    (c.in_ok-columns-in-Some.ensures.kinds
    ∙ ap (λ ps. kinds_at ps (kinds_of (map column_view c.as_slice-columns.result.now))) c.as_slice-in-Some-2.ensures.value
    ∙ ap (λ cs. kinds_at places (kinds_of (map column_view cs))) c.as_slice-columns.ensures.value)

pub returns-in_ok-new-in-None-clause-columns : goal.returns-in_ok-new-in-None-clause-columns
returns-in_ok-new-in-None-clause-columns c =
    let columns = c.args.schema.now.columns.items in
    kept_of columns (schema_view c.args.schema.now) _ refl tt
    (c.in_ok-names.ensures ∙ ap (λ cs. map (λ (column : Column). string_bytes column.name) cs) c.as_slice-columns.ensures.value)
    (ap (λ (made : _). made.kinds) c.in_ok-new-in-None.ensures ∙ ap (λ cs. kinds_of (map column_view cs)) c.as_slice-columns.ensures.value)
