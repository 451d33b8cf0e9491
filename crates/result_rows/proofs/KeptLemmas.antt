-- Crates above may cite this file: the columns of a table that are kept.
use Rattle.std.proofs.Common.{◌≡◌, ℕ, ◌<◌, Option, Some, None, List, [], ◌∷◌, length, map, get_or, refl, sym, ap, ◌∙◌, subst, string_bytes}
use Rattle.std.specs.List.{All}
use Rattle.std.specs.Prelude.{IfSome}
use Rattle.std.proofs.lemmas.List.{length-map}
use Rattle.cell_types.specs.declared.column.Column.{Column}
use Rattle.cell_types.specs.Column.{ColumnOf, column_view}
use Rattle.csvw_meta.specs.Schema.{SchemaOf}
use Rattle.odata_query.specs.Query.{optional_numbers}
use Rattle.query_meaning.specs.Meaning.{selected_names, table_names}
use Rattle.row_columns.specs.Kinds.{any, kinds_of, KindOf}
use Rattle.result_rows.specs.declared.kept.Kept.{Kept}
use Rattle.result_rows.specs.Kept.{kept_names, kept_places, AreKeptOf, HasSameColumns}
use Rattle.result_rows.specs.Selected.{selected_kinds}

-- the names of a table's columns
names-column_view : (columns : List Column) → map (λ (c : ColumnOf). c.name) (map column_view columns) ≡ map (λ c. string_bytes c.name) columns
names-column_view [] = refl
names-column_view (column ∷ columns) = ap (λ names. string_bytes column.name ∷ names) (names-column_view columns)

pub kept_of : (columns : List Column) (schema : SchemaOf) (kept : Kept) → schema.columns ≡ map column_view columns
    → IfSome (kept_places kept) (All (λ place. place < length schema.columns))
    → kept_names kept ≡ selected_names (kept_places kept) (map (λ (c : Column). string_bytes c.name) columns)
    → kept.columns.kinds ≡ selected_kinds (kept_places kept) (kinds_of (map column_view columns)) → AreKeptOf kept schema
kept_of columns schema kept is within names kinds = record {
  within = within;
  names_are = names ∙ ap (selected_names (kept_places kept)) (sym (names-column_view columns) ∙ ap (λ cs. map (λ (c : ColumnOf). c.name) cs) (sym is));
  kinds_are = kinds ∙ ap (λ cs. selected_kinds (kept_places kept) (kinds_of cs)) (sym is);
}

pub still_kept : (old new : Kept) (schema : SchemaOf) → HasSameColumns old new → AreKeptOf old schema → AreKeptOf new schema
still_kept old new schema same are =
    let picked : kept_places old ≡ kept_places new = ap optional_numbers (sym same.places) in
    record {
      within = subst (λ ps. IfSome ps (All (λ place. place < length schema.columns))) picked are.within;
      names_are = ap (λ (ns : _). map string_bytes ns.items) same.names ∙ are.names_are ∙ ap (λ ps. selected_names ps (table_names schema)) picked;
      kinds_are = same.kinds ∙ are.kinds_are ∙ ap (λ ps. selected_kinds ps (kinds_of schema.columns)) picked;
    }

pub kinds_long : (picked : Option (List ℕ)) (kinds : List KindOf) (names : List (List ℕ)) → length kinds ≡ length names
    → length (selected_kinds picked kinds) ≡ length (selected_names picked names)
kinds_long None kinds names same = same
kinds_long (Some places) kinds names same =
    length-map places (λ place. get_or kinds place any) ∙ sym (length-map places (λ place. get_or names place []))

-- there is a column for each name
pub as_many : (kept : Kept) (schema : SchemaOf) → AreKeptOf kept schema → length kept.columns.kinds ≡ length (kept_names kept)
as_many kept schema are =
    ap length are.kinds_are
    ∙ kinds_long (kept_places kept) (kinds_of schema.columns) (table_names schema) (length-map schema.columns _ ∙ sym (length-map schema.columns _))
    ∙ ap length (sym are.names_are)
