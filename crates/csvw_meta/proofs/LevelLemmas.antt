-- What each level of accepted metadata says is of its form.
use Rattle.std.proofs.Common.{codes, ◌≡◌, List, [], ◌∷◌, ◌++◌, Bool, true, false, Some, Ok, is_some, refl}
use Rattle.std.specs.List.{All, flat_map}
use Rattle.std.proofs.lemmas.List.Elements.{All-append, All-cons, All-head, All-nil, All-tail}
use Rattle.serde_json.specs.Data.{Data, null}
use Rattle.serde_json.specs.Find.{as_object}
use Rattle.csvw_meta.specs.Limits.{LimitsOf}
use Rattle.csvw_meta.specs.Refusal.{each_conditions, first_cause}
use Rattle.csvw_meta.specs.Members.{absent, count_conditions}
use Rattle.csvw_meta.specs.Inherited.{inherited_conditions}
use Rattle.csvw_meta.specs.Column.{column_conditions, object_column_conditions}
use Rattle.csvw_meta.specs.Schema.{columns_in, object_schema_conditions, schema_conditions}
use Rattle.csvw_meta.specs.Table.{level_conditions, object_table_conditions, schema_in, schema_or_null, table_columns, table_conditions}
use Rattle.csvw_meta.specs.Group.{group_conditions, tables_in}
use Rattle.csvw_meta.specs.Document.{is_group, lone_table_conditions, metadata_conditions, metadata_schemas, object_conditions, schemas_of_value}
use Rattle.csvw_meta.specs.Laws.{IsOfForm, LevelsAreOfForm, levels_in, levels_of}
use Rattle.csvw_meta.proofs.LawLemmas.{AllMet, back_met, each-all, front_met, kind_met, object_column, object_schema, object_table, outcome, tail_met}

column-level : (earlier : List Data) (d : Data) → AllMet (column_conditions earlier d) → IsOfForm d
unfolding object_column_conditions
column-level earlier d h = (tail_met (tail_met (tail_met (tail_met (tail_met (tail_met (object_column earlier d h))))))).none

pub table-level : (d : Data) → AllMet (level_conditions d) → IsOfForm d
unfolding level_conditions
table-level d h = (tail_met (tail_met (tail_met h))).none

-- a schema and its columns
schema-levels : (limits : LimitsOf) (schema : Data) → AllMet (object_schema_conditions limits schema) → All IsOfForm (schema ∷ columns_in schema)
unfolding object_schema_conditions
schema-levels limits schema h =
    let columns = columns_in schema in
    let first = absent (codes "separator") schema ∷ inherited_conditions schema in
    let count = count_conditions limits.columns (codes "NoColumns") (codes "TooManyColumns") columns in
    let each = each_conditions column_conditions [] columns in
    let met = front_met (first ++ count ++ each) _ h in
    let level = tail_met (front_met first count (front_met (first ++ count) each met)) in
    All-cons IsOfForm schema columns level.none (each-all column_conditions IsOfForm column-level [] columns (back_met (first ++ count) each met))

pub table-levels : (limits : LimitsOf) (group : Data) (earlier : List Data) (d : Data) → AllMet (table_conditions limits group earlier d) → All IsOfForm (levels_in group d)
unfolding object_table_conditions
table-levels limits group earlier d h =
    let behind = tail_met (tail_met (object_table limits group earlier d h)) in
    let schema = schema_conditions limits (schema_in group d) in
    All-cons IsOfForm d (schema_or_null group d ∷ table_columns group d) (table-level d (front_met (level_conditions d) schema behind))
    (schema-levels limits (schema_or_null group d) (object_schema limits (schema_in group d) (back_met (level_conditions d) schema behind)))

-- what is so of each part of lists is so of the lists in a row
flat-all : (P : Data → Type 0) (parts : Data → List Data) (ds : List Data) → All (λ d. All P (parts d)) ds → All P (flat_map parts ds)
flat-all P parts [] h = All-nil P
flat-all P parts (d ∷ ds) h =
    All-append P (parts d) (flat_map parts ds) (All-head (λ x. All P (parts x)) d ds h) (flat-all P parts ds (All-tail (λ x. All P (parts x)) d ds h))

group-levels : (limits : LimitsOf) (group : Data) → AllMet (group_conditions limits group) → All IsOfForm (group ∷ flat_map (levels_in group) (tables_in group))
unfolding group_conditions
group-levels limits group h =
    let tables = tables_in group in
    let count = count_conditions limits.tables (codes "NoTables") (codes "TooManyTables") tables in
    let each = each_conditions (table_conditions limits group) [] tables in
    let level = back_met count (level_conditions group) (front_met (count ++ level_conditions group) each h) in
    let tables_met = back_met (count ++ level_conditions group) each h in
    All-cons IsOfForm group (flat_map (levels_in group) tables) (table-level group level)
    (flat-all IsOfForm (levels_in group) tables
    (each-all (table_conditions limits group) (λ d. All IsOfForm (levels_in group d)) (table-levels limits group) [] tables tables_met))

lone_table-levels : (limits : LimitsOf) (d : Data) → AllMet (lone_table_conditions limits d) → All IsOfForm (levels_in null d)
unfolding lone_table_conditions
lone_table-levels limits d h = table-levels limits null [] d (tail_met h)

object-levels : (limits : LimitsOf) (d : Data) (group : Bool) → is_group d ≡ group → AllMet (object_conditions limits d) → All IsOfForm (levels_of d)
unfolding object_conditions
object-levels limits d true e h = rw e (group-levels limits d (rw e at h))
object-levels limits d false e h = rw e (lone_table-levels limits d (rw e at h))

metadata-levels : (limits : LimitsOf) (d : Data) → AllMet (metadata_conditions limits d) → All IsOfForm (levels_of d)
metadata-levels limits d h = object-levels limits d (is_group d) refl (kind_met (is_some (as_object d)) (codes "NotObject") (object_conditions limits d) h)

pub text-levels : LevelsAreOfForm
unfolding schemas_of_value
text-levels limits bytes d schemas is ok =
    let accepted : schemas_of_value limits (Some d) ≡ Ok schemas = rw is at ok in
    let met : AllMet (metadata_conditions limits d) = record { none = (outcome limits (first_cause (metadata_conditions limits d)) (metadata_schemas d) schemas accepted).0 } in
    metadata-levels limits d met
