-- The defaults of the columns of accepted metadata are short.
use Rattle.std.proofs.Common.{codes, ◌≡◌, ℕ, ◌^◌, ◌≤◌, List, [], ◌∷◌, ◌++◌, Bool, true, false, leb, length, Option, None, Some, is_some, unwrap_or, option_map, Ok, refl, subst, arith}
use Rattle.std.specs.List.{All}
use Rattle.std.specs.Option.{option_or}
use Rattle.std.proofs.lemmas.Bool.{leb-true}
use Rattle.std.proofs.lemmas.List.Elements.{All-cons, All-head, All-map, All-nil, All-tail}
use Rattle.serde_json.specs.Data.{Data, null}
use Rattle.serde_json.specs.Find.{as_object, as_str}
use Rattle.cell_types.specs.Column.{ColumnOf}
use Rattle.csvw_meta.specs.declared.limits.TheConstants.{MOST_METADATA_BYTES}
use Rattle.csvw_meta.specs.Limits.{LimitsOf}
use Rattle.csvw_meta.specs.Refusal.{each_conditions, ensure, first_cause}
use Rattle.csvw_meta.specs.Members.{count_conditions, fits, member, nearest}
use Rattle.csvw_meta.specs.Texts.{is_texts}
use Rattle.csvw_meta.specs.Datatype.{datatype_member_conditions}
use Rattle.csvw_meta.specs.Inherited.{default_of, inherited_conditions, is_short_text, is_truth}
use Rattle.csvw_meta.specs.Column.{said_column}
use Rattle.csvw_meta.specs.Schema.{SchemaOf}
use Rattle.csvw_meta.specs.Table.{level_conditions, schema_or_null, table_columns, table_conditions, table_schema}
use Rattle.csvw_meta.specs.Group.{group_conditions, group_schemas, tables_in}
use Rattle.csvw_meta.specs.Document.{document, is_group, lone_table_conditions, metadata_conditions, metadata_schemas, object_conditions, schemas_of_value}
use Rattle.csvw_meta.specs.Laws.{DefaultsAreShort, HasShortDefaults, IsOfForm}
use Rattle.csvw_meta.proofs.LawLemmas.{AllMet, back_met, each-all, ensured, front_met, head_met, kind_met, outcome, tail_met}
use Rattle.csvw_meta.proofs.LevelLemmas.{table-level, table-levels}

-- what a level of its form has for a default is short
level-short : (level : Data) → IsOfForm level → fits is_short_text (member (codes "default") level) ≡ true
unfolding inherited_conditions
level-short level h =
    let met : AllMet (inherited_conditions level) = record { none = h } in
    let datatype = datatype_member_conditions (member (codes "datatype") level) in
    let default = ensure (fits is_short_text (member (codes "default") level)) (codes "BadDefault") ∷ ensure (fits is_truth (member (codes "required") level)) (codes "BadRequired") ∷ [] in
    let behind = back_met datatype (ensure (fits is_texts (member (codes "null") level)) (codes "BadNull") ∷ default) met in
    ensured (fits is_short_text (member (codes "default") level)) (codes "BadDefault") (head_met (tail_met behind))

null-level : IsOfForm null
unfolding inherited_conditions datatype_member_conditions
null-level = refl

either-short : (a b : Option Data) → fits is_short_text a ≡ true → fits is_short_text b ≡ true → fits is_short_text (option_or a b) ≡ true
either-short None b h k = k
either-short (Some d) b h k = h

-- so is what the nearest one has
nearest-short : (levels : List Data) → All IsOfForm levels → fits is_short_text (nearest (codes "default") levels) ≡ true
nearest-short [] h = refl
nearest-short (level ∷ levels) h =
    either-short (member (codes "default") level) (nearest (codes "default") levels) (level-short level (All-head IsOfForm level levels h))
    (nearest-short levels (All-tail IsOfForm level levels h))

text-short : (text : Option (List ℕ)) → unwrap_or (option_map (λ t. leb (length t) MOST_METADATA_BYTES) text) false ≡ true → length (unwrap_or text []) ≤ 2 ^ 30
text-short None h = cc
text-short (Some t) h = leb-true (length t) MOST_METADATA_BYTES h

default-short : (d : Option Data) → fits is_short_text d ≡ true → length (default_of d) ≤ 2 ^ 30
default-short None h = omega arith
default-short (Some d) h = text-short (as_str d) h

-- so are the defaults of columns
columns-short : (around columns : List Data) → All IsOfForm around → All IsOfForm columns → All (λ d. length (said_column around d).default ≤ 2 ^ 30) columns
columns-short around [] h k = All-nil (λ d. length (said_column around d).default ≤ 2 ^ 30)
columns-short around (d ∷ ds) h k =
    let P : Data → Type 0 = λ d. length (said_column around d).default ≤ 2 ^ 30 in
    let here = nearest-short (d ∷ around) (All-cons IsOfForm d around (All-head IsOfForm d ds k) h) in
    All-cons P d ds (default-short (nearest (codes "default") (d ∷ around)) here) (columns-short around ds h (All-tail IsOfForm d ds k))

-- those of a table in a group of its form
table-short : (limits : LimitsOf) (group : Data) → IsOfForm group → (earlier : List Data) (d : Data) → AllMet (table_conditions limits group earlier d) → HasShortDefaults (table_schema group d)
table-short limits group form earlier d h =
    let schema = schema_or_null group d in
    let columns = table_columns group d in
    let levels = table-levels limits group earlier d h in
    let inner = All-tail IsOfForm d (schema ∷ columns) levels in
    let outer = All-cons IsOfForm d (group ∷ []) (All-head IsOfForm d (schema ∷ columns) levels) (All-cons IsOfForm group [] form (All-nil IsOfForm)) in
    let around = All-cons IsOfForm schema (d ∷ group ∷ []) (All-head IsOfForm schema columns inner) outer in
    All-map (λ (column : ColumnOf). length column.default ≤ 2 ^ 30) (said_column (schema ∷ d ∷ group ∷ [])) columns
    (columns-short (schema ∷ d ∷ group ∷ []) columns around (All-tail IsOfForm schema columns inner))

group-short : (limits : LimitsOf) (group : Data) → AllMet (group_conditions limits group) → All HasShortDefaults (group_schemas group)
unfolding group_conditions
group-short limits group h =
    let tables = tables_in group in
    let count = count_conditions limits.tables (codes "NoTables") (codes "TooManyTables") tables in
    let each = each_conditions (table_conditions limits group) [] tables in
    let form = table-level group (back_met count (level_conditions group) (front_met (count ++ level_conditions group) each h)) in
    let met = back_met (count ++ level_conditions group) each h in
    All-map HasShortDefaults (table_schema group) tables
    (each-all (table_conditions limits group) (λ d. HasShortDefaults (table_schema group d)) (table-short limits group form) [] tables met)

lone_table-short : (limits : LimitsOf) (d : Data) → AllMet (lone_table_conditions limits d) → All HasShortDefaults (table_schema null d ∷ [])
unfolding lone_table_conditions
lone_table-short limits d h = All-cons HasShortDefaults (table_schema null d) [] (table-short limits null null-level [] d (tail_met h)) (All-nil HasShortDefaults)

object-short : (limits : LimitsOf) (d : Data) (group : Bool) → is_group d ≡ group → AllMet (object_conditions limits d) → All HasShortDefaults (metadata_schemas d)
unfolding object_conditions
object-short limits d true e h = rw e (group-short limits d (rw e at h))
object-short limits d false e h = rw e (lone_table-short limits d (rw e at h))

metadata-short : (limits : LimitsOf) (d : Data) → AllMet (metadata_conditions limits d) → All HasShortDefaults (metadata_schemas d)
metadata-short limits d h = object-short limits d (is_group d) refl (kind_met (is_some (as_object d)) (codes "NotObject") (object_conditions limits d) h)

value-short : (limits : LimitsOf) (value : Option Data) (schemas : List SchemaOf) → schemas_of_value limits value ≡ Ok schemas → All HasShortDefaults schemas
unfolding schemas_of_value
value-short limits None schemas h = absurd (cc)
value-short limits (Some d) schemas h =
    let is = outcome limits (first_cause (metadata_conditions limits d)) (metadata_schemas d) schemas h in
    let met : AllMet (metadata_conditions limits d) = record { none = is.0 } in
    subst (All HasShortDefaults) is.1 (metadata-short limits d met)

-- those of all that a text says
pub defaults-short : DefaultsAreShort
defaults-short limits bytes schemas h = value-short limits (document bytes) schemas h
