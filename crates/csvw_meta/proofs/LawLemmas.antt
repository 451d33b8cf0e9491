-- What is so where all conditions are met.
use Rattle.std.proofs.Common.{codes, ◌≡◌, ℕ, ◌≤◌, List, [], ◌∷◌, ◌++◌, Bool, true, false, not, cond, map, length, leb, ltb, Option, None, Some, is_some, Ok, unwrap_or, refl, subst, arith, append_assoc}
use Rattle.std.proofs.lemmas.Bool.{leb-true, ltb-true, not-true}
use Rattle.std.proofs.lemmas.Cmp.{nat_list_eq_equiv}
use Rattle.std.proofs.lemmas.List.{map-append, length-map, append-nil}
use Rattle.std.proofs.lemmas.List.Elements.{All-nil, All-cons, All-map}
use Rattle.std.proofs.lemmas.Map.Keys.{IsDistinct-push}
use Rattle.std.specs.List.{All, IsDistinct, list_any}
use Rattle.std.specs.Str.{bytes_eq}
use Rattle.serde_json.specs.Data.{Data, null, boolean, number, string, array, object}
use Rattle.serde_json.specs.Find.{as_object}
use Rattle.csvw_meta.specs.Fault.{MetaCause}
use Rattle.csvw_meta.specs.Limits.{LimitsOf}
use Rattle.csvw_meta.specs.Refusal.{Condition, ensure, first_cause, each_conditions}
use Rattle.csvw_meta.specs.Members.{member, fits, absent, count_conditions}
use Rattle.csvw_meta.specs.Forms.{is_column_name, is_table_url}
use Rattle.csvw_meta.specs.Inherited.{inherited_conditions}
use Rattle.csvw_meta.specs.Column.{name_of, names_a_column, column_conditions, object_column_conditions, said_column}
use Rattle.csvw_meta.specs.Schema.{SchemaOf, columns_in, object_schema_conditions, schema_conditions}
use Rattle.csvw_meta.specs.Table.{url_of, has_url, schema_in, level_conditions, object_table_conditions, table_conditions, schema_or_null, table_columns, table_schema}
use Rattle.csvw_meta.specs.Group.{tables_in, group_conditions, group_schemas}
use Rattle.csvw_meta.specs.Document.{document, is_group, lone_table_conditions, object_conditions, metadata_conditions, metadata_schemas, unless_cause, schemas_of_value}
use Rattle.cell_types.specs.Column.{ColumnOf}
use Rattle.csvw_meta.specs.Key.{is_key, key_of}
use Rattle.csvw_meta.proofs.FormLemmas.{url-name}
use Rattle.csvw_meta.proofs.ListLemmas.{map-map}
use Rattle.csvw_meta.proofs.NameLemmas.{names-distinct}
use Rattle.csvw_meta.proofs.KeyLemmas.{IsAcceptedKey, key-accepted}
use Rattle.csvw_meta.specs.Laws.{IsAccepted, AreAccepted, AcceptedSchemas}

-- all conditions are met
pub record AllMet (conditions : List Condition) : Type 0 where
  pub none : first_cause conditions ≡ None

at_head : (x : Condition) (xs : List Condition) → first_cause (x ∷ xs) ≡ None → (x ≡ None) × (first_cause xs ≡ None)
at_head None xs h = (refl, h)
at_head (Some cause) xs h = absurd (cc)

-- the first
pub head_met : {x : Condition} {xs : List Condition} → AllMet (x ∷ xs) → x ≡ None
head_met {x} {xs} h = (at_head x xs h.none).0

-- those after it
pub tail_met : {x : Condition} {xs : List Condition} → AllMet (x ∷ xs) → AllMet xs
tail_met {x} {xs} h = record { none = (at_head x xs h.none).1 }

at_both : (xs ys : List Condition) → first_cause (xs ++ ys) ≡ None → (first_cause xs ≡ None) × (first_cause ys ≡ None)
at_both [] ys h = (refl, h)
at_both (None ∷ xs) ys h = at_both xs ys h
at_both (Some cause ∷ xs) ys h = absurd (cc)

-- those in front of others
pub front_met : (xs ys : List Condition) → AllMet (xs ++ ys) → AllMet xs
front_met xs ys h = record { none = (at_both xs ys h.none).0 }

-- those after others
pub back_met : (xs ys : List Condition) → AllMet (xs ++ ys) → AllMet ys
back_met xs ys h = record { none = (at_both xs ys h.none).1 }

-- a test that is met is true
pub ensured : (test : Bool) (cause : MetaCause) → ensure test cause ≡ None → test ≡ true
ensured true cause h = refl
ensured false cause h = absurd (cc)

of_kind : (test : Bool) (cause : MetaCause) (xs : List Condition) → first_cause (cond test xs (Some cause ∷ [])) ≡ None → first_cause xs ≡ None
of_kind true cause xs h = h
of_kind false cause xs h = absurd (cc)

-- the conditions on what is of its kind
pub kind_met : (test : Bool) (cause : MetaCause) (xs : List Condition) → AllMet (cond test xs (Some cause ∷ [])) → AllMet xs
kind_met test cause xs h = record { none = of_kind test cause xs h.none }

-- what follows from the conditions on each is so of all
pub each-all : (conditions : List Data → Data → List Condition) (P : Data → Type 0) → ((earlier : List Data) (d : Data) → AllMet (conditions earlier d) → P d)
    → (earlier ds : List Data) → AllMet (each_conditions conditions earlier ds) → All P ds
each-all conditions P one earlier [] h = All-nil P
each-all conditions P one earlier (d ∷ ds) h =
    let rest = each_conditions conditions (earlier ++ d ∷ []) ds in
    All-cons P d ds (one earlier d (front_met (conditions earlier d) rest h)) (each-all conditions P one (earlier ++ d ∷ []) ds (back_met (conditions earlier d) rest h))

each-distinct_from : (conditions : List Data → Data → List Condition) (key : Data → List ℕ)
    → ((earlier : List Data) (d : Data) → AllMet (conditions earlier d) → list_any (bytes_eq (key d)) (map key earlier) ≡ false)
    → (earlier ds : List Data) → AllMet (each_conditions conditions earlier ds) → IsDistinct bytes_eq (map key earlier) → IsDistinct bytes_eq (map key (earlier ++ ds))
each-distinct_from conditions key one earlier [] h distinct = rw (append-nil earlier) distinct
each-distinct_from conditions key one earlier (d ∷ ds) h distinct =
    let behind = each_conditions conditions (earlier ++ d ∷ []) ds in
    let pushed = IsDistinct-push nat_list_eq_equiv (map key earlier) (key d) distinct (one earlier d (front_met (conditions earlier d) behind h)) in
    let rest = each-distinct_from conditions key one (earlier ++ d ∷ []) ds (back_met (conditions earlier d) behind h) (rw (map-append key earlier (d ∷ [])) pushed) in
    rw append_assoc at rest

-- where each is new among the earlier ones, all are different
pub each-distinct : (conditions : List Data → Data → List Condition) (key : Data → List ℕ)
    → ((earlier : List Data) (d : Data) → AllMet (conditions earlier d) → list_any (bytes_eq (key d)) (map key earlier) ≡ false)
    → (ds : List Data) → AllMet (each_conditions conditions [] ds) → IsDistinct bytes_eq (map key ds)
unfolding IsDistinct
each-distinct conditions key one ds h = each-distinct_from conditions key one [] ds h tt

-- a count that is met is within its limit
pub count-met : (limit : ℕ) (none many : MetaCause) (ds : List Data) → AllMet (count_conditions limit none many ds) → (1 ≤ length ds) × (length ds ≤ limit)
unfolding count_conditions
count-met limit none many ds h =
    let some = ltb-true 0 (length ds) (ensured (ltb 0 (length ds)) none (head_met h)) in
    let few = leb-true (length ds) limit (ensured (leb (length ds) limit) many (head_met (tail_met h))) in
    (omega arith, few)

pub object_column : (earlier : List Data) (d : Data) → AllMet (column_conditions earlier d) → AllMet (object_column_conditions earlier d)
unfolding column_conditions
object_column earlier d h = kind_met (is_some (as_object d)) (codes "NotObject") (object_column_conditions earlier d) h

-- a column that is accepted has a name of its form
pub column-form : (earlier : List Data) (d : Data) → AllMet (column_conditions earlier d) → is_column_name (name_of d) ≡ true
unfolding object_column_conditions
column-form earlier d h =
    let named = tail_met (tail_met (tail_met (object_column earlier d h))) in
    ensured (is_column_name (name_of d)) (codes "BadName") (head_met named)

-- which none of the earlier ones has
pub column-new : (earlier : List Data) (d : Data) → AllMet (column_conditions earlier d) → names_a_column earlier (name_of d) ≡ false
unfolding object_column_conditions
column-new earlier d h =
    let new = tail_met (tail_met (tail_met (tail_met (object_column earlier d h)))) in
    not-true (names_a_column earlier (name_of d)) (ensured (not (names_a_column earlier (name_of d))) (codes "DuplicateName") (head_met new))

-- the columns of a schema that is accepted
pub record AreAcceptedColumns (limits : LimitsOf) (columns : List Data) : Type 0 where
  pub count : (1 ≤ length columns) × (length columns ≤ limits.columns)
  pub names : All (λ d. is_column_name (name_of d) ≡ true) columns
  pub distinct : IsDistinct bytes_eq (map name_of columns)

columns-accepted : (limits : LimitsOf) (schema : Data) → AllMet (object_schema_conditions limits schema) → AreAcceptedColumns limits (columns_in schema)
unfolding object_schema_conditions
columns-accepted limits schema h =
    let columns = columns_in schema in
    let first = absent (codes "separator") schema ∷ inherited_conditions schema in
    let count = count_conditions limits.columns (codes "NoColumns") (codes "TooManyColumns") columns in
    let each = each_conditions column_conditions [] columns in
    let met = front_met (first ++ count ++ each) _ h in
    let each_met = back_met (first ++ count) each met in
    record {
      count = count-met limits.columns (codes "NoColumns") (codes "TooManyColumns") columns (back_met first count (front_met (first ++ count) each met));
      names = each-all column_conditions (λ d. is_column_name (name_of d) ≡ true) column-form [] columns each_met;
      distinct = each-distinct column_conditions name_of column-new columns each_met;
    }

-- the key of a schema that is accepted
schema_key-accepted : (limits : LimitsOf) (schema : Data) → AllMet (object_schema_conditions limits schema) → IsAcceptedKey (columns_in schema) (key_of (columns_in schema) (member (codes "primaryKey") schema))
unfolding object_schema_conditions
schema_key-accepted limits schema h =
    let columns = columns_in schema in
    let key = member (codes "primaryKey") schema in
    let first = absent (codes "separator") schema ∷ inherited_conditions schema in
    let count = count_conditions limits.columns (codes "NoColumns") (codes "TooManyColumns") columns in
    let each = each_conditions column_conditions [] columns in
    let met = back_met (first ++ count ++ each) (ensure (fits (is_key columns) key) (codes "BadKey") ∷ []) h in
    key-accepted columns key (ensured (fits (is_key columns) key) (codes "BadKey") (head_met met))

-- what a table has for a schema that is accepted is an object
pub object_schema : (limits : LimitsOf) (schema : Option Data) → AllMet (schema_conditions limits schema) → AllMet (object_schema_conditions limits (unwrap_or schema null))
unfolding schema_conditions
object_schema limits None h = absurd (let e = head_met h in cc)
object_schema limits (Some null) h = absurd (let e = head_met h in cc)
object_schema limits (Some (boolean b)) h = absurd (let e = head_met h in cc)
object_schema limits (Some (number n)) h = absurd (let e = head_met h in cc)
object_schema limits (Some (string s)) h = absurd (let e = head_met h in cc)
object_schema limits (Some (array ds)) h = absurd (let e = head_met h in cc)
object_schema limits (Some (object ms)) h = h

pub object_table : (limits : LimitsOf) (group : Data) (earlier : List Data) (d : Data) → AllMet (table_conditions limits group earlier d) → AllMet (object_table_conditions limits group earlier d)
unfolding table_conditions
object_table limits group earlier d h = kind_met (is_some (as_object d)) (codes "NotObject") (object_table_conditions limits group earlier d) h

-- a table that is accepted has a url of its form
pub table-form : (limits : LimitsOf) (group : Data) (earlier : List Data) (d : Data) → AllMet (table_conditions limits group earlier d) → is_table_url (url_of d) ≡ true
unfolding object_table_conditions
table-form limits group earlier d h = ensured (is_table_url (url_of d)) (codes "BadUrl") (head_met (object_table limits group earlier d h))

-- which none of the earlier ones has
pub table-new : (limits : LimitsOf) (group : Data) (earlier : List Data) (d : Data) → AllMet (table_conditions limits group earlier d) → has_url earlier (url_of d) ≡ false
unfolding object_table_conditions
table-new limits group earlier d h =
    let new = tail_met (object_table limits group earlier d h) in
    not-true (has_url earlier (url_of d)) (ensured (not (has_url earlier (url_of d))) (codes "DuplicateUrl") (head_met new))

-- and columns that are accepted
accepted_columns : (limits : LimitsOf) (group : Data) (earlier : List Data) (d : Data) → AllMet (table_conditions limits group earlier d) → AreAcceptedColumns limits (table_columns group d)
unfolding object_table_conditions
accepted_columns limits group earlier d h =
    let behind = tail_met (tail_met (object_table limits group earlier d h)) in
    columns-accepted limits (schema_or_null group d) (object_schema limits (schema_in group d) (back_met (level_conditions d) (schema_conditions limits (schema_in group d)) behind))

-- and a key that is accepted
accepted_key : (limits : LimitsOf) (group : Data) (earlier : List Data) (d : Data) → AllMet (table_conditions limits group earlier d)
    → IsAcceptedKey (table_columns group d) (key_of (table_columns group d) (member (codes "primaryKey") (schema_or_null group d)))
unfolding object_table_conditions
accepted_key limits group earlier d h =
    let behind = tail_met (tail_met (object_table limits group earlier d h)) in
    schema_key-accepted limits (schema_or_null group d) (object_schema limits (schema_in group d) (back_met (level_conditions d) (schema_conditions limits (schema_in group d)) behind))

-- what a table that is accepted says
table-accepted : (limits : LimitsOf) (group : Data) (earlier : List Data) (d : Data) → AllMet (table_conditions limits group earlier d) → IsAccepted limits (table_schema group d)
table-accepted limits group earlier d h =
    let columns = table_columns group d in
    let column = said_column (schema_or_null group d ∷ d ∷ group ∷ []) in
    let accepted = accepted_columns limits group earlier d h in
    let key = accepted_key limits group earlier d h in
    record {
      url = table-form limits group earlier d h;
      name = url-name (url_of d) (table-form limits group earlier d h);
      some = rw (length-map columns column) accepted.count.0;
      few = rw (length-map columns column) accepted.count.1;
      names = All-map (λ (column : ColumnOf). is_column_name column.name ≡ true) column columns accepted.names;
      distinct = rw (map-map (λ (column : ColumnOf). column.name) column columns) accepted.distinct;
      places = rw (length-map columns column) key.within;
      once = key.distinct;
    }

-- the tables of a group that is accepted
pub tables-accepted : (limits : LimitsOf) (group : Data) → AllMet (group_conditions limits group) → AreAccepted limits (group_schemas group)
unfolding group_conditions
tables-accepted limits group h =
    let tables = tables_in group in
    let count = count_conditions limits.tables (codes "NoTables") (codes "TooManyTables") tables in
    let each = each_conditions (table_conditions limits group) [] tables in
    let each_met = back_met (count ++ level_conditions group) each h in
    let counted = count-met limits.tables (codes "NoTables") (codes "TooManyTables") tables (front_met count (level_conditions group) (front_met (count ++ level_conditions group) each h)) in
    let all = All-map (IsAccepted limits) (table_schema group) tables (each-all (table_conditions limits group) (λ d. IsAccepted limits (table_schema group d)) (table-accepted limits group) [] tables each_met) in
    let urls : IsDistinct bytes_eq (map (λ (schema : SchemaOf). schema.url) (group_schemas group)) = rw (map-map (λ (schema : SchemaOf). schema.url) (table_schema group) tables) (each-distinct (table_conditions limits group) url_of (table-new limits group) tables each_met) in
    record {
      some = rw (length-map tables (table_schema group)) counted.0;
      few = rw (length-map tables (table_schema group)) counted.1;
      each = all;
      distinct = urls;
      named = names-distinct limits (group_schemas group) all urls;
    }

lone_table-accepted : (limits : LimitsOf) (d : Data) → 1 ≤ limits.tables → AllMet (lone_table_conditions limits d) → AreAccepted limits (table_schema null d ∷ [])
unfolding lone_table_conditions IsDistinct
lone_table-accepted limits d room h = record {
  some = omega arith;
  few = room;
  each = All-cons (IsAccepted limits) (table_schema null d) [] (table-accepted limits null [] d (tail_met h)) (All-nil (IsAccepted limits));
  distinct = (tt, tt);
  named = (tt, tt);
}

object_at : (limits : LimitsOf) (d : Data) (group : Bool) → is_group d ≡ group → 1 ≤ limits.tables → AllMet (object_conditions limits d) → AreAccepted limits (metadata_schemas d)
unfolding object_conditions
object_at limits d true e room h = rw e (tables-accepted limits d (rw e at h))
object_at limits d false e room h = rw e (lone_table-accepted limits d room (rw e at h))

-- what metadata says where all its conditions are met
metadata-accepted : (limits : LimitsOf) (d : Data) → 1 ≤ limits.tables → AllMet (metadata_conditions limits d) → AreAccepted limits (metadata_schemas d)
metadata-accepted limits d room h = object_at limits d (is_group d) refl room (kind_met (is_some (as_object d)) (codes "NotObject") (object_conditions limits d) h)

pub outcome : (limits : LimitsOf) (cause : Option MetaCause) (all schemas : List SchemaOf) → unless_cause cause all ≡ Ok schemas → (cause ≡ None) × (all ≡ schemas)
outcome limits None all schemas h = (refl, cc)
outcome limits (Some cause) all schemas h = absurd (cc)

value-accepted : (limits : LimitsOf) (value : Option Data) (schemas : List SchemaOf) → 1 ≤ limits.tables → schemas_of_value limits value ≡ Ok schemas → AreAccepted limits schemas
unfolding schemas_of_value
value-accepted limits None schemas room h = absurd (cc)
value-accepted limits (Some d) schemas room h =
    let is = outcome limits (first_cause (metadata_conditions limits d)) (metadata_schemas d) schemas h in
    let met : AllMet (metadata_conditions limits d) = record { none = is.0 } in
    subst (AreAccepted limits) is.1 (metadata-accepted limits d room met)

-- so is what a text says that is accepted
pub schemas-accepted : AcceptedSchemas
schemas-accepted limits bytes schemas room h = value-accepted limits (document bytes) schemas room h
