-- The row of a key.
use Rattle.std.proofs.Common.{◌≡◌, ◌<◌, ◌+◌, ◌++◌, take, ℕ, zero, suc, Ok, Err, Bool, true, false, List, [], ◌∷◌, length, map, get_or, Option, Some, None, option_map, Bor, Result, refl, sym, ap, ◌∙◌, subst, arith}
use Rattle.std.specs.Prelude.{slice_get, option_and_then, nat_lt, position, find, if◌then◌else◌, IfSome}
use Rattle.std.specs.List.{All, AllByRecursion, position_or_len, list_any, list_all}
use Rattle.std.proofs.lemmas.Bool.{ltb-true, ltb-false}
use Rattle.std.proofs.lemmas.List.{length-map, take_all, take_more}
use Rattle.std.proofs.lemmas.List.Elements.{All-cons, All-nil}
use Rattle.std.proofs.lemmas.List.Folds.{find_at}
use Rattle.std.proofs.lemmas.Option.{get_or_from_slice_get, slice_get-get_or, slice_get_past, cond_some}
use Rattle.cell_types.specs.Value.{CellValue, null}
use Rattle.csvw_meta.specs.Schema.{SchemaOf}
use Rattle.table_store.specs.Catalog.{CatalogOf}
use Rattle.key_index.specs.Key.{key_eq, row_key, key_index, row_of}
use Rattle.table_store.specs.Table.{TableOf, keys_of}
use Rattle.odata_parse.specs.Tree.{KeyOf, SelectItemOf, TransformationOf}
use Rattle.odata_types.specs.declared.fault.TypeFault.{TypeFault}
use Rattle.odata_types.specs.declared.fault.TypeFault.TheVariants.{UnknownName}
use Rattle.odata_types.specs.Columns.{InputOf}
use Rattle.odata_types.specs.Result.{◌>>=◌}
use Rattle.odata_types.specs.Schema.{input_of, inputs_of}
use Rattle.odata_query.specs.Aggregate.{TypedTransformationOf}
use Rattle.odata_query.specs.Apply.{apply_typing, transformation_typing}
use Rattle.odata_query.specs.Key.{optional_key_typing}
use Rattle.odata_query.specs.Query.{QueryOf, TypedOf, optional_numbers, optional_typing, order_typing, query_typing, values_view}
use Rattle.odata_query.specs.Selection.{is_known, optional_selection_typing, selected_from, selected_places, selects}
use Rattle.query_meaning.specs.Apply.{same_values, values_at}
use Rattle.query_meaning.specs.Fitting.{IsTypedFor}
use Rattle.query_meaning.specs.Meaning.{keyed_meaning, keyed_row, query_meaning, row_meaning, selected_names, selected_values, table_names}
use Rattle.odata_errors.specs.declared.code.Code.TheVariants.{NoSuchRow}
use Rattle.odata_parse.specs.declared.format.Format.{Format}
use Rattle.odata_request.specs.Request.{RowsRequestOf}
use Rattle.key_index.proofs.ListLaws.{position_or_len-map}
use Rattle.cell_types.proofs.CaseLaws.{cond_none}
use Rattle.odata_http.specs.declared.key_lookup.KeyLookup.{KeyLookup}
use Rattle.odata_http.specs.Exchange.{IsKeyLookup}
use Rattle.odata_http.specs.Reply.{RespondsWithRows, ResponseOf, error_response, row_response, rows_response}
use Rattle.odata_http.specs.Work.{MayFind}
use Rattle.odata_http.proofs.QueryRunLemmas.{table_is}

-- ---- the values of a row

pub row_wide : (rows : List (List CellValue)) (row width : ℕ) → row < length rows → AllByRecursion (λ values. length values ≡ width) rows → length (get_or rows row []) ≡ width
row_wide [] row width less all = absurd (omega (arith, less))
row_wide (values ∷ rows) zero width less all = all.0
row_wide (values ∷ rows) (suc row) width less all = row_wide rows row width (omega (arith, less)) all.1

-- one value more
pub value_more : (rows : List (List CellValue)) (row col : ℕ) (seen : List CellValue) (value : CellValue) → row < length rows → col < length (get_or rows row [])
    → seen ≡ take col (get_or rows row []) → option_and_then (λ values. slice_get values col) (slice_get rows row) ≡ Some value → seen ++ value ∷ [] ≡ take (col + 1) (get_or rows row [])
value_more rows row col seen value less within so_far read =
    let there = ap (λ (o : Option (List CellValue)). option_and_then (λ values. slice_get values col) o) (sym (slice_get-get_or rows row [] less)) ∙ read in
    let is = get_or_from_slice_get (get_or rows row []) col value null there in
    ap (λ (front : List CellValue). front ++ value ∷ []) so_far ∙ ap (λ (v : CellValue). take col (get_or rows row []) ++ v ∷ []) (sym is) ∙ sym (take_more (get_or rows row []) col null within)

-- all values
pub row_read : (rows : List (List CellValue)) (row width : ℕ) (seen : List CellValue) → row < length rows → length (get_or rows row []) ≡ width → seen ≡ take width (get_or rows row [])
    → slice_get rows row ≡ Some seen
row_read rows row width seen less wide so_far =
    slice_get-get_or rows row [] less ∙ ap Some (sym (take_all width (get_or rows row []) (omega (arith, wide))) ∙ sym so_far)

-- ---- the first row that passes

found_at : {X Y : Type 0} (q : Y → Bool) (f : X → Y) (xs : List X) (i : ℕ) → position q (map f xs) ≡ Some i → (i < length xs) × (find (λ x. q (f x)) xs ≡ slice_get xs i)
found_at q f xs i e =
    let first = cond_some (nat_lt (position_or_len q (map f xs)) (length (map f xs))) (position_or_len q (map f xs)) i e in
    let within = ltb-true (position_or_len q (map f xs)) (length (map f xs)) first.0 in
    let many = length-map xs f in
    let at = first.1 in
    (omega (arith, within, many, at), find_at (λ x. q (f x)) xs ∙ ap (slice_get xs) (sym (position_or_len-map q f xs) ∙ first.1))

not_found : {X Y : Type 0} (q : Y → Bool) (f : X → Y) (xs : List X) → position q (map f xs) ≡ None → find (λ x. q (f x)) xs ≡ None
not_found q f xs e =
    let past = ltb-false (position_or_len q (map f xs)) (length (map f xs)) (cond_none (nat_lt (position_or_len q (map f xs)) (length (map f xs))) (position_or_len q (map f xs)) e) in
    let many = length-map xs f in
    let at = position_or_len-map q f xs in
    find_at (λ x. q (f x)) xs ∙ slice_get_past xs (position_or_len (λ x. q (f x)) xs) (omega (arith, past, many, at))

-- ---- the row of a key, where the table has one

keyed_at : (places : List ℕ) (values : List CellValue) (rows : List (List CellValue)) (i : ℕ) → ¬ (places ≡ []) → row_of (key_index places rows) values ≡ Some i
    → (i < length rows) × (find (λ row. same_values values (values_at places row)) rows ≡ slice_get rows i)
keyed_at [] values rows i some e = absurd (some refl)
keyed_at (place ∷ places) values rows i some e = found_at (key_eq values) (row_key (place ∷ places)) rows i e

keyed_nowhere : (places : List ℕ) (values : List CellValue) (rows : List (List CellValue)) → ¬ (places ≡ []) → row_of (key_index places rows) values ≡ None
    → find (λ row. same_values values (values_at places row)) rows ≡ None
keyed_nowhere [] values rows some e = absurd (some refl)
keyed_nowhere (place ∷ places) values rows some e = not_found (key_eq values) (row_key (place ∷ places)) rows e

-- ---- a query that was typed

bind_ok : {A B : Type 0} (r : Result A TypeFault) (f : A → Result B TypeFault) (b : B) → (r >>= f) ≡ Ok b → (a : A) × (r ≡ Ok a) × (f a ≡ Ok b)
bind_ok (Ok a) f b e = (a, refl, e)
bind_ok (Err x) f b e = absurd (cc e)

-- of its parts those that a key has
record Parts (schema : SchemaOf) (query : QueryOf) (q : TypedOf) : Type 0 where
  key : optional_key_typing (inputs_of schema) schema.key query.key ≡ Ok q.key
  applied : List TypedTransformationOf × List InputOf
  apply : apply_typing (inputs_of schema) query.apply ≡ Ok applied
  apply_is : q.apply ≡ applied.0
  select : optional_selection_typing applied.1 query.select ≡ Ok q.select

abbrev typed_in : TypedOf → Result TypedOf TypeFault → TypedOf
typed_in d (Ok q) = q
typed_in d (Err e) = d

parts_of : (schema : SchemaOf) (query : QueryOf) (q : TypedOf) → query_typing schema query ≡ Ok q → Parts schema query q
parts_of schema query q e =
    let key = bind_ok (optional_key_typing (inputs_of schema) schema.key query.key) _ q e in
    let apply = bind_ok (apply_typing (inputs_of schema) query.apply) _ q key.2 in
    let filter = bind_ok (optional_typing apply.0.1 query.filter) _ q apply.2 in
    let order = bind_ok (order_typing apply.0.1 query.order) _ q filter.2 in
    let select = bind_ok (optional_selection_typing apply.0.1 query.select) _ q order.2 in
    let same = ap (typed_in q) select.2 in
    record {
      key = key.1 ∙ ap (λ (t : TypedOf). Ok t.key) same;
      applied = apply.0;
      apply = apply.1;
      apply_is = ap (λ (t : TypedOf). t.apply) (sym same);
      select = select.1 ∙ ap (λ (t : TypedOf). Ok t.select) same;
    }

-- a table without a key takes none
insertion_map : (inputs : List InputOf) (places : List ℕ) (key : Option KeyOf) (values : List CellValue) → optional_key_typing inputs places key ≡ Ok (Some values) → ¬ (places ≡ [])
insertion_map inputs [] None values e same = absurd (cc e)
insertion_map inputs [] (Some key) values e same = absurd (cc e)
insertion_map inputs (place ∷ places) key values e same = absurd (cc same)

pub has_key : (schema : SchemaOf) (q : TypedOf) (values : List CellValue) → IsTypedFor schema q → q.key ≡ Some values → ¬ (schema.key ≡ [])
has_key schema q values typed keyed =
    let parts = parts_of schema typed.0 q typed.2 in
    insertion_map (inputs_of schema) schema.key typed.0.key values (parts.key ∙ ap Ok keyed)

-- the numbers that are selected are those of columns
selected_inside : (b : Bool) (place most : ℕ) (rest : List ℕ) → place < most → All (λ p. p < most) rest → All (λ p. p < most) (if b then place ∷ rest else rest)
selected_inside true place most rest here all = All-cons (λ (p : ℕ). p < most) place rest here all
selected_inside false place most rest here all = all

from_inside : (inputs : List InputOf) (items : List SelectItemOf) (place most : ℕ) → place + length inputs ≡ most → All (λ p. p < most) (selected_from place inputs items)
from_inside [] items place most e = All-nil (λ (p : ℕ). p < most)
from_inside (c ∷ cs) items place most e =
    selected_inside (list_any (selects c.name) items) place most (selected_from (place + 1) cs items) (omega (arith, e)) (from_inside cs items (place + 1) most (omega (arith, e)))

places_of : (b : Bool) (made places : List ℕ) (e : TypeFault) → (if b then Ok (Some made) else Err e) ≡ Ok (Some places) → made ≡ places
places_of true made places fault e = ap (list_in made) e
  where
    list_in : List ℕ → Result (Option (List ℕ)) TypeFault → List ℕ
    list_in d (Ok (Some xs)) = xs
    list_in d other = d
places_of false made places fault e = absurd (cc e)

abbrev applied_in : List TypedTransformationOf × List InputOf → Result (List TypedTransformationOf × List InputOf) TypeFault → List TypedTransformationOf × List InputOf
applied_in d (Ok a) = a
applied_in d (Err e) = d

unapplied_inputs : (inputs : List InputOf) (ts : List TransformationOf) (applied : List TypedTransformationOf × List InputOf) → apply_typing inputs ts ≡ Ok applied
    → applied.0 ≡ [] → applied.1 ≡ inputs
unapplied_inputs inputs [] applied e none = ap (λ (r : Result (List TypedTransformationOf × List InputOf) TypeFault). (applied_in applied r).1) (sym e)
unapplied_inputs inputs (t ∷ ts) applied e none =
    let one = bind_ok (transformation_typing inputs t) _ applied e in
    let more = bind_ok (apply_typing one.0.1 ts) _ applied one.2 in
    let first = ap (λ (r : Result (List TypedTransformationOf × List InputOf) TypeFault). (applied_in applied r).0) more.2 in
    absurd (cc (first, none))

chosen : (inputs given : List InputOf) (select : Option (List SelectItemOf)) (places : List ℕ) → given ≡ inputs → optional_selection_typing given select ≡ Ok (Some places)
    → All (λ p. p < length inputs) places
chosen inputs given None places same e = absurd (cc e)
chosen inputs given (Some items) places same e =
    let made = places_of (list_all (is_known given) items) (selected_places given items) places UnknownName e in
    let many = ap (λ (cs : List InputOf). length cs) same in
    subst (λ (ps : List ℕ). All (λ (p : ℕ). p < length inputs) ps) made (from_inside given items 0 (length inputs) (omega (arith, many)))

pub select_inside : (schema : SchemaOf) (q : TypedOf) (select : Option (List ℕ)) → IsTypedFor schema q → q.apply ≡ [] → select ≡ q.select
    → IfSome select (λ places. All (λ place. place < length schema.columns) places)
select_inside schema q None typed unapplied is = tt
select_inside schema q (Some places) typed unapplied is =
    let parts = parts_of schema typed.0 q typed.2 in
    let inputs = unapplied_inputs (inputs_of schema) typed.0.apply parts.applied parts.apply (sym parts.apply_is ∙ unapplied) in
    let here = chosen (inputs_of schema) parts.applied.1 typed.0.select places inputs (parts.select ∙ ap Ok (sym is)) in
    subst (λ (n : ℕ). All (λ (place : ℕ). place < n) places) (length-map schema.columns input_of) here

-- ---- what a key is answered with

key_means : (schema : SchemaOf) (q : TypedOf) (rows : List (List CellValue)) (values : List CellValue) (found : Option (List CellValue)) → q.key ≡ Some values
    → keyed_row schema values rows ≡ found → query_meaning schema q rows ≡ Some (row_meaning schema q found)
key_means schema q rows values found keyed is =
    ap (λ (k : Option (List CellValue)). keyed_meaning k schema q rows) keyed ∙ ap (λ (row : Option (List CellValue)). Some (row_meaning schema q row)) is

-- the table that a key is to be found in
pub found_table : (catalog : CatalogOf) (seen : List TableOf) (key_lookup : KeyLookup) (found : TableOf) (asked : RowsRequestOf) → (is : IsKeyLookup catalog asked key_lookup)
    → seen ≡ catalog.tables → found ≡ get_or seen key_lookup.table found → found ≡ is.table
found_table catalog seen key_lookup found asked is same at =
    table_is catalog.tables seen key_lookup.table found is.table same at (subst (λ (n : ℕ). slice_get catalog.tables n ≡ Some is.table) (sym is.number_is) is.table_is)

-- the number of the row is one
pub row_inside : (catalog : CatalogOf) (seen : List TableOf) (key_lookup : KeyLookup) (found : TableOf) (number : ℕ) → MayFind catalog key_lookup
    → seen ≡ catalog.tables → found ≡ get_or seen key_lookup.table found → row_of (keys_of found) (values_view key_lookup.key) ≡ Some number → number < length found.rows
row_inside catalog seen key_lookup found number may same at e =
    let is = may.1 in
    let here = found_table catalog seen key_lookup found may.0 is same at in
    let there = subst (λ (t : TableOf). row_of (keys_of t) (values_view key_lookup.key) ≡ Some number) here e in
    let within = (keyed_at is.table.schema.key (values_view key_lookup.key) is.table.rows number (has_key is.table.schema may.0.query (values_view key_lookup.key) is.typed is.key_is) there).0 in
    subst (λ (t : TableOf). number < length t.rows) (sym here) within

pub finds_none : (catalog : CatalogOf) (seen : List TableOf) (key_lookup : KeyLookup) (found : TableOf) (asked : RowsRequestOf) (response : ResponseOf) → IsKeyLookup catalog asked key_lookup
    → seen ≡ catalog.tables → found ≡ get_or seen key_lookup.table found → row_of (keys_of found) (values_view key_lookup.key) ≡ None → response ≡ error_response NoSuchRow
    → RespondsWithRows catalog asked response
finds_none catalog seen key_lookup found asked response is same at e made =
    let here = found_table catalog seen key_lookup found asked is same at in
    let there = subst (λ (t : TableOf). row_of (keys_of t) (values_view key_lookup.key) ≡ None) here e in
    let nowhere = keyed_nowhere is.table.schema.key (values_view key_lookup.key) is.table.rows (has_key is.table.schema asked.query (values_view key_lookup.key) is.typed is.key_is) there in
    let means = key_means is.table.schema asked.query is.table.rows (values_view key_lookup.key) None is.key_is nowhere in
    record { table = is.table; table_is = is.table_is; response_is = made ∙ ap (rows_response asked.format) (sym means) }

pub finds_row : (catalog : CatalogOf) (seen : List TableOf) (key_lookup : KeyLookup) (found : TableOf) (asked : RowsRequestOf) (number : ℕ) (row : List CellValue) (response : ResponseOf)
    → IsKeyLookup catalog asked key_lookup → seen ≡ catalog.tables → found ≡ get_or seen key_lookup.table found → row_of (keys_of found) (values_view key_lookup.key) ≡ Some number
    → slice_get found.rows number ≡ Some row
    → response ≡ row_response key_lookup.format (selected_names (optional_numbers key_lookup.select) (table_names found.schema)) (selected_values (optional_numbers key_lookup.select) row)
    → RespondsWithRows catalog asked response
finds_row catalog seen key_lookup found asked number row response is same at e read made =
    let here = found_table catalog seen key_lookup found asked is same at in
    let there = subst (λ (t : TableOf). row_of (keys_of t) (values_view key_lookup.key) ≡ Some number) here e in
    let first = (keyed_at is.table.schema.key (values_view key_lookup.key) is.table.rows number (has_key is.table.schema asked.query (values_view key_lookup.key) is.typed is.key_is) there).1 in
    let held = first ∙ subst (λ (t : TableOf). slice_get t.rows number ≡ Some row) here read in
    let means = key_means is.table.schema asked.query is.table.rows (values_view key_lookup.key) (Some row) is.key_is held in
    let told = subst (λ (t : TableOf). response ≡ row_response key_lookup.format (selected_names (optional_numbers key_lookup.select) (table_names t.schema)) (selected_values (optional_numbers key_lookup.select) row)) here made in
    let chosen_names = ap (λ (s : Option (List ℕ)). row_response key_lookup.format (selected_names s (table_names is.table.schema)) (selected_values s row)) is.select_is in
    let format = ap (λ (f : Format). row_response f (selected_names asked.query.select (table_names is.table.schema)) (selected_values asked.query.select row)) is.format_is in
    record { table = is.table; table_is = is.table_is; response_is = told ∙ chosen_names ∙ format ∙ ap (rows_response asked.format) (sym means) }

-- what the code has of the selection and the schema is what the key says
pub row_told : (key_lookup : KeyLookup) (found : TableOf) (select : Option (List ℕ)) (schema : SchemaOf) (row : List CellValue) (response : ResponseOf)
    → select ≡ optional_numbers key_lookup.select → schema ≡ found.schema
    → response ≡ row_response key_lookup.format (selected_names select (table_names schema)) (selected_values select row)
    → response ≡ row_response key_lookup.format (selected_names (optional_numbers key_lookup.select) (table_names found.schema)) (selected_values (optional_numbers key_lookup.select) row)
row_told key_lookup found select schema row response selected of told =
    told
    ∙ ap (λ (s : Option (List ℕ)). row_response key_lookup.format (selected_names s (table_names schema)) (selected_values s row)) selected
    ∙ ap (λ (x : SchemaOf). row_response key_lookup.format (selected_names (optional_numbers key_lookup.select) (table_names x)) (selected_values (optional_numbers key_lookup.select) row)) of

-- the columns that are asked for are there
pub select_there : (catalog : CatalogOf) (seen : List TableOf) (key_lookup : KeyLookup) (found : TableOf) (select : Option (List ℕ)) (schema : SchemaOf) → MayFind catalog key_lookup
    → seen ≡ catalog.tables → found ≡ get_or seen key_lookup.table found → select ≡ optional_numbers key_lookup.select → schema ≡ found.schema
    → IfSome select (λ places. All (λ place. place < length schema.columns) places)
select_there catalog seen key_lookup found select schema may same at selected of =
    let is = may.1 in
    let here = found_table catalog seen key_lookup found may.0 is same at in
    let inside = select_inside is.table.schema may.0.query (optional_numbers key_lookup.select) is.typed is.unapplied is.select_is in
    let there = subst (λ (x : SchemaOf). IfSome (optional_numbers key_lookup.select) (λ places. All (λ (place : ℕ). place < length x.columns) places))
    (sym (of ∙ ap (λ (t : TableOf). t.schema) here)) inside in
    subst (λ (s : Option (List ℕ)). IfSome s (λ places. All (λ (place : ℕ). place < length schema.columns) places)) (sym selected) there

-- the same of the numbers as they are lent, for `values` values
pub select_within : (select : Option (Bor (List ℕ))) (columns values : ℕ) → values ≡ columns
    → IfSome (option_map (λ places. places.now) select) (λ places. All (λ place. place < columns) places)
    → IfSome select (λ places. All (λ place. place < values) places.now)
select_within None columns values same inside = tt
select_within (Some places) columns values same inside = subst (λ (n : ℕ). All (λ (place : ℕ). place < n) places.now) (sym same) inside
