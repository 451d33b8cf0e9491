-- Groups and what is computed of their rows, where rows join.
use Rattle.std.proofs.Common.{◌≡◌, ◌↔◌, ℕ, ◌<◌, ◌+◌, IsTrue, Option, Some, None, List, [], ◌∷◌, ◌++◌, Vec, Global, length, map, filter, take, drop, get_or, refl, sym, ap, ◌∙◌, append_assoc}
use Rattle.std.specs.Prelude.{slice_index_or}
use Rattle.std.specs.List.{AllByRecursion}
use Rattle.std.proofs.lemmas.List.{length-map, map-append, take_more, take-append-drop}
use Rattle.std.proofs.lemmas.List.Elements.{All-map}
use Rattle.cell_types.specs.Value.{CellValue, value_eq}
use Rattle.odata_query.specs.declared.aggregate.Aggregate.{Aggregate}
use Rattle.odata_query.specs.Aggregate.{NamedAggregateOf}
use Rattle.odata_query.specs.Query.{optional_numbers}
use Rattle.query_meaning.specs.Apply.{computed_value, computed_values, group_values, rows_of_group, is_value, value_at, present_values}
use Rattle.row_columns.specs.Picked.{numbered}
use Rattle.aggregate_rows.specs.declared.aggregator.Aggregator.{Aggregator}
use Rattle.aggregate_rows.specs.Table.{GroupsOf, key_of_group}
use Rattle.aggregate_rows.specs.Gathered.{gathered_rows, plain_aggregates, group_keys, rows_gathered, Adjoins, HasGroups, JoinsGroups, MayJoin, MayJoinGroups}
use Rattle.aggregate_rows.specs.Tallies.{FitsAll}
use Rattle.aggregate_rows.proofs.FitLemmas.{all_fit_front}
use Rattle.aggregate_rows.proofs.GroupLemmas.{joins}
use Rattle.aggregate_rows.proofs.OnceLemmas.{true_of_each}
use Rattle.aggregate_rows.proofs.ValueLemmas.{values_append}

abbrev pub AreOneType : Type 0
AreOneType = (a b : CellValue) → IsTrue (value_eq a b) ↔ (a ≡ b)

-- ---- rows one after another

pub one_row_more : (before rows : List (List CellValue)) (numbers : List ℕ) (i : ℕ) → i < length numbers
    → before ++ numbered (take (i + 1) numbers) rows ≡ (before ++ numbered (take i numbers) rows) ++ slice_index_or rows (get_or numbers i 0) [] ∷ []
one_row_more before rows numbers i h =
    rw (take_more numbers i 0 h, map-append (λ n. slice_index_or rows n []) (take i numbers) (get_or numbers i 0 ∷ []))
    (sym (append_assoc before (numbered (take i numbers) rows) (slice_index_or rows (get_or numbers i 0) [] ∷ [])))

-- the values of these in a column
pub values_more : (place : ℕ) (before rows : List (List CellValue)) (numbers : List ℕ) (i : ℕ) (value : CellValue) → i < length numbers
    → value_at (slice_index_or rows (get_or numbers i 0) []) place ≡ value
    → present_values place (before ++ numbered (take (i + 1) numbers) rows) ≡ present_values place (before ++ numbered (take i numbers) rows) ++ filter is_value (value ∷ [])
values_more place before rows numbers i value h at =
    rw (one_row_more before rows numbers i h, ← at) (values_append place (before ++ numbered (take i numbers) rows) (slice_index_or rows (get_or numbers i 0) [] ∷ []))

-- the first rows of those that join
pub rows_front : (before rows : List (List CellValue)) (numbers : List ℕ) (k : ℕ)
    → before ++ numbered numbers rows ≡ (before ++ numbered (take k numbers) rows) ++ numbered (drop k numbers) rows
rows_front before rows numbers k =
    rw (append_assoc before (numbered (take k numbers) rows) (numbered (drop k numbers) rows))
    (rw (← (map-append (λ n. slice_index_or rows n []) (take k numbers) (drop k numbers)), take-append-drop k numbers) refl)

pub one_row_fits : (width : ℕ) (before rows : List (List CellValue)) (numbers : List ℕ) (i : ℕ) (aggregates : List Aggregate) → i < length numbers
    → AllByRecursion (FitsAll width (before ++ numbered numbers rows)) aggregates
    → AllByRecursion (FitsAll width ((before ++ numbered (take i numbers) rows) ++ slice_index_or rows (get_or numbers i 0) [] ∷ [])) aggregates
one_row_fits width before rows numbers i aggregates h fits =
    rw (← (one_row_more before rows numbers i h)) (all_fit_front width (before ++ numbered (take (i + 1) numbers) rows) (numbered (drop (i + 1) numbers) rows) aggregates
    (rw (← (rows_front before rows numbers (i + 1))) fits))

-- ---- the rows that are given

-- what is computed of rows, by aggregates without their names
computed_plain : (aggregates : List NamedAggregateOf) (rows : List (List CellValue)) → map (computed_value rows) (map (λ a. a.aggregate) aggregates) ≡ computed_values aggregates rows
computed_plain [] rows = refl
computed_plain (a ∷ others) rows = rw (computed_plain others rows) refl

each_row : (aggregates : List NamedAggregateOf) (part : List CellValue → List (List CellValue)) (keys : List (List CellValue))
    → map (λ key. key ++ map (computed_value (part key)) (map (λ a. a.aggregate) aggregates)) keys ≡ map (λ key. key ++ computed_values aggregates (part key)) keys
each_row aggregates part [] = refl
each_row aggregates part (key ∷ keys) = rw (computed_plain aggregates (part key), each_row aggregates part keys) refl

pub plain_rows : (places : Option (List ℕ)) (aggregates : List NamedAggregateOf) (rows : List (List CellValue))
    → rows_gathered places (map (λ a. a.aggregate) aggregates) rows ≡ gathered_rows places aggregates rows
plain_rows None aggregates rows = ap (λ r. r ∷ []) (computed_plain aggregates rows)
plain_rows (Some places) aggregates rows = each_row aggregates (rows_of_group places rows) (group_values places rows)

-- as many groups as keys
pub as_many : (places : Option (List ℕ)) (aggregates : List Aggregate) (groups : GroupsOf) (rows : List (List CellValue)) → HasGroups places aggregates groups rows
    → length groups.groups ≡ length (group_keys places rows)
as_many places aggregates groups rows has = sym (length-map groups.groups key_of_group) ∙ ap length has.keys_are

-- ---- rows join

pub groups_may_join : (aggregator : Aggregator) (width : ℕ) (more : List (List CellValue)) (may : MayJoin aggregator width more) (places : Option (List ℕ)) (aggregates : List Aggregate)
    → optional_numbers aggregator.places ≡ places → aggregates ≡ aggregator.aggregates.items → MayJoinGroups places aggregates width aggregator.groups more
groups_may_join aggregator width more may places aggregates places_are aggregates_are = record {
  rows = may.rows;
  has = rw (aggregates_are, ← places_are, may.gathers.places_are) may.gathers.groups_are;
  fits = rw aggregates_are (true_of_each (FitsAll width (may.rows ++ more)) (plain_aggregates may.aggregates) aggregator.aggregates.items aggregator.shown.items may.gathers.aggregates_are
      (All-map (FitsAll width (may.rows ++ more)) (λ a. a.aggregate) may.aggregates may.fits));
}

pub groups_join : (old new : Aggregator) (more : List (List CellValue)) (places : Option (List ℕ)) (aggregates : List Aggregate) → new.places ≡ old.places
    → new.aggregates ≡ old.aggregates → new.shown ≡ old.shown → optional_numbers old.places ≡ places → aggregates ≡ old.aggregates.items → JoinsGroups places aggregates old.groups new.groups more
    → Adjoins old new more
groups_join old new more places aggregates same_places same_aggregates same_shown places_are aggregates_are joins = λ wanted named rows g.
    let is : places ≡ wanted = sym places_are ∙ g.places_are in
    let plain : new.aggregates.items ≡ aggregates = ap (λ (v : Vec Aggregate Global). v.items) same_aggregates ∙ sym aggregates_are in
    record {
      places_are = ap optional_numbers same_places ∙ g.places_are;
      aggregates_are = rw (same_aggregates, same_shown) g.aggregates_are;
      groups_are = rw (plain, ← is) (joins rows (rw (is, aggregates_are) g.groups_are));
    }
