-- Groups by their values and their sets, one after another.
use Rattle.std.proofs.lemmas.Slice.Zip.{AllZip-long}
use Rattle.std.proofs.Common.{◌≡◌, ℕ, zero, suc, ◌+◌, ◌-◌, ◌<◌, ◌≤◌, Option, Some, None, List, [], ◌∷◌, ◌++◌, length, map, take, drop, get_or, refl, sym, ap, subst, ◌∙◌, arith, append_assoc, add-one}
use Rattle.std.specs.Prelude.{replicate, slice_get, slice_set}
use Rattle.std.specs.List.{All, AllByRecursion, AllZip}
use Rattle.std.proofs.Math.Seq.{get_or-append_seam, take-add}
use Rattle.std.proofs.lemmas.List.{get_or-drop, length_push, map-append, take-append-drop}
use Rattle.std.proofs.lemmas.List.Elements.{All-append, All-from_recursion, All-weaker, recursion_from_All}
use Rattle.cell_types.specs.Rows.{value_at, values_at}
use Rattle.cell_types.specs.Value.{CellValue, null}
use Rattle.odata_query.specs.declared.aggregate.Aggregate.{Aggregate}
use Rattle.odata_query.specs.declared.aggregate.Aggregate.TheVariants.{Count}
use Rattle.query_meaning.specs.Apply.{computed_value}
use Rattle.row_columns.proofs.NumberedLaws.{all_within}
use Rattle.row_columns.specs.Kinds.{any}
use Rattle.row_columns.specs.Numbers.{numbers_from}
use Rattle.row_columns.specs.Picked.{kinds_at}
use Rattle.aggregate_rows.specs.declared.distinct.Distinct.{Distinct}
use Rattle.aggregate_rows.specs.Gathered.{part_of, rows_gathered, HasGroups, IsPushed}
use Rattle.aggregate_rows.specs.Table.{group_of, groups_of, key_of_group, shape_of, shown_in, GroupOf, GroupsOf, IsShaped}
use Rattle.aggregate_rows.specs.Tallies.{aggregates_at, HasResults}
use Rattle.aggregate_rows.proofs.ListLemmas.{replicated}
use Rattle.aggregate_rows.proofs.ResultLemmas.{results_shown, IsOf}

-- ---- a part of a row is replaced

-- the items from `key` on in the row at `from`
pub part_put : {X : Type 0} (xs ys : List X) (from key end : ℕ) → take (from + key) xs ++ (ys ++ drop end xs) ≡ take from xs ++ ((take key (drop from xs) ++ ys) ++ drop end xs)
part_put xs ys from key end =
    rw (take-add from key xs, append_assoc (take from xs) (take key (drop from xs)) (ys ++ drop end xs), append_assoc (take key (drop from xs)) ys (drop end xs)) refl

-- ---- groups

module _ (key : ℕ) where
  pub groups-long : (rows : List (List CellValue)) (sets : List (List Distinct)) → length rows ≡ length sets → length (groups_of key rows sets) ≡ length rows
  groups-long (r ∷ rows) (s ∷ sets) long = ap suc (groups-long rows sets (omega arith))
  groups-long [] sets long = refl
  groups-long rows sets long = absurd (omega arith)

  pub keys-of : (rows : List (List CellValue)) (sets : List (List Distinct)) → length rows ≡ length sets → map key_of_group (groups_of key rows sets) ≡ map (take key) rows
  keys-of (r ∷ rows) (s ∷ sets) long = ap (λ ks. take key r ∷ ks) (keys-of rows sets (omega arith))
  keys-of [] sets long = refl
  keys-of rows sets long = absurd (omega arith)

  -- the whole rows
  pub rows-of : (rows : List (List CellValue)) (sets : List (List Distinct)) → length rows ≡ length sets → map (λ (g : GroupOf). g.key ++ g.results) (groups_of key rows sets) ≡ rows
  rows-of (r ∷ rows) (s ∷ sets) long = rw (take-append-drop key r, rows-of rows sets (omega arith)) refl
  rows-of [] sets long = refl
  rows-of rows sets long = absurd (omega arith)

  pub group-there : (rows : List (List CellValue)) (sets : List (List Distinct)) (place : ℕ) → length rows ≡ length sets → place < length rows
      → slice_get (groups_of key rows sets) place ≡ Some (group_of key (get_or rows place []) (get_or sets place []))
  group-there (r ∷ rows) (s ∷ sets) zero long inside = refl
  group-there (r ∷ rows) (s ∷ sets) (suc place) long inside = group-there rows sets place (omega arith) (omega arith)
  group-there rows sets place long inside = absurd (omega arith)

  pub groups-more : (rows : List (List CellValue)) (sets : List (List Distinct)) (row : List CellValue) (own : List Distinct) → length rows ≡ length sets
      → groups_of key (rows ++ row ∷ []) (sets ++ own ∷ []) ≡ groups_of key rows sets ++ group_of key row own ∷ []
  groups-more [] [] row own long = refl
  groups-more (r ∷ rows) (s ∷ sets) row own long = ap (λ gs. group_of key r s ∷ gs) (groups-more rows sets row own (omega arith))
  groups-more rows sets row own long = absurd (omega arith)

  pub groups-set : (rows : List (List CellValue)) (sets : List (List Distinct)) (place : ℕ) (row : List CellValue) (own : List Distinct) → length rows ≡ length sets
      → groups_of key (slice_set rows place row) (slice_set sets place own) ≡ slice_set (groups_of key rows sets) place (group_of key row own)
  groups-set (r ∷ rows) (s ∷ sets) (suc place) row own long = ap (λ gs. group_of key r s ∷ gs) (groups-set rows sets place row own (omega arith))
  groups-set [] [] place row own long = refl
  groups-set (r ∷ rows) (s ∷ sets) zero row own long = refl
  groups-set rows sets place row own long = absurd (omega arith)

-- ---- the row of each group

module _ {X : Type 0} (d : X) where
  front : (before row : List X) (n : ℕ) → n ≤ length row → map (λ i. get_or (before ++ row) i d) (numbers_from (length before) n) ≡ take n row
  front before row zero long = refl
  front before [] (suc n) long = absurd (omega arith)
  front before (x ∷ row) (suc n) long =
      let rest = front (before ++ x ∷ []) row n (omega arith) in
      rw (get_or-append_seam before x row d) (ap (λ ys. x ∷ ys) (rw (length_push before x, append_assoc before (x ∷ []) row, add-one) at rest))

  behind : (row : List X) (key : ℕ) (places : List ℕ) → map (λ i. get_or row i d) (map (λ place. key + place) places) ≡ map (λ i. get_or (drop key row) i d) places
  behind row key [] = refl
  behind row key (place ∷ places) = rw (get_or-drop key row place d, behind row key places) refl

-- the values of the key, and those after it at places
row-shown : (key : ℕ) (shown : List ℕ) (row : List CellValue) → key ≤ length row → values_at (numbers_from 0 key ++ map (λ place. key + place) shown) row ≡ take key row ++ values_at shown (drop key row)
row-shown key shown row long = rw (map-append (value_at row) (numbers_from 0 key) (map (λ place. key + place) shown), front null [] row key long, behind null row key shown) refl

-- these places are inside a row
pub places-inside : (key width : ℕ) (shown : List ℕ) → key ≤ width → All (λ place. place < width - key) shown → All (λ place. place < width) (numbers_from 0 key ++ map (λ place. key + place) shown)
places-inside key width shown wide within =
    All-append (λ place. place < width) (numbers_from 0 key) (map (λ place. key + place) shown)
    (All-weaker (λ place. place < key) (λ place. place < width) (λ place less. omega (arith, less, wide)) (numbers_from 0 key) (all_within key))
    (All-from_recursion (λ place. place < width) (map (λ place. key + place) shown) (behind-inside shown (recursion_from_All (λ place. place < width - key) shown within)))
  where
    behind-inside : (places : List ℕ) → AllByRecursion (λ place. place < width - key) places → AllByRecursion (λ place. place < width) (map (λ place. key + place) places)
    behind-inside [] all = tt
    behind-inside (place ∷ places) all = (let less = all.0 in omega arith, behind-inside places all.1)

pub numbers-long : (start count : ℕ) → length (numbers_from start count) ≡ count
numbers-long start zero = refl
numbers-long start (suc count) = ap suc (numbers-long (suc start) count)

-- their columns are of any
pub kinds-any : (width : ℕ) (places : List ℕ) → kinds_at places (replicate width any) ≡ replicate (length places) any
kinds-any width [] = refl
kinds-any width (place ∷ places) = rw (replicated width place any, kinds-any width places) refl

pub all-shown : (key : ℕ) (shown : List ℕ) (rows : List (List CellValue)) (sets : List (List Distinct)) → length rows ≡ length sets → AllByRecursion (λ (row : List CellValue). key ≤ length row) rows
    → map (values_at (numbers_from 0 key ++ map (λ place. key + place) shown)) rows ≡ map (shown_in shown) (groups_of key rows sets)
all-shown key shown (r ∷ rows) (s ∷ sets) long wide = rw (row-shown key shown r wide.0, all-shown key shown rows sets (omega arith) wide.1) refl
all-shown key shown [] sets long wide = refl
all-shown key shown rows sets long wide = absurd (omega arith)

module _ (aggregates : List Aggregate) (shown : List ℕ) (within : All (λ place. place < length aggregates) shown) where
  -- the results at places are what the aggregates at them compute
  result_at : (rows : List (List CellValue)) (asked : List Aggregate) (vs : List CellValue) (place : ℕ) → AllZip (IsOf rows) asked vs → place < length asked → get_or vs place null ≡ computed_value rows (get_or asked place Count)
  result_at rows (a ∷ asked) (v ∷ vs) zero z inside = z.0
  result_at rows (a ∷ asked) (v ∷ vs) (suc place) z inside = result_at rows asked vs place z.1 (omega arith)
  result_at rows asked vs place z inside = absurd (omega (arith, AllZip-long (IsOf rows) asked vs z))

  results_at : (rows : List (List CellValue)) (values : List CellValue) → AllZip (IsOf rows) aggregates values → (places : List ℕ) → AllByRecursion (λ place. place < length aggregates) places
      → values_at places values ≡ map (computed_value rows) (aggregates_at places aggregates)
  results_at rows values z [] all = refl
  results_at rows values z (place ∷ places) all = rw (result_at rows aggregates values place z all.0, results_at rows values z places all.1) refl

  each_row : (part : List CellValue → List (List CellValue)) (groups : List GroupOf) → AllZip (HasResults aggregates) (map part (map key_of_group groups)) groups
      → map (shown_in shown) groups ≡ map (λ key. key ++ map (computed_value (part key)) (aggregates_at shown aggregates)) (map key_of_group groups)
  each_row part [] z = refl
  each_row part (g ∷ gs) z =
      rw (results_at (part g.key) g.results z.0.results shown (recursion_from_All (λ place. place < length aggregates) shown within), each_row part gs z.1) refl

  pub rows-made : (places : Option (List ℕ)) (groups : GroupsOf) (rows : List (List CellValue)) → HasGroups places aggregates groups rows
      → map (shown_in shown) groups.groups ≡ rows_gathered places (aggregates_at shown aggregates) rows
  rows-made places groups rows has =
      each_row (part_of places rows) groups.groups (subst (λ ks. AllZip (HasResults aggregates) (map (part_of places rows) ks) groups.groups) (sym has.keys_are) has.results_are)
      ∙ ap (map (λ key. key ++ map (computed_value (part_of places rows key)) (aggregates_at shown aggregates))) has.keys_are

-- all results, in their order
pub whole-rows : (aggregates : List Aggregate) (places : Option (List ℕ)) (groups : GroupsOf) (rows : List (List CellValue)) → HasGroups places aggregates groups rows
    → map (λ (g : GroupOf). g.key ++ g.results) groups.groups ≡ rows_gathered places aggregates rows
whole-rows aggregates places groups rows has =
    each groups.groups (subst (λ ks. AllZip (HasResults aggregates) (map (part_of places rows) ks) groups.groups) (sym has.keys_are) has.results_are)
    ∙ ap (map (λ key. key ++ map (computed_value (part_of places rows key)) aggregates)) has.keys_are
  where
    each : (gs : List GroupOf) → AllZip (HasResults aggregates) (map (part_of places rows) (map key_of_group gs)) gs
        → map (λ (g : GroupOf). g.key ++ g.results) gs ≡ map (λ key. key ++ map (computed_value (part_of places rows key)) aggregates) (map key_of_group gs)
    each [] z = refl
    each (g ∷ gs) z = rw (results_shown (part_of places rows g.key) aggregates g.results z.0.results, each gs z.1) refl

-- ---- no groups yet

pub none_yet : (places : List ℕ) (aggregates : List Aggregate) (groups : GroupsOf) → IsShaped groups places aggregates → groups.groups ≡ [] → HasGroups (Some places) aggregates groups []
none_yet places aggregates groups shape none = record {
  shape_is = shape;
  keys_are = ap (map key_of_group) none;
  results_are = subst (AllZip (HasResults aggregates) []) (sym none) tt;
}

pub whole_yet : (aggregates : List Aggregate) (groups : GroupsOf) → groups.shape ≡ shape_of 0 aggregates → IsPushed aggregates [] [] groups.groups → HasGroups None aggregates groups []
whole_yet aggregates groups shape pushed = record {
  shape_is = shape;
  keys_are = ap (map key_of_group) pushed.groups ∙ ap (λ k. k ∷ []) pushed.key_is;
  results_are = subst (AllZip (HasResults aggregates) ([] ∷ [])) (sym pushed.groups) (pushed.begins, tt);
}
