-- Groups as they are kept.
use Rattle.std.proofs.Common.{◌≡◌, ℕ, ◌+◌, ◌*◌, ◌-◌, ◌<◌, ◌≤◌, ◌^◌, List, [], ◌++◌, get_or, length, map, take, drop, sym, ap, subst, ◌∙◌, arith, refl}
use Rattle.std.specs.Hash.{HashWrites}
use Rattle.std.specs.List.{All}
use Rattle.std.proofs.lemmas.List.{get_or-map}
use Rattle.cell_types.proofs.ListLaws.{AllByRecursion-weaker}
use Rattle.cell_types.specs.Rows.{values_at}
use Rattle.cell_types.specs.Value.{CellValue}
use Rattle.cell_types.specs.declared.value.Value.{Value}
use Rattle.insertion_map.specs.Hashes.{ArePlaces, PlacesOf}
use Rattle.value_rows.specs.ValueRows.{rows_of}
use Rattle.value_rows.proofs.RowLaws.{row-at, row-inside, rows-long, rows-wide, take-take-le}
use Rattle.row_columns.specs.Numbers.{numbers_from}
use Rattle.aggregate_rows.specs.declared.distinct.Distinct.{Distinct}
use Rattle.aggregate_rows.specs.declared.groups.Groups.TheInside.{Inside}
use Rattle.aggregate_rows.specs.Gathered.{keys_held, HaveShown, MakesRows}
use Rattle.aggregate_rows.specs.Inside.{count_of, groups_view, AreGroups, AreHashed}
use Rattle.aggregate_rows.specs.Table.{groups_of, shown_in, GroupOf, GroupsOf, ShapeOf}
use Rattle.aggregate_rows.proofs.KeyLemmas.{none-hashed}
use Rattle.aggregate_rows.proofs.PutLemmas.{held-long}
use Rattle.aggregate_rows.proofs.ResultLemmas.{all_shown}
use Rattle.aggregate_rows.proofs.TableLemmas.{all-shown, keys-of, rows-made, rows-of, whole-rows}

module _ (input : Value → HashWrites) (g : Inside) (are : AreGroups input g) where
  -- how many groups there are
  pub many : length (groups_view g).groups ≡ count_of g
  many = held-long g.key_width g.width g.set_count (count_of g) g.values g.sets.items are.wide are.values are.sets

  pub place-held : (held : GroupsOf) → groups_view g ≡ held → (place : ℕ) → place < length held.groups → place < count_of g
  place-held held same place less = omega (arith, less, many, ap (λ (s : GroupsOf). length s.groups) same)

  as_many : length (rows_of g.width (count_of g) g.values) ≡ length (rows_of g.set_count (count_of g) g.sets.items)
  as_many = rows-long g.width (count_of g) g.values ∙ sym (rows-long g.set_count (count_of g) g.sets.items)

  -- the key at a place
  pub key-here : (place : ℕ) → place < count_of g → get_or (keys_held (groups_view g)) place [] ≡ take g.key_width (drop (place * g.width) g.values)
  key-here place inside =
      let values = g.values in
      let rows = rows_of g.width (count_of g) values in
      rw (keys-of g.key_width rows (rows_of g.set_count (count_of g) g.sets.items) as_many)
      (rw (get_or-map (take g.key_width) rows place [] [] (omega (arith, inside, rows-long g.width (count_of g) values)))
      (rw (row-at g.width (count_of g) values place inside) (take-take-le g.key_width g.width (drop (place * g.width) values) are.wide)))

  pub key-inside : (place : ℕ) → place < count_of g → place * g.width + g.key_width ≤ length g.values
  key-inside place inside = let row = row-inside g.width (count_of g) place inside in omega (arith, row, are.wide, are.values)

  -- the rows of all groups are their values, or those at places
  pub rows-held : map (λ (h : GroupOf). h.key ++ h.results) (groups_view g).groups ≡ rows_of g.width (count_of g) g.values
  rows-held = rows-of g.key_width (rows_of g.width (count_of g) g.values) (rows_of g.set_count (count_of g) g.sets.items) as_many

  pub rows-shown : (shown : List ℕ)
      → map (values_at (numbers_from 0 g.key_width ++ map (λ place. g.key_width + place) shown)) (rows_of g.width (count_of g) g.values) ≡ map (shown_in shown) (groups_view g).groups
  rows-shown shown =
      let rows = rows_of g.width (count_of g) g.values in
      all-shown g.key_width shown rows (rows_of g.set_count (count_of g) g.sets.items) as_many
      (AllByRecursion-weaker (λ (row : List CellValue). length row ≡ g.width) (λ row. g.key_width ≤ length row) (λ row e. omega (arith, e, are.wide)) rows
      (rows-wide g.width (count_of g) g.values are.values))

  -- these are the rows that are asked for
  pub rows-whole : (shown : List ℕ) → (length shown ≡ g.width - g.key_width) × ((i : ℕ) → i < g.width - g.key_width → get_or shown i 0 ≡ i)
      → MakesRows (groups_view g) shown (rows_of g.width (count_of g) g.values)
  rows-whole shown all = λ places aggregates rows has.
      let results : g.width - g.key_width ≡ length aggregates = ap (λ (s : ShapeOf). s.results) has.shape_is in
      rw (← rows-held, all_shown aggregates shown (g.width - g.key_width) results all) (whole-rows aggregates places (groups_view g) rows has)

  pub shown-within : (shown : List ℕ) → HaveShown (groups_view g) shown → All (λ place. place < g.width - g.key_width) shown
  shown-within shown have = rw (ap (λ (s : ShapeOf). s.results) have.3.shape_is) have.4

  pub rows-picked : (shown : List ℕ) → All (λ place. place < g.width - g.key_width) shown
      → MakesRows (groups_view g) shown (map (values_at (numbers_from 0 g.key_width ++ map (λ place. g.key_width + place) shown)) (rows_of g.width (count_of g) g.values))
  rows-picked shown within = λ places aggregates rows has.
      let results : g.width - g.key_width ≡ length aggregates = ap (λ (s : ShapeOf). s.results) has.shape_is in
      rows-shown shown ∙ rows-made aggregates shown (rw results at within) places (groups_view g) rows has

-- the keys are found by their hashes
pub hashed-held : (input : Value → HashWrites) (g : Inside) → AreGroups input g → (held : GroupsOf) → groups_view g ≡ held → AreHashed input g.places (keys_held held)
hashed-held input g are held same = subst (λ (s : GroupsOf). AreHashed input g.places (keys_held s)) same are.places

-- no groups
pub none-held : (key width set_count : ℕ) (places : PlacesOf) (values : List CellValue) (sets : List Distinct) → ArePlaces places []
    → groups_of key (rows_of width (length places.before) values) (rows_of set_count (length places.before) sets) ≡ []
none-held key width set_count places values sets are = rw (← are.linked.long) refl

pub none-are : (input : Value → HashWrites) (g : Inside) → ArePlaces g.places [] → g.key_width ≤ g.width → g.width < 2 ^ 62 → AreGroups input g
none-are input g places wide few =
    let none : count_of g ≡ 0 = sym places.linked.long in
    record { wide = wide; few = few; values = rw none (omega arith); sets = rw none (omega arith); places = rw none (none-hashed input g.places places) }
