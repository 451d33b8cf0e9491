-- Groups while one comes after them, or more rows join one.
use Rattle.std.specs.Vec.{with_items}
use Rattle.std.proofs.Common.{◌≡◌, ℕ, suc, ◌+◌, ◌*◌, ◌-◌, ◌<◌, ◌≤◌, List, [], ◌∷◌, ◌++◌, Vec, Global, Result, Ok, Err, Some, length, map, take, drop, refl, sym, ap, subst, ◌∙◌, arith}
use Rattle.std.specs.Prelude.{slice_get, slice_set, OnErr, OnOk}
use Rattle.std.specs.Hash.{HashWrites}
use Rattle.std.specs.List.{filter_map, AllZip}
use Rattle.std.proofs.lemmas.List.{drop-drop, drop-take, length-append, length-drop, length-map, length-take, length-take-le, length_push, map-append, take_at}
use Rattle.std.proofs.lemmas.Option.{get_or_from_slice_get, same_Some, slice_get_within}
use Rattle.cell_types.specs.Value.{CellValue, value_view}
use Rattle.cell_types.specs.declared.value.Value.{Value}
use Rattle.insertion_map.specs.Hashes.{ArePlaces, PlacesOf}
use Rattle.odata_query.specs.declared.aggregate.Aggregate.{Aggregate}
use Rattle.query_meaning.specs.Apply.{computed_value}
use Rattle.value_rows.proofs.RowLaws.{front-long, row-inside, rows-front}
use Rattle.aggregate_rows.specs.declared.distinct.Distinct.{Distinct}
use Rattle.aggregate_rows.specs.declared.groups.Groups.TheInside.{Inside}
use Rattle.aggregate_rows.specs.Distinct.{distinct_place}
use Rattle.aggregate_rows.specs.Gathered.{IsPushed, JoinsGroup, MayJoinGroup}
use Rattle.aggregate_rows.specs.Inside.{count_of, groups_view, hash_of_key, AreGroups}
use Rattle.aggregate_rows.specs.Table.{group_of, key_of_group, cut_values, results_of, shape_of, GroupOf, GroupsOf, IsPartPut, ShapeOf}
use Rattle.aggregate_rows.specs.Tallies.{HasResults, HasSet, HasSetsMore, TalliesEach, MayTallyEach}
use Rattle.aggregate_rows.proofs.InsideLemmas.{place-held}
use Rattle.aggregate_rows.proofs.JoinLemmas.{keys_stay}
use Rattle.aggregate_rows.proofs.KeyLemmas.{hashed-more}
use Rattle.aggregate_rows.proofs.ListLemmas.{zip_long}
use Rattle.aggregate_rows.proofs.PutLemmas.{here, pushed, put, results-long as whole-long}
use Rattle.aggregate_rows.proofs.ResultLemmas.{IsOf}

-- what holds if it went well, and if memory ran out, holds
pub either : {T E : Type 0} (r : Result T E) (P Q R : Type 0) → OnOk r P → OnErr r Q → (P → R) → (Q → R) → R
either (Ok x) P Q R p q f g = f p
either (Err e) P Q R p q f g = g q

none_computed : (aggregates : List Aggregate) → AllZip (IsOf []) aggregates (map (computed_value []) aggregates)
none_computed [] = tt
none_computed (a ∷ others) = (refl, none_computed others)

-- what was cut off at an end, and then grew
pub cut-front : {X : Type 0} (n m : ℕ) (items cut more : List X) → m ≡ n → cut ≡ take m items → n ≤ length items → take (length cut) more ≡ cut → take n more ≡ take n items
cut-front n m items cut more same is long front =
    let cut_is : cut ≡ take n items = rw same at is in
    rw (← cut_is, ← front) (ap (λ k. take k more) (sym (ap length cut_is ∙ length-take-le n items long)))

pub values-pushed : (n m : ℕ) (items cut copies new : List CellValue) (key results : List CellValue) → m ≡ n → cut ≡ take m items → copies ≡ cut ++ key → new ≡ copies ++ results
    → new ≡ (take n items ++ key) ++ results
values-pushed n m items cut copies new key results same is first second =
    rw (second, first, is, same) refl

-- the results and the sets of a group are all that counts
pub of_results : (aggregates : List Aggregate) (rows : List (List CellValue)) (group other : GroupOf) → group.results ≡ other.results → group.sets ≡ other.sets → HasResults aggregates rows group → HasResults aggregates rows other
of_results aggregates rows group other same same_sets has = record {
  results = subst (AllZip (IsOf rows) aggregates) same has.results;
  sets = subst (AllZip (HasSet rows) (filter_map distinct_place aggregates)) same_sets has.sets;
}

-- a part of a list that is put back
put-back : {X : Type 0} (s items new : List X) (from n m k : ℕ) → s ≡ items → length new ≡ n → m ≡ n → from + n ≤ length items → k ≡ length items
    → take k ((take from s ++ (new ++ drop m (drop from s))) ++ drop (length (take from s ++ (new ++ drop m (drop from s)))) items) ≡ take from items ++ (new ++ drop (from + n) items)
put-back s items new from n m k same long ends inside size =
    let w = take from s ++ (new ++ drop m (drop from s)) in
    take_at w (drop (length w) items) k
    (omega (arith, length-append (take from s) (new ++ drop m (drop from s)), length-append new (drop m (drop from s)), length-take from s, length-drop m (drop from s), length-drop from s, ap length same, long, ends, inside, size))
    ∙ ap (λ xs. take from xs ++ (new ++ drop m (drop from xs))) same ∙ ap (λ b. take from items ++ (new ++ b)) (drop-drop m from items ∙ ap (λ j. drop (from + j) items) ends)

-- there is room for the values and the sets of the group at a place, and that is how many results it has
pub record HasRoom (g : Inside) (place results : ℕ) : Type 0 where
  pub values : place * g.width + g.width ≤ length g.values
  pub sets : place * g.set_count + g.set_count ≤ length g.sets.items
  pub long : results ≡ g.width - g.key_width

module _ (input : Value → HashWrites) (g : Inside) (are : AreGroups input g) where
  -- the groups stay while their values and sets do, whatever comes after these
  module _ (p : PlacesOf) (placed : ArePlaces p are.places.hashes) (values : List CellValue) (sets : Vec Distinct Global) (same : take (count_of g * g.width) values ≡ take (count_of g * g.width) g.values)
      (same_sets : take (count_of g * g.set_count) sets.items ≡ take (count_of g * g.set_count) g.sets.items) where
    count-stays : length p.before ≡ count_of g
    count-stays = sym placed.linked.long ∙ are.places.are.linked.long

    pub groups-stay : (groups_view (record g { places = p; values = values; sets = sets })).groups ≡ (groups_view g).groups
    groups-stay =
        rw (count-stays, rows-front g.set_count (count_of g) sets.items g.sets.items are.sets same_sets)
        (rw (rows-front g.width (count_of g) values g.values are.values same) refl)

    pub kept-are : AreGroups input (record g { places = p; values = values; sets = sets })
    kept-are = record {
      wide = are.wide;
      few = are.few;
      values = rw count-stays (front-long (count_of g * g.width) values g.values are.values same);
      sets = rw count-stays (front-long (count_of g * g.set_count) sets.items g.sets.items are.sets same_sets);
      places = rw groups-stay (record { hashes = are.places.hashes; are = placed; as_many = are.places.as_many; each = are.places.each });
    }

  -- a group of no rows comes after the others
  module _ (key : List Value) (aggregates : List Aggregate) (shape : (groups_view g).shape ≡ shape_of (length key) aggregates) (p : PlacesOf) (hash : ℕ) (placed : ArePlaces p (are.places.hashes ++ hash ∷ []))
      (values : List CellValue) (sets : Vec Distinct Global)
      (values_are : values ≡ (take (count_of g * g.width) g.values ++ map value_view key) ++ map (computed_value []) aggregates)
      (more : HasSetsMore aggregates (take (count_of g * g.set_count) g.sets.items) sets.items) where
    key-long : length (map value_view key) ≡ g.key_width
    key-long = length-map key value_view ∙ sym (ap (λ (s : ShapeOf). s.key) shape)

    results-long : length (map (computed_value []) aggregates) ≡ g.width - g.key_width
    results-long = length-map aggregates (computed_value []) ∙ sym (ap (λ (s : ShapeOf). s.results) shape)

    sets-long : length more.0 ≡ g.set_count
    sets-long = sym (zip_long (HasSet []) (filter_map distinct_place aggregates) more.0 more.2) ∙ sym (ap (λ (s : ShapeOf). s.sets) shape)

    count-grows : length p.before ≡ suc (count_of g)
    count-grows = omega (arith, placed.linked.long, are.places.are.linked.long, length_push are.places.hashes hash)

    groups-grow : (groups_view (record g { places = p; values = values; sets = sets })).groups
        ≡ (groups_view g).groups ++ record { key = map value_view key; results = map (computed_value []) aggregates; sets = more.0 } ∷ []
    groups-grow =
        rw (count-grows, values_are, more.1)
        (pushed g.key_width g.width g.set_count (count_of g) g.values g.sets.items are.wide are.values are.sets (map value_view key) (map (computed_value []) aggregates) more.0 key-long results-long sets-long)

    pub is-pushed : IsPushed aggregates (map value_view key) (groups_view g).groups (groups_view (record g { places = p; values = values; sets = sets })).groups
    is-pushed = record {
      made = record { key = map value_view key; results = map (computed_value []) aggregates; sets = more.0 };
      key_is = refl;
      begins = record { results = none_computed aggregates; sets = more.2 };
      groups = groups-grow;
    }

    pub grown-are : ((v w : Value) → value_view v ≡ value_view w → input v ≡ input w) → hash ≡ hash_of_key input key → AreGroups input (record g { places = p; values = values; sets = sets })
    grown-are alike own =
        let cut = count_of g * g.width in
        let set_cut = count_of g * g.set_count in
        record {
          wide = are.wide;
          few = are.few;
          values = rw count-grows (let size = ap length values_are in let before = length-take-le cut g.values are.values in
              omega (arith, length-append {A = CellValue}, key-long, results-long, are.wide));
          sets = rw count-grows (omega (arith, ap length more.1, length-append {A = Distinct}, length-take-le set_cut g.sets.items are.sets, sets-long));
          places = rw (groups-grow, map-append key_of_group (groups_view g).groups)
              (hashed-more input g.places p (map key_of_group (groups_view g).groups) are.places key hash alike own placed);
        }

  -- more rows join the group at a place
  module _ (place : ℕ) (inside : place < count_of g) where
    abbrev pub its-key : List CellValue
    its-key = take g.key_width (take g.width (drop (place * g.width) g.values))

    pub its-group : slice_get (groups_view g).groups place
        ≡ Some (group_of g.key_width (take g.width (drop (place * g.width) g.values)) (take g.set_count (drop (place * g.set_count) g.sets.items)))
    its-group = here g.key_width g.width g.set_count (count_of g) g.values g.sets.items are.wide are.values are.sets place inside

    pub its-results : take (g.width - g.key_width) (drop (place * g.width + g.key_width) g.values) ≡ drop g.key_width (take g.width (drop (place * g.width) g.values))
    its-results =
        let n = g.width - g.key_width in
        let items = g.values in
        let whole : g.key_width + n ≡ g.width = omega (arith, are.wide) in
        let cut = rw whole at (drop-take g.key_width n (drop (place * g.width) items)) in
        rw (cut, drop-drop g.key_width (place * g.width) items) refl

    module _ (results : List CellValue) (own : List Distinct) (results_long : length results ≡ g.width - g.key_width) (own_long : length own ≡ g.set_count) (values : List CellValue) (sets : Vec Distinct Global)
        (values_are : values ≡ take (place * g.width + g.key_width) g.values ++ (results ++ drop (place * g.width + g.width) g.values))
        (sets_are : sets.items ≡ take (place * g.set_count) g.sets.items ++ (own ++ drop (place * g.set_count + g.set_count) g.sets.items)) where
      pub groups-change : (groups_view (record g { values = values; sets = sets })).groups ≡ slice_set (groups_view g).groups place (record { key = its-key; results = results; sets = own })
      groups-change =
          rw (values_are, sets_are)
          (put g.key_width g.width g.set_count (count_of g) g.values g.sets.items are.wide are.values are.sets place inside results own results_long own_long)

      pub changed-are : AreGroups input (record g { values = values; sets = sets })
      changed-are =
          let items = g.values in
          let a = place * g.width + g.key_width in
          let b = place * g.width + g.width in
          let set = place * g.set_count in
          let group = group_of g.key_width (take g.width (drop (place * g.width) items)) (take g.set_count (drop set g.sets.items)) in
          let row = row-inside g.width (count_of g) place inside in
          let set_row = row-inside g.set_count (count_of g) place inside in
          record {
            wide = are.wide;
            few = are.few;
            values = omega (arith, ap length values_are, length-append {A = CellValue}, length-take a items, length-drop b items, row, are.values, are.wide, results_long);
            sets = omega (arith, ap length sets_are, length-append {A = Distinct}, length-take set g.sets.items, length-drop (set + g.set_count) g.sets.items, set_row, are.sets, own_long);
            places = rw groups-change (rw (keys_stay (groups_view g).groups place group (record { key = its-key; results = results; sets = own })
                (sym (get_or_from_slice_get (groups_view g).groups place group group its-group)) refl) are.places);
          }

  -- more rows join it, while its results and its sets are cut out of all
  module _ (place : ℕ) (held : GroupsOf) (same : groups_view g ≡ held) (aggregates : List Aggregate) (width : ℕ) (more : List (List CellValue)) (may : MayJoinGroup aggregates held place width more) where
    inside : place < count_of g
    inside = place-held input g are held same place (slice_get_within held.groups place may.group may.there)

    there : slice_get (groups_view g).groups place ≡ Some may.group
    there = ap (λ (s : GroupsOf). slice_get s.groups place) same ∙ may.there

    pub has-room : HasRoom g place (length aggregates)
    has-room = record {
      values = omega (arith, row-inside g.width (count_of g) place inside, are.values);
      sets = omega (arith, row-inside g.set_count (count_of g) place inside, are.sets);
      long = whole-long g.key_width g.width g.set_count (count_of g) g.values g.sets.items are.wide are.values are.sets place inside aggregates may.may.rows may.group there may.may.has;
    }

    its-own : group_of g.key_width (take g.width (drop (place * g.width) g.values)) (take g.set_count (drop (place * g.set_count) g.sets.items)) ≡ may.group
    its-own = same_Some _ may.group (sym (its-group place inside) ∙ there)

    abbrev pub from : ℕ
    from = place * g.width + g.key_width

    abbrev set : ℕ
    set = place * g.set_count

    results_are : cut_values from (length aggregates) g.values ≡ may.group.results
    results_are = rw has-room.long (its-results place inside ∙ ap (λ (h : GroupOf). h.results) its-own)

    module _ (t : List Distinct) (t_is : t ≡ g.sets.items) where
      set_size : set + g.set_count - set ≡ g.set_count
      set_size = omega arith

      sets_are : take (set + g.set_count - set) (drop set t) ≡ may.group.sets
      sets_are = rw (t_is, set_size) (ap (λ (h : GroupOf). h.sets) its-own)

      pub may-tally : MayTallyEach aggregates width (results_of (cut_values from (length aggregates) g.values) (take (set + g.set_count - set) (drop set t))) more
      may-tally = record { rows = may.may.rows; has = of_results aggregates may.may.rows may.group _ (sym results_are) (sym sets_are) may.may.has; fits = may.may.fits }

      module _ (values : List CellValue) (are_put : IsPartPut from (length aggregates) g.values values) (own : List Distinct) (own_long : length own ≡ length (take (set + g.set_count - set) (drop set t))) where
        abbrev made : List CellValue
        made = cut_values from (length aggregates) values

        abbrev sets : Vec Distinct Global
        sets = with_items g.sets (take set t ++ (own ++ drop (set + g.set_count - set) (drop set t)))

        results_long : length made ≡ g.width - g.key_width
        results_long = let room = has-room in omega (arith, length-take (length aggregates) (drop from values), length-drop from values, are_put.long, are.wide)

        sets_long : length own ≡ g.set_count
        sets_long = let room = has-room in omega (arith, own_long, length-take {A = Distinct}, length-drop {A = Distinct}, ap length t_is, set_size)

        values_put : values ≡ take from g.values ++ (made ++ drop (place * g.width + g.width) g.values)
        values_put = let room = has-room in are_put.is ∙ ap (λ j. take from g.values ++ (made ++ drop j g.values)) (omega (arith, are.wide))

        sets_put : sets.items ≡ take set g.sets.items ++ (own ++ drop (set + g.set_count) g.sets.items)
        sets_put = let room = has-room in put-back t g.sets.items own set g.set_count (set + g.set_count - set) g.sets.len t_is sets_long set_size (omega arith) (omega (arith, g.sets.ok.0))

        pub put-are : AreGroups input (record g { values = values; sets = sets })
        put-are = changed-are place inside made own results_long sets_long values sets values_put sets_put

        pub put-joined : TalliesEach aggregates (results_of (cut_values from (length aggregates) g.values) (take (set + g.set_count - set) (drop set t))) (results_of made own) more
            → JoinsGroup aggregates held (groups_view (record g { values = values; sets = sets })) place more
        put-joined joins = rw (← same) (record {
          group = may.group;
          there = there;
          made = record { key = its-key place inside; results = made; sets = own };
          key = ap key_of_group its-own;
          joins = λ rows has.
              of_results aggregates (rows ++ more) (results_of made own) _ refl refl (joins rows (of_results aggregates rows may.group _ (sym results_are) (sym sets_are) has));
          shape = refl;
          groups = groups-change place inside made own results_long sets_long values sets values_put sets_put;
        })
