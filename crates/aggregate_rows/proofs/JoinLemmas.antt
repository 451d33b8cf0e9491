-- A row joins the group of its values, which may be a new one.
use Rattle.std.proofs.Common.{◌≡◌, ℕ, zero, suc, ◌<◌, true, false, cond, Some, None, List, [], ◌∷◌, ◌++◌, length, map, get_or, inl, inr, refl, sym, ap, subst, ◌∙◌, append_assoc, arith}
use Rattle.std.specs.Prelude.{slice_get, slice_set}
use Rattle.std.specs.List.{AllByRecursion, AllZip, IsDistinct, list_any}
use Rattle.std.proofs.lemmas.List.{append-nil, get_or_push, get_or-map, length_push, length-map, map-append}
use Rattle.std.proofs.lemmas.List.Elements.{filter-append}
use Rattle.std.proofs.lemmas.Bool.{cases_Bool, false≢true}
use Rattle.std.proofs.lemmas.Option.{get_or_from_slice_get, same_Some}
use Rattle.std.proofs.lemmas.Slice.Zip.{all_zipped_more, AllZip-long}
use Rattle.cell_types.specs.Value.{CellValue}
use Rattle.odata_query.specs.declared.aggregate.Aggregate.{Aggregate}
use Rattle.query_meaning.specs.Apply.{group_values, rows_of_group, same_values, values_at}
use Rattle.aggregate_rows.specs.Table.{GroupOf, GroupsOf, key_of_group}
use Rattle.insertion_map.specs.Places.{insert_key}
use Rattle.aggregate_rows.specs.Gathered.{keys_held, HasGroupMore, HasGroups, IsGroupOf, JoinsGroup, MayJoinGroup}
use Rattle.aggregate_rows.specs.Parts.{AreBegun}
use Rattle.aggregate_rows.specs.Tallies.{FitsAll, HasResults, TalliesEach}
use Rattle.aggregate_rows.proofs.FitLemmas.{all_fit_kept}
use Rattle.aggregate_rows.proofs.GroupLemmas.{found_zip, joins, more_values, no_rows, same_self}
use Rattle.row_codes.proofs.ListLaws.{zip_at}
use Rattle.aggregate_rows.proofs.GatheredLemmas.{AreOneType}

-- the keys stay where a group becomes another of the same key
pub keys_stay : (groups : List GroupOf) (g : ℕ) (group made : GroupOf) → group ≡ get_or groups g group → key_of_group made ≡ key_of_group group → map key_of_group (slice_set groups g made) ≡ map key_of_group groups
keys_stay [] g group made there same = refl
keys_stay (x ∷ xs) zero group made there same = ap (λ k. k ∷ map key_of_group xs) (same ∙ ap key_of_group there)
keys_stay (x ∷ xs) (suc g) group made there same = ap (λ ks. key_of_group x ∷ ks) (keys_stay xs g group made there same)

pub keys_same : (aggregates : List Aggregate) (old new : GroupsOf) (place : ℕ) (more : List (List CellValue)) → JoinsGroup aggregates old new place more → keys_held new ≡ keys_held old
keys_same aggregates old new place more joins =
    ap (map key_of_group) joins.groups ∙ keys_stay old.groups place joins.group joins.made (sym (get_or_from_slice_get old.groups place joins.group joins.group joins.there)) joins.key

pub group_at : (groups : List GroupOf) (g : ℕ) → g < length groups → (group : GroupOf) × (slice_get groups g ≡ Some group) × (group ≡ get_or groups g group)
group_at [] g h = absurd (omega arith)
group_at (group ∷ groups) zero h = (group, refl, refl)
group_at (group ∷ groups) (suc g) h = group_at groups g (omega arith)

-- ---- all rows as one group
module _ (aggregates : List Aggregate) (rows more : List (List CellValue)) where
  one_group : (keys : List GroupOf) → AllZip (HasResults aggregates) (rows ∷ []) keys → (group : GroupOf) × (slice_get keys 0 ≡ Some group) × HasResults aggregates rows group
  one_group [] z = absurd z
  one_group (group ∷ keys) z = (group, refl, z.0)

  pub whole_may_join : (groups : GroupsOf) (width : ℕ) → HasGroups None aggregates groups rows → AllByRecursion (FitsAll width (rows ++ more)) aggregates → MayJoinGroup aggregates groups 0 width more
  whole_may_join groups width has fits =
      let one = one_group groups.groups has.results_are in
      record { group = one.0; there = one.1; may = record { rows = rows; has = one.2; fits = fits } }

  one_joined : (keys : List GroupOf) (group made : GroupOf) → slice_get keys 0 ≡ Some group → TalliesEach aggregates group made more → AllZip (HasResults aggregates) (rows ∷ []) keys
      → AllZip (HasResults aggregates) ((rows ++ more) ∷ []) (slice_set keys 0 made)
  one_joined [] group made there joins z = absurd z
  one_joined (g ∷ keys) group made there joins z = (joins rows (subst (HasResults aggregates rows) (same_Some g group there) z.0), z.1)

  pub whole_joined : (old new : GroupsOf) → HasGroups None aggregates old rows → JoinsGroup aggregates old new 0 more → HasGroups None aggregates new (rows ++ more)
  whole_joined old new has joined = record {
    shape_is = joined.shape ∙ has.shape_is;
    keys_are = keys_same aggregates old new 0 more joined ∙ has.keys_are;
    results_are = rw joined.groups (one_joined old.groups joined.group joined.made joined.there joined.joins has.results_are);
  }

front_none : {X : Type 0} (xs ys : List X) → xs ++ ys ≡ [] → xs ≡ []
front_none [] ys e = refl
front_none (x ∷ xs) ys e = absurd (cc)

module _ (equal : AreOneType) (places : List ℕ) (aggregates : List Aggregate) (some : List (List CellValue)) where
  pub none_more : (groups : GroupsOf) → HasGroups (Some places) aggregates groups some → AreBegun places aggregates groups some []
  none_more groups has = record {
    shape_is = has.shape_is;
    keys_are = has.keys_are ∙ ap (group_values places) (sym (append-nil some));
    results_are = rw (append-nil some) has.results_are;
  }

  -- one row more comes, with the group of its values
  module _ (more : List (List CellValue)) (row : List CellValue) (old after : GroupsOf) (begun : AreBegun places aggregates old some more)
      (has : HasGroupMore aggregates old after (values_at places row)) where
    came : group_values places (some ++ (more ++ row ∷ [])) ≡ insert_key same_values (group_values places (some ++ more)) (values_at places row)
    came = ap (group_values places) (sym (append_assoc some more (row ∷ []))) ∙ more_values equal places (some ++ more) row

    among : list_any (same_values (values_at places row)) (keys_held old) ≡ true → group_values places (some ++ (more ++ row ∷ [])) ≡ group_values places (some ++ more)
    among there = rw (came, ← begun.keys_are, there) refl

    new : list_any (same_values (values_at places row)) (keys_held old) ≡ false
        → group_values places (some ++ (more ++ row ∷ [])) ≡ group_values places (some ++ more) ++ values_at places row ∷ []
    new none = rw (came, ← begun.keys_are, none) refl

    empty : list_any (same_values (values_at places row)) (keys_held old) ≡ false → rows_of_group places some (values_at places row) ≡ []
    empty none = front_none (rows_of_group places some (values_at places row)) (rows_of_group places more (values_at places row))
        (sym (filter-append (λ r. same_values (values_at places row) (values_at places r)) some more)
        ∙ no_rows equal places (some ++ more) (values_at places row) (rw begun.keys_are at none))

    pub begun_more : AreBegun places aggregates after some (more ++ row ∷ [])
    begun_more = record {
      shape_is = has.shape ∙ begun.shape_is;
      keys_are = has.keys ∙ ap (λ ks. insert_key same_values ks (values_at places row)) begun.keys_are ∙ sym came;
      results_are = elim (cases_Bool (list_any (same_values (values_at places row)) (keys_held old))) [
        | inl there ↦ rw (has.stay there, among there) begun.results_are
        | inr none ↦ (let made = has.begins none in
            rw (made.2, new none, map-append (rows_of_group places some) (group_values places (some ++ more)) (values_at places row ∷ []))
            (all_zipped_more (HasResults aggregates) (map (rows_of_group places some) (group_values places (some ++ more))) old.groups (rows_of_group places some (values_at places row)) made.0
            begun.results_are (rw (empty none) made.1)))
      ];
    }

  -- a row joins the group of its values
  module _ (row : List CellValue) (old mid : GroupsOf) (held : HasGroups (Some places) aggregates old some) (g : ℕ) (key : List CellValue) (is : key ≡ values_at places row) (its : IsGroupOf mid key g)
      (has : HasGroupMore aggregates old mid key) where
    begun : AreBegun places aggregates mid some (row ∷ [])
    begun = begun_more [] row old mid (none_more old held) (subst (HasGroupMore aggregates old mid) is has)

    at : (g < length (group_values places (some ++ row ∷ []))) × (get_or (group_values places (some ++ row ∷ [])) g [] ≡ values_at places row)
    at = (rw begun.keys_are at its.0, rw begun.keys_are at (its.1 ∙ is))

    inside : g < length mid.groups
    inside =
        let long = AllZip-long (HasResults aggregates) (map (rows_of_group places some) (group_values places (some ++ row ∷ []))) mid.groups begun.results_are in
        let count = length-map (group_values places (some ++ row ∷ [])) (rows_of_group places some) in
        let here = at.0 in
        omega arith

    its_results : (group : GroupOf) → group ≡ get_or mid.groups g group → HasResults aggregates (rows_of_group places some (values_at places row)) group
    its_results group there =
        let part = get_or-map (rows_of_group places some) (group_values places (some ++ row ∷ [])) g [] [] at.0 in
        let own = zip_at (HasResults aggregates) (map (rows_of_group places some) (group_values places (some ++ row ∷ []))) mid.groups g [] group begun.results_are inside in
        rw (there, ← at.1, ← part) own

    pub may_join : (width : ℕ) → AllByRecursion (FitsAll width (some ++ row ∷ [])) aggregates → MayJoinGroup aggregates mid g width (row ∷ [])
    may_join width fits =
        let here = group_at mid.groups g inside in
        record {
          group = here.0;
          there = here.1;
          may = record {
            rows = rows_of_group places some (values_at places row);
            has = its_results here.0 here.2;
            fits = rw (← (joins equal places some row (values_at places row) (same_self equal places (values_at places row))))
                (all_fit_kept width (λ r. same_values (values_at places row) (values_at places r)) (some ++ row ∷ []) aggregates fits);
          };
        }

    pub row_joined : (new : GroupsOf) (next : List (List CellValue)) → next ≡ some ++ row ∷ [] → IsDistinct same_values (group_values places (some ++ row ∷ [])) → JoinsGroup aggregates mid new g (row ∷ [])
        → HasGroups (Some places) aggregates new next
    row_joined new next same distinct joined =
        let there = sym (get_or_from_slice_get mid.groups g joined.group joined.group joined.there) in
        rw same (record {
          shape_is = joined.shape ∙ begun.shape_is;
          keys_are = keys_same aggregates mid new g (row ∷ []) joined ∙ begun.keys_are;
          results_are = rw joined.groups
              (found_zip equal places some row (HasResults aggregates) (group_values places (some ++ row ∷ [])) mid.groups g joined.made begun.results_are distinct at.0 at.1
              (joined.joins (rows_of_group places some (values_at places row)) (its_results joined.group there)));
        })

-- a key that is one of theirs
pub is_theirs : (aggregates : List Aggregate) (groups : GroupsOf) (key : List CellValue) → list_any (same_values key) (keys_held groups) ≡ true → HasGroupMore aggregates groups groups key
is_theirs aggregates groups key among = record {
  shape = refl;
  keys = sym (ap (λ b. cond b (keys_held groups) (keys_held groups ++ key ∷ [])) among);
  stay = λ _. refl;
  begins = λ none. absurd (false≢true (sym none ∙ among));
}

-- or put after the others
module _ (old new : GroupsOf) (made : GroupOf) (values : List CellValue) (is : key_of_group made ≡ values) (put : new.groups ≡ old.groups ++ made ∷ []) where
  keys_then : keys_held new ≡ keys_held old ++ values ∷ []
  keys_then = ap (map key_of_group) put ∙ map-append key_of_group old.groups (made ∷ []) ∙ ap (λ k. keys_held old ++ k ∷ []) is

  pub key_new : (aggregates : List Aggregate) → new.shape ≡ old.shape → list_any (same_values values) (keys_held old) ≡ false → HasResults aggregates [] made → HasGroupMore aggregates old new values
  key_new aggregates shape lacks results = record {
    shape = shape;
    keys = keys_then ∙ sym (ap (λ b. cond b (keys_held old) (keys_held old ++ values ∷ [])) lacks);
    stay = λ among. absurd (false≢true (sym lacks ∙ among));
    begins = λ _. (made, results, put);
  }

  pub new_place : (g : ℕ) → g ≡ length old.groups → IsGroupOf new values g
  new_place g here =
      let many = length-map old.groups key_of_group in
      rw keys_then (omega (arith, here, many, length_push (keys_held old) values), get_or_push (keys_held old) values [] g (many ∙ sym here))
