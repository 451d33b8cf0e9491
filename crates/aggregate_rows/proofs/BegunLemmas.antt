-- Groups that are there before their rows join.
use Rattle.std.proofs.Common.{◌≡◌, ℕ, zero, suc, ◌<◌, Bool, true, false, cond, Option, Some, None, List, [], ◌∷◌, ◌++◌, Vec, Global, length, map, get_or, refl, sym, ap, subst, ◌∙◌, arith}
use Rattle.std.specs.Prelude.{IfSome, slice_set}
use Rattle.std.specs.List.{All, AllByRecursion, AllZip, IsDistinct, list_any}
use Rattle.std.proofs.lemmas.List.{get_or_append_left, length-append, length-map}
use Rattle.std.proofs.lemmas.List.Elements.{All-from_recursion, filter-append, recursion_from_All}
use Rattle.std.proofs.lemmas.List.Folds.{list_any_at}
use Rattle.cell_types.specs.Value.{CellValue}
use Rattle.insertion_map.specs.Places.{insert_key}
use Rattle.odata_query.specs.declared.aggregate.Aggregate.{Aggregate}
use Rattle.query_meaning.specs.Apply.{group_values, rows_of_group, same_values, values_at}
use Rattle.row_columns.specs.Picked.{numbered}
use Rattle.aggregate_rows.specs.Table.{GroupsOf, key_of_group}
use Rattle.aggregate_rows.specs.Gathered.{keys_held, HasGroupMore, HasGroups, IsGroupOf}
use Rattle.aggregate_rows.specs.Parts.{AreBegun, AreGroupsOf, ArePartsFrom, ArePartRows, HaveJoined, JoinsParts, MayJoinParts}
use Rattle.aggregate_rows.specs.Tallies.{FitsAll, HasResults}
use Rattle.aggregate_rows.proofs.FitLemmas.{all_fit_kept}
use Rattle.aggregate_rows.proofs.GatheredLemmas.{AreOneType}
use Rattle.aggregate_rows.proofs.GroupLemmas.{same_self}
use Rattle.aggregate_rows.proofs.JoinLemmas.{is_theirs}
use Rattle.aggregate_rows.proofs.ListLemmas.{zip_long}
use Rattle.aggregate_rows.proofs.PartLemmas.{part_rows}

module _ {X A B : Type 0} (R : A → B → Type 0) (f : X → A) where
  zip_apart : (xs : List X) (ys : List B) → AllZip R (map f xs) ys → AllZip (λ x y. R (f x) y) xs ys
  zip_apart (x ∷ xs) (y ∷ ys) z = (z.0, zip_apart xs ys z.1)
  zip_apart [] [] z = tt
  zip_apart xs ys z = absurd z

  zip_mapped : (xs : List X) (ys : List B) → AllZip (λ x y. R (f x) y) xs ys → AllZip R (map f xs) ys
  zip_mapped (x ∷ xs) (y ∷ ys) z = (z.0, zip_mapped xs ys z.1)
  zip_mapped [] [] z = tt
  zip_mapped xs ys z = absurd z

zip_each : {A B : Type 0} (P Q : A → B → Type 0) → ((a : A) (b : B) → P a b → Q a b) → (xs : List A) (ys : List B) → AllZip P xs ys → AllZip Q xs ys
zip_each P Q f (x ∷ xs) (y ∷ ys) z = (f x y z.0, zip_each P Q f xs ys z.1)
zip_each P Q f [] [] z = tt
zip_each P Q f xs ys z = absurd z

-- ---- the rows of each group join

module _ (places : List ℕ) (aggregates : List Aggregate) (some more : List (List CellValue)) (mid : GroupsOf) (begun : AreBegun places aggregates mid some more) where
  pub have_before : HaveJoined aggregates (rows_of_group places some) (keys_held mid) mid
  have_before = subst (λ ks. HaveJoined aggregates (rows_of_group places some) ks mid) (sym begun.keys_are)
      (zip_apart (HasResults aggregates) (rows_of_group places some) (group_values places (some ++ more)) mid.groups begun.results_are)

  in_two : (key : List CellValue) → rows_of_group places (some ++ more) key ≡ rows_of_group places some key ++ rows_of_group places more key
  in_two key = filter-append (λ r. same_values key (values_at places r)) some more

  pub parts_fit : (width : ℕ) → AllByRecursion (FitsAll width (some ++ more)) aggregates
      → AllByRecursion (λ key. AllByRecursion (FitsAll width (rows_of_group places some key ++ rows_of_group places more key)) aggregates) (keys_held mid)
  parts_fit width fits = recursion_from_All (λ key. AllByRecursion (FitsAll width (rows_of_group places some key ++ rows_of_group places more key)) aggregates) (keys_held mid)
      (λ k d h. let key = get_or (keys_held mid) k d in
      subst (λ rs. AllByRecursion (FitsAll width rs) aggregates) (in_two key) (all_fit_kept width (λ r. same_values key (values_at places r)) (some ++ more) aggregates fits))

  pub parts_whole : (new : GroupsOf) → new.shape ≡ mid.shape → keys_held new ≡ keys_held mid → HaveJoined aggregates (λ key. rows_of_group places some key ++ rows_of_group places more key) (keys_held mid) new
      → HasGroups (Some places) aggregates new (some ++ more)
  parts_whole new shape same have = record {
    shape_is = shape ∙ begun.shape_is;
    keys_are = same ∙ begun.keys_are;
    results_are = zip_mapped (HasResults aggregates) (rows_of_group places (some ++ more)) (group_values places (some ++ more)) new.groups
        (zip_each (λ key group. HasResults aggregates (rows_of_group places some key ++ rows_of_group places more key) group)
        (λ key group. HasResults aggregates (rows_of_group places (some ++ more) key) group)
        (λ key group is. subst (λ rs. HasResults aggregates rs group) (sym (in_two key)) is) (group_values places (some ++ more)) new.groups
        (subst (λ ks. HaveJoined aggregates (λ key. rows_of_group places some key ++ rows_of_group places more key) ks new) begun.keys_are have));
  }

-- ---- groups stay where others come

module _ (old new : GroupsOf) (key : List CellValue) (came : keys_held new ≡ insert_key same_values (keys_held old) key) where
  pub keeps_group : (k : List CellValue) (g : ℕ) → IsGroupOf old k g → IsGroupOf new k g
  keeps_group k g is = subst (λ ks. (g < length ks) × (get_or ks g [] ≡ k)) (sym came) (by (list_any (same_values key) (keys_held old)))
    where
      by : (b : Bool) → (g < length (cond b (keys_held old) (keys_held old ++ key ∷ []))) × (get_or (cond b (keys_held old) (keys_held old ++ key ∷ [])) g [] ≡ k)
      by true = is
      by false = (let less = is.0 in omega (arith, length-append (keys_held old) (key ∷ [])), get_or_append_left (keys_held old) (key ∷ []) [] g is.0 ∙ is.1)

  pub keep_groups : (places : List ℕ) (rows : List (List CellValue)) (found : List ℕ) → AreGroupsOf old places rows found → AreGroupsOf new places rows found
  keep_groups places rows found are = zip_each (λ row group. IsGroupOf old (values_at places row) group) (λ row group. IsGroupOf new (values_at places row) group)
      (λ row group is. keeps_group (values_at places row) group is) rows found are

-- a key whose group is known is one of theirs
pub is_among : (equal : AreOneType) (aggregates : List Aggregate) (groups : GroupsOf) (key : List CellValue) (g : ℕ) → IsGroupOf groups key g → HasGroupMore aggregates groups groups key
is_among equal aggregates groups key g is =
    is_theirs aggregates groups key (list_any_at (same_values key) (keys_held groups) g [] is.0 (subst (λ k. same_values key k ≡ true) (sym is.1) (same_self equal [] key)))

-- ---- what is known by codes

some_each : {X : Type 0} (P Q : X → Type 0) → ((x : X) → P x → Q x) → (o : Option X) → IfSome o P → IfSome o Q
some_each P Q f None h = h
some_each P Q f (Some x) h = f x h

known_put : (P : ℕ → ℕ → Type 0) (known : List (Option ℕ)) (code g : ℕ) → P code g → ((c : ℕ) → IfSome (get_or known c None) (P c)) → (c : ℕ) → IfSome (get_or (slice_set known code (Some g)) c None) (P c)
known_put P (o ∷ known) zero g is all zero = is
known_put P (o ∷ known) (suc code) g is all (suc c) = known_put (λ d. P (suc d)) known code g is (λ d. all (suc d)) c
known_put P known code g is all c = all c

pub known_more : (old new : GroupsOf) (values_of : ℕ → List CellValue) (known : List (Option ℕ)) (code g : ℕ) → ((k : List CellValue) (h : ℕ) → IsGroupOf old k h → IsGroupOf new k h)
    → IsGroupOf new (values_of code) g → ((c : ℕ) → IfSome (get_or known c None) (IsGroupOf old (values_of c)))
    → (c : ℕ) → IfSome (get_or (slice_set known code (Some g)) c None) (IsGroupOf new (values_of c))
known_more old new values_of known code g keep is all = known_put (λ c. IsGroupOf new (values_of c)) known code g is
    (λ c. some_each (IsGroupOf old (values_of c)) (IsGroupOf new (values_of c)) (keep (values_of c)) (get_or known c None) (all c))

-- ---- rows by their groups

pub as_many_found : (groups : GroupsOf) (places : List ℕ) (rows : List (List CellValue)) (numbers found : List ℕ) → AreGroupsOf groups places (numbered numbers rows) found → length numbers ≡ length found
as_many_found groups places rows numbers found are =
    sym (length-map numbers (λ n. get_or rows n [])) ∙ zip_long (λ row group. IsGroupOf groups (values_at places row) group) (numbered numbers rows) found are

pub all_inside : (groups : GroupsOf) (places : List ℕ) (rows : List (List CellValue)) (found : List ℕ) → AreGroupsOf groups places rows found → All (λ g. g < length groups.groups) found
all_inside groups places rows found are = All-from_recursion (λ (g : ℕ). g < length groups.groups) found (each rows found are)
  where
    each : (rs : List (List CellValue)) (gs : List ℕ) → AreGroupsOf groups places rs gs → AllByRecursion (λ (g : ℕ). g < length groups.groups) gs
    each [] [] z = tt
    each (r ∷ rs) (g ∷ gs) z = (let less = z.0.0 in omega (arith, length-map groups.groups key_of_group), each rs gs z.1)
    each rs gs z = absurd z

module _ (equal : AreOneType) (places : List ℕ) (aggregates : List Aggregate) (some rows : List (List CellValue)) (numbers : List ℕ) (mid : GroupsOf)
    (begun : AreBegun places aggregates mid some (numbered numbers rows)) (distinct : IsDistinct same_values (group_values places (some ++ numbered numbers rows)))
    (found : List ℕ) (are : AreGroupsOf mid places (numbered numbers rows) found) (parts : List (Vec ℕ Global)) (long : length parts ≡ length mid.groups)
    (from : ArePartsFrom 0 numbers found parts) where
  parts_are : ArePartRows rows (rows_of_group places (numbered numbers rows)) (keys_held mid) parts
  parts_are = part_rows equal places mid (subst (IsDistinct same_values) (sym begun.keys_are) distinct) rows 0 numbers found (numbered numbers rows) (keys_held mid) parts refl are
      (long ∙ sym (length-map mid.groups key_of_group))
      (λ j g e less. let same : g ≡ j = omega (arith, e) in (omega (arith, e, less), ap (λ i. get_or (keys_held mid) i []) same)) from

  pub may_join_parts : (width : ℕ) → AllByRecursion (FitsAll width (some ++ numbered numbers rows)) aggregates → MayJoinParts aggregates width mid rows parts
  may_join_parts width fits = record {
    keys = keys_held mid;
    before = rows_of_group places some;
    more = rows_of_group places (numbered numbers rows);
    have = have_before places aggregates some (numbered numbers rows) mid begun;
    parts_are = parts_are;
    fits = parts_fit places aggregates some (numbered numbers rows) mid begun width fits;
  }

  pub parts_joined : (new : GroupsOf) → new.shape ≡ mid.shape → keys_held new ≡ keys_held mid → JoinsParts aggregates mid new rows parts → HasGroups (Some places) aggregates new (some ++ numbered numbers rows)
  parts_joined new shape same joins = parts_whole places aggregates some (numbered numbers rows) mid begun new shape same
      (joins (keys_held mid) (rows_of_group places some) (rows_of_group places (numbered numbers rows)) (have_before places aggregates some (numbered numbers rows) mid begun) parts_are)
