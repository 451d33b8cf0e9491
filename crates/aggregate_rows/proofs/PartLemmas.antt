-- Rows by their groups.
use Rattle.std.proofs.Common.{◌≡◌, ℕ, zero, suc, ◌<◌, ◌+◌, true, false, cond, List, [], ◌∷◌, ◌++◌, Vec, Global, length, take, get_or, inl, inr, refl, sym, ap, subst, ◌∙◌, arith}
use Rattle.std.specs.Prelude.{nat_eq, slice_get, slice_set}
use Rattle.std.specs.List.{All, AllByRecursion, IsDistinct}
use Rattle.std.proofs.lemmas.Bool.{cases_Bool, cases_order, false≢true}
use Rattle.std.proofs.lemmas.Bool.Decides.{nat_tests}
use Rattle.std.proofs.lemmas.List.{append-nil, length-take-le, take_more}
use Rattle.std.proofs.lemmas.List.Elements.{All-from_recursion}
use Rattle.std.proofs.lemmas.Map.Keys.{apart_from_distinct}
use Rattle.std.proofs.lemmas.Option.{get_or_from_slice_get}
use Rattle.cell_types.specs.Value.{CellValue}
use Rattle.query_meaning.specs.Apply.{rows_of_group, same_values, values_at}
use Rattle.row_columns.specs.Picked.{numbered}
use Rattle.aggregate_rows.specs.Table.{GroupOf, GroupsOf}
use Rattle.aggregate_rows.specs.Gathered.{keys_held, JoinsGroup, MayJoinGroup}
use Rattle.aggregate_rows.specs.Parts.{numbers_of_group, AreGroupsOf, ArePartsFrom, ArePartRows}
use Rattle.aggregate_rows.proofs.GatheredLemmas.{AreOneType}
use Rattle.aggregate_rows.proofs.GroupLemmas.{same_is, same_self}
use Rattle.aggregate_rows.proofs.JoinLemmas.{group_at}
use Rattle.aggregate_rows.specs.Tallies.{FitsAll, HasResults}
use Rattle.odata_query.specs.declared.aggregate.Aggregate.{Aggregate}
use Rattle.row_codes.proofs.ListLaws.{zip_at}
use Rattle.aggregate_rows.proofs.ListLemmas.{from_long, next_by, one_more_by, zip_long, ZipFrom}

-- ---- numbers by their groups

numbers_more : (group : ℕ) (ns gs : List ℕ) (n g : ℕ) → length ns ≡ length gs
    → numbers_of_group group (ns ++ n ∷ []) (gs ++ g ∷ []) ≡ numbers_of_group group ns gs ++ cond (nat_eq g group) (n ∷ []) []
numbers_more group [] [] n g e = refl
numbers_more group (m ∷ ns) (h ∷ gs) n g e = rw (numbers_more group ns gs n g (omega arith)) (elim (cases_Bool (nat_eq h group)) [ inl t ↦ rw t refl | inr f ↦ rw f refl ])
numbers_more group ns gs n g e = absurd (omega arith)

one_more : (group : ℕ) (ns gs : List ℕ) (n g : ℕ) → length ns ≡ length gs → g ≡ group → numbers_of_group group (ns ++ n ∷ []) (gs ++ g ∷ []) ≡ numbers_of_group group ns gs ++ n ∷ []
one_more group ns gs n g e is =
    let here : nat_eq g group ≡ true = grind (arith, nat_tests) in
    numbers_more group ns gs n g e ∙ ap (λ b. numbers_of_group group ns gs ++ cond b (n ∷ []) []) here

none_more : (group : ℕ) (ns gs : List ℕ) (n g : ℕ) → length ns ≡ length gs → (g ≡ group → ⊥) → numbers_of_group group (ns ++ n ∷ []) (gs ++ g ∷ []) ≡ numbers_of_group group ns gs
none_more group ns gs n g e other =
    let apart : nat_eq g group ≡ false = grind (arith, nat_tests, other) in
    numbers_more group ns gs n g e ∙ ap (λ b. numbers_of_group group ns gs ++ cond b (n ∷ []) []) apart ∙ append-nil (numbers_of_group group ns gs)

parts_stay : (start : ℕ) (ns gs : List ℕ) (n g : ℕ) (parts : List (Vec ℕ Global)) → length ns ≡ length gs → g < start → ArePartsFrom start ns gs parts → ArePartsFrom start (ns ++ n ∷ []) (gs ++ g ∷ []) parts
parts_stay start ns gs n g [] e less are = tt
parts_stay start ns gs n g (part ∷ parts) e less are =
    (are.0 ∙ sym (none_more start ns gs n g e (λ same. omega arith)), parts_stay (start + 1) ns gs n g parts e (omega arith) are.1)

-- a number comes to the part of its group
parts_more : (start k : ℕ) (ns gs : List ℕ) (n g : ℕ) (parts : List (Vec ℕ Global)) (d made : Vec ℕ Global) → length ns ≡ length gs → g ≡ start + k → k < length parts → ArePartsFrom start ns gs parts
    → made.items ≡ (get_or parts k d).items ++ n ∷ [] → ArePartsFrom start (ns ++ n ∷ []) (gs ++ g ∷ []) (slice_set parts k made)
parts_more start k ns gs n g [] d made e is less are push = absurd (omega arith)
parts_more start zero ns gs n g (part ∷ parts) d made e is less are push = (
  push ∙ ap (λ xs. xs ++ n ∷ []) are.0 ∙ sym (one_more start ns gs n g e (omega (arith, is))),
  parts_stay (start + 1) ns gs n g parts e (omega (arith, is)) are.1,
)
parts_more start (suc k) ns gs n g (part ∷ parts) d made e is less are push = (
  are.0 ∙ sym (none_more start ns gs n g e (λ same. omega (arith, is, same))),
  parts_more (start + 1) k ns gs n g parts d made e (omega (arith, is)) (omega arith) are.1 push,
)

pub part_more : (numbers groups : List ℕ) (i : ℕ) (parts : List (Vec ℕ Global)) (part made : Vec ℕ Global) → length numbers ≡ length groups → i < length numbers
    → get_or groups i 0 < length parts → part ≡ get_or parts (get_or groups i 0) part → made.items ≡ part.items ++ get_or numbers i 0 ∷ []
    → ArePartsFrom 0 (take i numbers) (take i groups) parts → ArePartsFrom 0 (take (i + 1) numbers) (take (i + 1) groups) (slice_set parts (get_or groups i 0) made)
part_more numbers groups i parts part made long inside within at push are =
    rw (take_more numbers i 0 inside, take_more groups i 0 (omega (arith, inside, long)))
    (parts_more 0 (get_or groups i 0) (take i numbers) (take i groups) (get_or numbers i 0) (get_or groups i 0) parts part made (length-take-le i numbers (omega (arith, inside)) ∙ sym (length-take-le i groups (omega (arith, inside, long)))) (omega arith) within are
    (push ∙ ap (λ (p : Vec ℕ Global). p.items ++ get_or numbers i 0 ∷ []) at))

pub parts_none : (start : ℕ) (parts : List (Vec ℕ Global)) → AllByRecursion (λ (part : Vec ℕ Global). part.items ≡ []) parts → ArePartsFrom start [] [] parts
parts_none start [] none = tt
parts_none start (part ∷ parts) none = (none.0, parts_none (start + 1) parts none.1)

-- ---- within

within_group : (P : ℕ → Type 0) (group : ℕ) (ns gs : List ℕ) → AllByRecursion P ns → AllByRecursion P (numbers_of_group group ns gs)
within_group P group (n ∷ ns) (g ∷ gs) all =
    let rest = within_group P group ns gs all.1 in elim (cases_Bool (nat_eq g group)) [ inl t ↦ rw t (all.0, rest) | inr f ↦ rw f rest ]
within_group P group ns gs all = tt

pub within_parts : (P : ℕ → Type 0) (start : ℕ) (ns gs : List ℕ) (parts : List (Vec ℕ Global)) → ArePartsFrom start ns gs parts → AllByRecursion P ns
    → AllByRecursion (λ (part : Vec ℕ Global). All P part.items) parts
within_parts P start ns gs [] are all = tt
within_parts P start ns gs (part ∷ parts) are all =
    (subst (All P) (sym are.0) (All-from_recursion P (numbers_of_group start ns gs) (within_group P start ns gs all)), within_parts P (start + 1) ns gs parts are.1 all)

-- ---- the parts have the rows of the groups

module _ (equal : AreOneType) (keys : List (List CellValue)) (distinct : IsDistinct same_values keys) where
  apart : (i j : ℕ) → i < j → j < length keys → get_or keys i [] ≡ get_or keys j [] → ⊥
  apart i j less k e = false≢true
      (sym (apart_from_distinct same_values keys i j [] distinct less k) ∙ subst (λ w. same_values (get_or keys i []) w ≡ true) e (same_self equal [] (get_or keys i [])))

  distinct_at : (i j : ℕ) → i < length keys → j < length keys → get_or keys i [] ≡ get_or keys j [] → i ≡ j
  distinct_at i j h k e =
      elim (cases_order i j) [ inl same ↦ same | inr (inl less) ↦ absurd (apart i j less k e) | inr (inr more) ↦ absurd (apart j i more h (sym e)) ]

module _ (equal : AreOneType) (places : List ℕ) (groups : GroupsOf) (distinct : IsDistinct same_values (keys_held groups)) (rows : List (List CellValue)) where
  group_rows : (g : ℕ) (ns gs : List ℕ) → g < length (keys_held groups) → AreGroupsOf groups places (numbered ns rows) gs
      → numbered (numbers_of_group g ns gs) rows ≡ rows_of_group places (numbered ns rows) (get_or (keys_held groups) g [])
  group_rows g [] [] inside are = refl
  group_rows g (n ∷ ns) (h ∷ gs) inside are =
      let key = get_or (keys_held groups) g [] in
      let row = get_or rows n [] in
      let rest = group_rows g ns gs inside are.1 in
      elim (cases_Bool (nat_eq h g)) [
        | inl t ↦ (let same : h ≡ g = grind (arith, nat_tests) in
            rw (t, ← are.0.1, same, same_self equal places key) (ap (λ rs. row ∷ rs) rest))
        | inr f ↦ (elim (cases_Bool (same_values key (values_at places row))) [
          | inl s ↦ (let same : g ≡ h = distinct_at equal (keys_held groups) distinct g h inside are.0.0 (same_is equal places key (values_at places row) s ∙ sym are.0.1) in
              let is : nat_eq h g ≡ true = grind (arith, nat_tests) in absurd (false≢true (sym f ∙ is)))
          | inr other ↦ rw (f, other) rest
        ])
      ]
  group_rows g ns gs inside are = absurd are

  pub part_rows : (start : ℕ) (ns gs : List ℕ) (more : List (List CellValue)) (keys : List (List CellValue)) (parts : List (Vec ℕ Global)) → numbered ns rows ≡ more → AreGroupsOf groups places more gs
      → length parts ≡ length keys → ((j g : ℕ) → g ≡ start + j → j < length keys → (g < length (keys_held groups)) × (get_or (keys_held groups) g [] ≡ get_or keys j []))
      → ArePartsFrom start ns gs parts → ArePartRows rows (rows_of_group places more) keys parts
  part_rows start ns gs more [] [] is found long at are = tt
  part_rows start ns gs more (key ∷ keys) (part ∷ parts) is found long at are =
      let here = at 0 start (omega arith) (omega arith) in (
        ap (λ (xs : List ℕ). numbered xs rows) are.0 ∙ group_rows start ns gs here.0 (subst (λ rs. AreGroupsOf groups places rs gs) (sym is) found)
            ∙ ap (λ rs. rows_of_group places rs (get_or (keys_held groups) start [])) is ∙ ap (rows_of_group places more) here.1,
        part_rows (start + 1) ns gs more keys parts is found (omega arith) (λ j g e less. at (suc j) g (omega (arith, e)) (omega arith)) are.1,
      )
  part_rows start ns gs more keys parts is found long at are = absurd (omega arith)

-- ---- the part of the next group joins its rows

module _ (aggregates : List Aggregate) (rows : List (List CellValue)) (parts : List (Vec ℕ Global)) (keys : List (List CellValue)) (before more : List CellValue → List (List CellValue))
    (groups : List GroupOf) (i : ℕ) (part : Vec ℕ Global) (inside : i < length parts) (at : part ≡ get_or parts i part) (parts_are : ArePartRows rows more keys parts)
    (zip : ZipFrom (λ key (ts : GroupOf). HasResults aggregates (before key ++ more key) ts) (λ key ts. HasResults aggregates (before key) ts) i keys groups) where
  there : i < length keys
  there = omega (arith, inside, zip_long (λ key (p : Vec ℕ Global). numbered p.items rows ≡ more key) keys parts parts_are)

  group_there : i < length groups
  group_there =
      omega (arith, there, from_long (λ key (ts : GroupOf). HasResults aggregates (before key ++ more key) ts) (λ key ts. HasResults aggregates (before key) ts) keys groups i zip)

  come : numbered part.items rows ≡ more (get_or keys i [])
  come = ap (λ (p : Vec ℕ Global). numbered p.items rows) at ∙ zip_at (λ key (p : Vec ℕ Global). numbered p.items rows ≡ more key) keys parts i [] part parts_are inside

  its : (old : GroupOf) → old ≡ get_or groups i old → HasResults aggregates (before (get_or keys i [])) old
  its old is =
      subst (λ (ts : GroupOf). HasResults aggregates (before (get_or keys i [])) ts) (sym is)
      (next_by (λ key (ts : GroupOf). HasResults aggregates (before key ++ more key) ts) (λ key ts. HasResults aggregates (before key) ts) keys groups i [] old zip there)

  pub part_may_join : (mid : GroupsOf) (width : ℕ) → groups ≡ mid.groups → AllByRecursion (λ key. AllByRecursion (FitsAll width (before key ++ more key)) aggregates) keys
      → MayJoinGroup aggregates mid i width (numbered part.items rows)
  part_may_join mid width is fits =
      let here = group_at groups i group_there in
      record {
        group = here.0;
        there = ap (λ gs. slice_get gs i) (sym is) ∙ here.1;
        may = record {
          rows = before (get_or keys i []);
          has = its here.0 here.2;
          fits = subst (λ rs. AllByRecursion (FitsAll width (before (get_or keys i []) ++ rs)) aggregates) (sym come)
              (All-from_recursion (λ key. AllByRecursion (FitsAll width (before key ++ more key)) aggregates) keys fits i [] there);
        };
      }

  pub part_joined : (old new : GroupsOf) → groups ≡ old.groups → JoinsGroup aggregates old new i (numbered part.items rows)
      → ZipFrom (λ key (ts : GroupOf). HasResults aggregates (before key ++ more key) ts) (λ key ts. HasResults aggregates (before key) ts) (i + 1) keys new.groups
  part_joined old new is joins =
      let at : joins.group ≡ get_or groups i joins.group = sym (get_or_from_slice_get groups i joins.group joins.group (ap (λ gs. slice_get gs i) is ∙ joins.there)) in
      subst (ZipFrom (λ key (ts : GroupOf). HasResults aggregates (before key ++ more key) ts) (λ key ts. HasResults aggregates (before key) ts) (i + 1) keys) (ap (λ gs. slice_set gs i joins.made) is ∙ sym joins.groups)
      (one_more_by (λ key (ts : GroupOf). HasResults aggregates (before key ++ more key) ts) (λ key ts. HasResults aggregates (before key) ts) keys groups i [] joins.made zip there
      (subst (λ rs. HasResults aggregates (before (get_or keys i []) ++ rs) joins.made) come (joins.joins (before (get_or keys i [])) (its joins.group at))))
