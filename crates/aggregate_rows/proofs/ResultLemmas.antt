-- What is computed of the rows of a group, where more join: values, and the sets of those that count different values.
use Rattle.std.proofs.Common.{◌≡◌, ℕ, zero, suc, ◌+◌, ◌-◌, ◌<◌, ◌≤◌, Some, None, List, [], ◌∷◌, ◌++◌, length, drop, map, take, get_or, refl, sym, ap, subst, ◌∙◌, arith, true, false, Option, append_assoc}
use Rattle.std.specs.Prelude.{is_some, slice_set}
use Rattle.std.specs.List.{filter_map, AllZip}
use Rattle.std.proofs.Math.ListN.{drop_of_length-le}
use Rattle.std.proofs.Math.Seq.{drop-cons}
use Rattle.std.proofs.lemmas.List.{append-nil, drop-drop, drop-set-add, get_or-drop, get_or-take, get_or_append_left, get_or_push, length-append, length-drop, length-set, length-take, length-take-le, length_push, set-append_left, set-append_right, take-append-drop, take_more}
use Rattle.std.proofs.lemmas.List.Elements.{filter_map-append}
use Rattle.std.proofs.lemmas.Slice.Zip.{all_zipped_more, AllZip-map}
use Rattle.cell_types.specs.Value.{CellValue, null}
use Rattle.odata_query.specs.declared.aggregate.Aggregate.{Aggregate}
use Rattle.odata_query.specs.declared.aggregate.Aggregate.TheVariants.{Count, CountDistinct}
use Rattle.query_meaning.specs.Apply.{computed_value}
use Rattle.aggregate_rows.specs.Distinct.{distinct_place}
use Rattle.aggregate_rows.specs.declared.distinct.Distinct.{Distinct}
use Rattle.aggregate_rows.specs.Table.{cut_values, IsPartPut}
use Rattle.aggregate_rows.specs.Tallies.{aggregates_at, HasSet, HasSetsMore}
use Rattle.aggregate_rows.proofs.ListLemmas.{from_long, next_by, one_more_by, ZipFrom}

-- ---- sets

pub set_place : (a : Aggregate) (place : ℕ) → distinct_place a ≡ Some place → a ≡ CountDistinct place
set_place (CountDistinct p) place some = cc
set_place a place some = absurd (cc)

-- how many of the first aggregates count different values
abbrev pub sets_before : ℕ → List Aggregate → ℕ
sets_before i aggregates = length (filter_map distinct_place (take i aggregates))

module _ (aggregates : List Aggregate) (i : ℕ) (inside : i < length aggregates) where
  more : filter_map distinct_place (take (i + 1) aggregates) ≡ filter_map distinct_place (take i aggregates) ++ filter_map distinct_place (get_or aggregates i Count ∷ [])
  more = ap (filter_map distinct_place) (take_more aggregates i Count inside) ∙ filter_map-append distinct_place (take i aggregates) (get_or aggregates i Count ∷ [])

  same : distinct_place (get_or aggregates i Count) ≡ None → filter_map distinct_place (take (i + 1) aggregates) ≡ filter_map distinct_place (take i aggregates)
  same none = more ∙ (rw none (append-nil (filter_map distinct_place (take i aggregates))))

  pub no_set_more : distinct_place (get_or aggregates i Count) ≡ None → sets_before (i + 1) aggregates ≡ sets_before i aggregates
  no_set_more none = ap length (same none)

  module _ (place : ℕ) (some : distinct_place (get_or aggregates i Count) ≡ Some place) where
    one : filter_map distinct_place (take (i + 1) aggregates) ≡ filter_map distinct_place (take i aggregates) ++ place ∷ []
    one = more ∙ (rw some refl)

    pub set_more : sets_before (i + 1) aggregates ≡ sets_before i aggregates + 1
    set_more = ap length one ∙ length_push (filter_map distinct_place (take i aggregates)) place

    whole : filter_map distinct_place aggregates ≡ (filter_map distinct_place (take i aggregates) ++ place ∷ []) ++ filter_map distinct_place (drop (i + 1) aggregates)
    whole = ap (filter_map distinct_place) (sym (take-append-drop (i + 1) aggregates)) ∙ filter_map-append distinct_place (take (i + 1) aggregates) (drop (i + 1) aggregates)
        ∙ ap (λ xs. xs ++ filter_map distinct_place (drop (i + 1) aggregates)) one

    pub set_inside : sets_before i aggregates < length (filter_map distinct_place aggregates)
    set_inside = omega (arith, ap length whole, length-append {A = ℕ}, length_push (filter_map distinct_place (take i aggregates)) place)

    pub set_is : get_or (filter_map distinct_place aggregates) (sets_before i aggregates) 0 ≡ place
    set_is = ap (λ xs. get_or xs (sets_before i aggregates) 0) whole
        ∙ get_or_append_left (filter_map distinct_place (take i aggregates) ++ place ∷ []) (filter_map distinct_place (drop (i + 1) aggregates)) 0 (sets_before i aggregates)
        (omega (arith, length_push (filter_map distinct_place (take i aggregates)) place))
        ∙ get_or_push (filter_map distinct_place (take i aggregates)) place 0 (sets_before i aggregates) refl

  -- one more of them counts different values, or it does not
  pub one-more-counts : (o : Option ℕ) → distinct_place (get_or aggregates i Count) ≡ o → is_some o ≡ true → sets_before (i + 1) aggregates ≡ sets_before i aggregates + 1
  one-more-counts None at some = absurd (cc)
  one-more-counts (Some place) at some = set_more place at

  pub no-more-counts : (o : Option ℕ) → distinct_place (get_or aggregates i Count) ≡ o → is_some o ≡ false → sets_before (i + 1) aggregates ≡ sets_before i aggregates
  no-more-counts (Some place) at none = absurd (cc)
  no-more-counts None at none = no_set_more at

  -- a set comes for an aggregate that counts different values, and none for another
  pub no-set-comes : (o : Option ℕ) → distinct_place (get_or aggregates i Count) ≡ o → is_some o ≡ false → (old sets : List Distinct) → HasSetsMore (take i aggregates) old sets
      → HasSetsMore (take (i + 1) aggregates) old sets
  no-set-comes (Some place) at none old sets has = absurd (cc)
  no-set-comes None at none old sets has = (has.0, has.1, subst (λ ps. AllZip (HasSet []) ps has.0) (sym (same at)) has.2)

  pub set-comes : (o : Option ℕ) → distinct_place (get_or aggregates i Count) ≡ o → is_some o ≡ true → (old sets : List Distinct) (set : Distinct) → HasSet [] 0 set → HasSetsMore (take i aggregates) old sets
      → HasSetsMore (take (i + 1) aggregates) old (sets ++ set ∷ [])
  set-comes None at some old sets set holds has = absurd (cc)
  set-comes (Some place) at some old sets set holds has = (
    has.0 ++ set ∷ [],
    ap (λ xs. xs ++ set ∷ []) has.1 ∙ append_assoc old has.0 (set ∷ []),
    subst (λ ps. AllZip (HasSet []) ps (has.0 ++ set ∷ [])) (sym (one place at)) (all_zipped_more (HasSet []) (filter_map distinct_place (take i aggregates)) has.0 place set has.2 holds),
  )

-- ---- results

-- values that aggregates compute of rows
abbrev pub IsOf : List (List CellValue) → Aggregate → CellValue → Type 0
IsOf rows a v = v ≡ computed_value rows a

-- the first of some values are computed of more rows
module _ (aggregates : List Aggregate) (before after : List (List CellValue)) (values : List CellValue) (i : ℕ) (zip : ZipFrom (IsOf after) (IsOf before) i aggregates values) (inside : i < length aggregates) where
  pub its_result : IsOf before (get_or aggregates i Count) (get_or values i null)
  its_result = next_by (IsOf after) (IsOf before) aggregates values i Count null zip inside

  pub result_joined : (made : CellValue) → IsOf after (get_or aggregates i Count) made → ZipFrom (IsOf after) (IsOf before) (i + 1) aggregates (slice_set values i made)
  result_joined made is = one_more_by (IsOf after) (IsOf before) aggregates values i Count made zip inside is

-- values from a place on, one of which changes
module _ (from count : ℕ) (old new : List CellValue) (i : ℕ) (v : CellValue) (room : from + count ≤ length old) (less : i < count) (put : IsPartPut from count old new) where
  pub piece_set : cut_values from count (slice_set new (from + i) v) ≡ slice_set (cut_values from count new) i v
  piece_set = ap (take count) (drop-set-add from new i v) ∙ take-of-set count (drop from new) i v less
    where
      take-of-set : (n : ℕ) (xs : List CellValue) (i : ℕ) (v : CellValue) → i < n → take n (slice_set xs i v) ≡ slice_set (take n xs) i v
      take-of-set zero xs i v less = absurd (omega (arith, less))
      take-of-set (suc n) [] i v less = refl
      take-of-set (suc n) (x ∷ xs) zero v less = refl
      take-of-set (suc n) (x ∷ xs) (suc i) v less = ap (λ ys. x ∷ ys) (take-of-set n xs i v (omega (arith, less)))

  pub put_more : IsPartPut from count old (slice_set new (from + i) v)
  put_more =
      let front = take from old in
      let piece = cut_values from count new in
      let end = drop (from + count) old in
      let front_long : length front ≡ from = length-take-le from old (omega (arith, room)) in
      let piece_long : length piece ≡ count = omega (arith, length-take count (drop from new), length-drop from new, put.long, room) in
      let skip : from + i - from ≡ i = omega arith in
      record {
        long = length-set new (from + i) v ∙ put.long;
        is = ap (λ xs. slice_set xs (from + i) v) put.is ∙ set-append_right front (piece ++ end) from (from + i) v front_long (omega arith)
            ∙ ap (λ xs. front ++ xs) (ap (λ k. slice_set (piece ++ end) k v) skip ∙ set-append_left piece end i v (omega (arith, less, piece_long)) ∙ ap (λ xs. xs ++ end) (sym piece_set));
      }

  pub piece_at : get_or new (from + i) null ≡ get_or (cut_values from count new) i null
  piece_at = sym (get_or-take count (drop from new) i null less ∙ get_or-drop from new i null)

pub put_none : (from count : ℕ) (old : List CellValue) → IsPartPut from count old old
put_none from count old = record {
  long = refl;
  is = sym (ap (λ xs. take from old ++ (cut_values from count old ++ xs)) (sym (drop-drop count from old)) ∙ ap (λ xs. take from old ++ xs) (take-append-drop count (drop from old)) ∙ take-append-drop from old);
}

-- ---- results at places

pub results_shown : (rows : List (List CellValue)) (aggregates : List Aggregate) (values : List CellValue) → AllZip (IsOf rows) aggregates values → values ≡ map (computed_value rows) aggregates
results_shown rows aggregates values z = AllZip-map (computed_value rows) aggregates values z

-- places in their order are those of all
shown_from : (all : List Aggregate) (shown : List ℕ) (n : ℕ) → n + length shown ≡ length all → ((i : ℕ) → i < length shown → get_or shown i 0 ≡ n + i) → aggregates_at shown all ≡ drop n all
shown_from all [] n long is = sym (drop_of_length-le all {i = n} (omega (arith, long)))
shown_from all (p ∷ shown) n long is =
    let first : p ≡ n = omega (arith, is 0 (omega arith)) in
    rw (first, drop-cons all n Count (omega arith), shown_from all shown (suc n) (omega arith) (λ i h. omega (arith, is (suc i) (omega arith)))) refl

pub all_shown : (all : List Aggregate) (shown : List ℕ) (count : ℕ) → count ≡ length all → (length shown ≡ count) × ((i : ℕ) → i < count → get_or shown i 0 ≡ i) → aggregates_at shown all ≡ all
all_shown all shown count many are = shown_from all shown 0 (omega (arith, many, are.0)) (λ i h. omega (arith, are.1 i (omega (arith, h, are.0))))
