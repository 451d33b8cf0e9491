-- Paths, on what the code keeps and on what contracts see of it.
use Rattle.std.proofs.Common.{◌≡◌, ◌+◌, ◌<◌, ◌≢◌, ◌-◌, ℕ, suc, Bool, true, false, ◌||◌, List, [], ◌∷◌, ◌++◌, map, refl, length, take, get_or, Option, Some, None, String, string_bytes, sym, ap, ◌∙◌, arith, nat_eq, codes, cond, option_map, if◌then◌else◌, ⊎_elim, length-append}
use Rattle.std.specs.Prelude.{not}
use Rattle.std.specs.Borrow.{Bor}
use Rattle.std.specs.Global.{Global}
use Rattle.std.specs.Option.{MatchOption}
use Rattle.std.proofs.lemmas.Bool.{cases_Bool}
use Rattle.std.proofs.lemmas.Bool.Decides.{Decides-eqb}
use Rattle.std.proofs.lemmas.Slice.Eq.{ends_is}
use Rattle.std.proofs.Math.Seq.{take-append_seam}
use Rattle.std.specs.List.{after_first, before_first, ends_with, list_any, position_or_len}
use Rattle.table_store.specs.Table.{TableOf}
use Rattle.odata_request.specs.Resource.{count, has_parenthesis, in_table, is_count_path, is_parenthesis, one_resource, other_resource, path_resource, table_number, without_end}

-- some element passes where the first place that passes is one, and no other
pub some_place : {X : Type 0} (p : X → Bool) (xs : List X) → position_or_len p xs < length xs → list_any p xs ≡ true
some_place p [] less = absurd (omega (arith, less))
some_place p (x ∷ xs) less = by (p x) less (some_place p xs)
  where
    by : (b : Bool) → cond (not b) (1 + position_or_len p xs) 0 < suc (length xs) → (position_or_len p xs < length xs → list_any p xs ≡ true) → (b || list_any p xs) ≡ true
    by true less h = refl
    by false less h = h (omega (arith, less))

pub no_place : {X : Type 0} (p : X → Bool) (xs : List X) → position_or_len p xs ≡ length xs → list_any p xs ≡ false
no_place p [] all = refl
no_place p (x ∷ xs) all = by (p x) all (no_place p xs)
  where
    by : (b : Bool) → cond (not b) (1 + position_or_len p xs) 0 ≡ suc (length xs) → (position_or_len p xs ≡ length xs → list_any p xs ≡ false) → (b || list_any p xs) ≡ false
    by true all h = absurd (omega (arith, all))
    by false all h = h (omega (arith, all))

-- the parts round the first `(`
pub parts_of_key : (segment : List ℕ) (r : Option (Bor (List ℕ) × Bor (List ℕ)))
    → MatchOption r (position_or_len is_parenthesis segment ≡ length segment)
    (λ parts. (position_or_len is_parenthesis segment < length segment) × (parts.0.now ≡ before_first is_parenthesis segment) × (parts.1.now ≡ after_first is_parenthesis segment))
    → MatchOption r (has_parenthesis segment ≡ false)
    (λ parts. (has_parenthesis segment ≡ true) × (parts.0.now ≡ before_first is_parenthesis segment) × (parts.1.now ≡ after_first is_parenthesis segment))
parts_of_key segment None h = no_place is_parenthesis segment h
parts_of_key segment (Some parts) h = (some_place is_parenthesis segment h.0, h.1, h.2)

abbrev close : List ℕ
close = codes ")"

-- what stands before a `)` at the end
pub end_of : (text : List ℕ) → without_end (text ++ close) ≡ Some text
end_of text =
    let whole = text ++ close in
    let ends : ends_with nat_eq whole close ≡ true = (ends_is Decides-eqb whole close (ends_with nat_eq whole close) refl).1 text refl in
    let less : length whole - 1 ≡ length text = omega (arith, length-append text close) in
    let front : take (length whole - 1) whole ≡ text = ap (λ (n : ℕ). take n whole) less ∙ take-append_seam text close in
    ap (λ (b : Bool). if b then Some (take (length whole - 1) whole) else None) ends ∙ ap Some front

pub front_of_end : (text : List ℕ) (r : Option (Bor (List ℕ))) → MatchOption r ((front : List ℕ) → text ≢ front ++ close) (λ x. text ≡ x.now ++ close)
    → option_map (λ x. x.now) r ≡ without_end text
front_of_end text None h = ⊎_elim (λ ends. absurd (h (take (length text - 1) text) ((ends_is Decides-eqb text close (ends_with nat_eq text close) refl).0 ends)))
    (λ no. sym (ap (λ (b : Bool). if b then Some (take (length text - 1) text) else None) no)) (cases_Bool (ends_with nat_eq text close))
front_of_end text (Some x) h = sym (ap without_end h ∙ end_of x.now)

-- a path of one segment
pub path_one : (tables : List TableOf) (segments : List (String Global)) (segment : String Global) → length segments ≡ 1
    → segment ≡ get_or segments 0 segment → path_resource tables (map string_bytes segments) ≡ one_resource tables (string_bytes segment)
path_one tables [] segment one at = absurd (omega (arith, one))
path_one tables (s ∷ []) segment one at = ap (λ x. one_resource tables (string_bytes x)) (sym at)
path_one tables (s ∷ t ∷ segments) segment one at = absurd (omega (arith, one))

-- a path of two segments that is none of a count
pub path_uncounted : (tables : List TableOf) (segments : List (String Global)) (segment behind : String Global) → length segments ≡ 2
    → segment ≡ get_or segments 0 segment → behind ≡ get_or segments 1 behind → is_count_path (string_bytes segment) (string_bytes behind) ≡ false
    → path_resource tables (map string_bytes segments) ≡ other_resource (map string_bytes segments)
path_uncounted tables [] segment behind two at next other = absurd (omega (arith, two))
path_uncounted tables (s ∷ []) segment behind two at next other = absurd (omega (arith, two))
path_uncounted tables (s ∷ t ∷ []) segment behind two at next other =
    let none : is_count_path (string_bytes s) (string_bytes t) ≡ false = rw (sym at, sym next) other in
    ap (λ (b : Bool). if b then in_table count (table_number tables (string_bytes s)) else other_resource (string_bytes s ∷ string_bytes t ∷ [])) none
path_uncounted tables (s ∷ t ∷ u ∷ segments) segment behind two at next other = absurd (omega (arith, two))

-- a path of no segment, or of more than two
pub path_other : (tables : List TableOf) (segments : List (String Global)) → length segments ≢ 1 → length segments ≢ 2
    → path_resource tables (map string_bytes segments) ≡ other_resource (map string_bytes segments)
path_other tables [] one two = refl
path_other tables (s ∷ []) one two = absurd (one refl)
path_other tables (s ∷ t ∷ []) one two = absurd (two refl)
path_other tables (s ∷ t ∷ u ∷ segments) one two = refl
