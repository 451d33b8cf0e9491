-- The first line of a script.
use Rattle.std.proofs.Common.{◌≡◌, ◌==◌, ◌∙◌, ◌+◌, ◌-◌, ◌<◌, ◌≤◌, ℕ, Bool, true, false, cond, not, List, [], ◌∷◌, length, take, drop, Some, None, refl, ap, arith, length-drop, ltb}
use Rattle.std.specs.List.{count_by, onto_first, position, position_or_len, slice_split}
use Rattle.std.specs.Str.Lines.{lines_of_parts, strip_carriage_return}
use Rattle.std.proofs.lemmas.Bool.{ltb-true, ltb-false}
use Rattle.std.proofs.lemmas.List.{drop-drop, take_all}
use Rattle.std.proofs.lemmas.List.Splits.{length-slice_split, slice_split_first}
use Rattle.event_scripts.specs.Lines.{is_line_feed, script_lines, less_return}

pub found_at : (xs : List ℕ) (p : ℕ → Bool) (at : ℕ) → position p xs ≡ Some at → (at ≡ position_or_len p xs) × (position_or_len p xs < length xs)
found_at xs p at = go (ltb (position_or_len p xs) (length xs)) refl
  where
    go : (b : Bool) → ltb (position_or_len p xs) (length xs) ≡ b → cond b (Some (position_or_len p xs)) None ≡ Some at
        → (at ≡ position_or_len p xs) × (position_or_len p xs < length xs)
    go true less e = (cc, ltb-true _ _ less)
    go false less e = absurd cc

pub found_none : (xs : List ℕ) (p : ℕ → Bool) → position p xs ≡ None → length xs ≤ position_or_len p xs
found_none xs p = go (ltb (position_or_len p xs) (length xs)) refl
  where
    go : (b : Bool) → ltb (position_or_len p xs) (length xs) ≡ b → cond b (Some (position_or_len p xs)) None ≡ None → length xs ≤ position_or_len p xs
    go true less e = absurd cc
    go false less e = ltb-false _ _ less

one_more : (line : List ℕ) (parts : List (List ℕ)) (n : ℕ) → length parts ≡ n + 1
    → lines_of_parts (line ∷ parts) ≡ strip_carriage_return line ∷ lines_of_parts parts
one_more line [] n e = absurd (omega (arith, e))
one_more line (part ∷ parts) n e = refl

pub line_before : (script : List ℕ) (at : ℕ) → position is_line_feed script ≡ Some at
    → script_lines script ≡ less_return (take at script) ∷ script_lines (drop (at + 1) script)
line_before script at found =
    let is = found_at script is_line_feed at found in
    let split = slice_split_first is_line_feed script 0 is.1 in
    let behind = drop (position_or_len is_line_feed script + 1) script in
    rw is.0 (ap lines_of_parts split
    ∙ one_more (take (position_or_len is_line_feed script) script) (slice_split is_line_feed behind) (count_by is_line_feed behind)
    (length-slice_split is_line_feed behind))

no_feed : (p : ℕ → Bool) (xs : List ℕ) → length xs ≤ position_or_len p xs → slice_split p xs ≡ xs ∷ []
no_feed p [] h = refl
no_feed p (x ∷ xs) h = go (p x) (no_feed p xs) h
  where
    go : (b : Bool) → (length xs ≤ position_or_len p xs → slice_split p xs ≡ xs ∷ [])
        → length (x ∷ xs) ≤ cond (not b) (1 + position_or_len p xs) 0
        → cond b ([] ∷ slice_split p xs) (onto_first x (slice_split p xs)) ≡ (x ∷ xs) ∷ []
    go true behind h = absurd (omega arith)
    go false behind h = let less : length xs ≤ position_or_len p xs = omega arith in ap (onto_first x) (behind less)

pub last_line : (script : List ℕ) → position is_line_feed script ≡ None → (length script == 0) ≡ false → script_lines script ≡ script ∷ []
last_line script none some =
    let parts : slice_split is_line_feed script ≡ script ∷ [] = no_feed is_line_feed script (found_none script is_line_feed none) in
    ap lines_of_parts parts ∙ go (length script == 0) some
  where
    go : (b : Bool) → b ≡ false → (cond b [] (script ∷ [])) ≡ script ∷ []
    go true e = absurd cc
    go false e = refl

-- what a slice has from its second byte on, after a split
pub behind_first : (script : List ℕ) (at : ℕ) (tail : List ℕ) → tail ≡ drop at script → take (length tail - 1) (drop 1 tail) ≡ drop (at + 1) script
behind_first script at tail is =
    let most : length (drop 1 tail) ≤ length tail - 1 = omega (arith, length-drop 1 tail) in
    take_all (length tail - 1) (drop 1 tail) most ∙ ap (drop 1) is ∙ drop-drop 1 at script
