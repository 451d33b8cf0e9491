-- How many bytes pieces take, and the longest of them.
use Rattle.std.proofs.Common.{◌≡◌, ℕ, zero, suc, ◌+◌, ◌<◌, ◌≤◌, List, [], ◌∷◌, ◌++◌, drop, get_or, length, take, sym, ap, ◌∙◌, subst, arith, length-append}
use Rattle.std.specs.Prelude.{max}
use Rattle.std.specs.List.{AllByRecursion, concat}
use Rattle.std.proofs.lemmas.List.{append-nil, drop_more, take_more}
use Rattle.std.proofs.lemmas.List.Elements.{All-from_recursion}
use Rattle.std.proofs.lemmas.List.Folds.{concat-append}
use Rattle.reply_text.specs.Pieces.{longest_of, AreSizesOf}
use Rattle.reply_values.specs.Size.{told}

longest_more : (pieces : List (List ℕ)) (piece : List ℕ) → longest_of (pieces ++ piece ∷ []) ≡ max (longest_of pieces) (length piece)
longest_more [] piece = omega arith
longest_more (first ∷ pieces) piece = omega (arith, longest_more pieces piece)

all_more : (pieces : List (List ℕ)) (piece : List ℕ) → length (concat (pieces ++ piece ∷ [])) ≡ length (concat pieces) + length piece
all_more pieces piece =
    ap length (concat-append pieces (piece ∷ []) ∙ ap (λ l. concat pieces ++ l) (append-nil piece)) ∙ length-append (concat pieces) piece

-- one piece more
pub sizes_more : (pieces : List (List ℕ)) (place all longest size now most : ℕ) → place < length pieces → AreSizesOf (take place pieces) all longest
    → size ≡ told (length (get_or pieces place [])) → now ≡ told (all + size) → most ≡ max longest size → AreSizesOf (take (place + 1) pieces) now most
sizes_more pieces place all longest size now most inside are is now_is most_is =
    let piece = get_or pieces place [] in
    subst (λ l. AreSizesOf l now most) (sym (take_more pieces place [] inside)) (record {
      counted = omega (arith, all_more (take place pieces) piece, are.counted, is, now_is);
      most = omega (arith, longest_more (take place pieces) piece, are.most, is, most_is);
    })

-- the longest is no longer than all
pub longest_within : (pieces : List (List ℕ)) → longest_of pieces ≤ length (concat pieces)
longest_within [] = omega arith
longest_within (piece ∷ pieces) = omega (arith, longest_within pieces, length-append piece (concat pieces))

pub pieces_within : (pieces : List (List ℕ)) (most : ℕ) → longest_of pieces ≤ most → AllByRecursion (λ piece. length piece ≤ most) pieces
pieces_within [] most bound = tt
pieces_within (piece ∷ pieces) most bound = (omega (arith, bound), pieces_within pieces most (omega (arith, bound)))

-- ---- the next of them

-- the next piece is there, and after it what is left
pub record IsNext (pieces : List (List ℕ)) (next most size : ℕ) : Type 0 where
  pub inside : next < length pieces
  pub some : 0 < length (get_or pieces next [])
  pub within : length (get_or pieces next []) ≤ most
  pub left : concat (drop next pieces) ≡ get_or pieces next [] ++ concat (drop (next + 1) pieces)
  pub long : size ≡ length (get_or pieces next []) + length (concat (drop (next + 1) pieces))

some_left : (pieces : List (List ℕ)) (next : ℕ) → 0 < length (concat (drop next pieces)) → next < length pieces
some_left [] zero some = absurd (omega (arith, some))
some_left [] (suc next) some = absurd (omega (arith, some))
some_left (piece ∷ pieces) zero some = omega arith
some_left (piece ∷ pieces) (suc next) some = omega (arith, some_left pieces next some)

pub next_is : (pieces : List (List ℕ)) (next most size : ℕ) → AllByRecursion (λ piece. 0 < length piece) pieces → AllByRecursion (λ piece. length piece ≤ most) pieces
    → size ≡ length (concat (drop next pieces)) → (size ≡ 0 → ⊥) → IsNext pieces next most size
next_is pieces next most size filled within is some =
    let inside = some_left pieces next (omega (arith, is, some)) in
    let left = ap concat (drop_more pieces next [] inside) in
    record {
      inside = inside;
      some = All-from_recursion (λ (piece : List ℕ). 0 < length piece) pieces filled next [] inside;
      within = All-from_recursion (λ (piece : List ℕ). length piece ≤ most) pieces within next [] inside;
      left = left;
      long = omega (arith, is, ap length left, length-append (get_or pieces next []) (concat (drop (next + 1) pieces)));
    }

-- where none is empty there are no more of them than bytes
pub pieces_few : (pieces : List (List ℕ)) → AllByRecursion (λ piece. 0 < length piece) pieces → length pieces ≤ length (concat pieces)
pieces_few [] some = omega arith
pieces_few (piece ∷ pieces) some = omega (arith, some.0, pieces_few pieces some.1, length-append piece (concat pieces))
