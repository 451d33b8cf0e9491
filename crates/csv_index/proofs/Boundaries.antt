-- No character is cut at the places of an index.
use Rattle.std.proofs.Common.{◌≡◌, ℕ, zero, suc, ◌+◌, ◌<◌, ◌≤◌, List, [], ◌∷◌, ◌++◌, length, drop, get_or, Some, refl, subst, sym, ap, ◌∙◌, arith}
use Rattle.std.specs.Prelude.{IsUtf8}
use Rattle.std.specs.List.{slice_get, slice_index}
use Rattle.std.specs.Str.{IsCharBoundary}
use Rattle.std.proofs.lemmas.List.{get_or-drop, get_or_at, get_or_past}
use Rattle.std.proofs.lemmas.Str.{IsCharBoundary-after_ascii}
use Rattle.csv_index.specs.Index.{AreAscii, Rise, start_at}
use Rattle.csv_index.specs.Fields.{AreLeft}
use Rattle.csv_index.proofs.CellLemmas.{AllByRecursion-at, start_before}

-- the byte after a piece of the file
pub ascii_at : (file bytes : List ℕ) (b : ℕ) (rest : List ℕ) (at end : ℕ) → drop at file ≡ bytes ++ b ∷ rest → end ≡ at + length bytes → b < 128
    → slice_index file end < 128
ascii_at file bytes b rest at end e h small =
    let there : get_or file end 0 ≡ b =
    ap (λ k. get_or file k 0) h ∙ sym (get_or-drop at file (length bytes) 0) ∙ ap (λ l. get_or l (length bytes) 0) e ∙ get_or_at bytes b rest 0 (length bytes) refl in
    omega (arith, there)

-- there is none at the end
pub ascii_end : (file : List ℕ) (end : ℕ) → end ≡ length file → slice_index file end < 128
ascii_end file end h = omega (arith, get_or_past file end 0 (omega arith))

pub boundary_at : (bytes : List ℕ) (end : ℕ) → end ≤ length bytes → slice_index bytes end < 128 → IsCharBoundary bytes end
boundary_at bytes end within small = (within, λ _ wide. omega arith)

-- after a place that another follows
pub boundary_behind : (start end : ℕ) (ends bytes : List ℕ) → IsUtf8 bytes → Rise start (end ∷ ends) (length bytes) → AreAscii bytes (end ∷ ends) → 0 < length ends
    → IsCharBoundary bytes (end + 1)
boundary_behind start end [] bytes utf8 rise ascii some = absurd (omega arith)
boundary_behind start end (next ∷ ends) bytes utf8 rise ascii some =
    IsCharBoundary-after_ascii bytes end utf8 (omega (arith, rise.2.0, rise.2.1)) ascii.0

-- what is left after the first of the places
pub left_behind : (start end : ℕ) (ends bytes : List ℕ) → AreLeft start (end ∷ ends) bytes → AreLeft (end + 1) ends bytes
left_behind start end ends bytes left = record {
  rise = left.rise.2;
  text = left.text.1;
  utf8 = left.utf8;
  boundary = boundary_behind start end ends bytes left.utf8 left.rise left.ascii;
  ascii = left.ascii.1;
}

-- after the place of that number
pub boundary_next : (start : ℕ) (ends bytes : List ℕ) (n end : ℕ) → IsUtf8 bytes → Rise start ends (length bytes) → AreAscii bytes ends → slice_get ends n ≡ Some end
    → 0 < length (drop (suc n) ends) → IsCharBoundary bytes (end + 1)
boundary_next start [] bytes n end utf8 rise ascii e some = absurd (cc)
boundary_next start (place ∷ ends) bytes zero end utf8 rise ascii e some =
    let same : place ≡ end = cc in subst (λ k. IsCharBoundary bytes (k + 1)) same (boundary_behind start place ends bytes utf8 rise ascii some)
boundary_next start (place ∷ ends) bytes (suc n) end utf8 rise ascii e some = boundary_next (place + 1) ends bytes n end utf8 rise.2 ascii.1 e some

-- where a field ends
pub end_boundary : (start : ℕ) (ends bytes : List ℕ) (n end : ℕ) → Rise start ends (length bytes) → AreAscii bytes ends → slice_get ends n ≡ Some end
    → IsCharBoundary bytes end
end_boundary start ends bytes n end rise ascii e =
    boundary_at bytes end (start_before start (length bytes) ends n end rise e).1 (AllByRecursion-at (λ place. slice_index bytes place < 128) ends n end ascii e)

-- and where it begins
pub start_boundary : (start : ℕ) (ends bytes : List ℕ) (n end : ℕ) → IsUtf8 bytes → IsCharBoundary bytes start → Rise start ends (length bytes) → AreAscii bytes ends
    → slice_get ends n ≡ Some end → IsCharBoundary bytes (start_at start ends n)
start_boundary start [] bytes n end utf8 first rise ascii e = absurd (cc)
start_boundary start (place ∷ ends) bytes zero end utf8 first rise ascii e = first
start_boundary start (place ∷ []) bytes (suc n) end utf8 first rise ascii e = absurd (cc)
start_boundary start (place ∷ next ∷ ends) bytes (suc n) end utf8 first rise ascii e =
    start_boundary (place + 1) (next ∷ ends) bytes n end utf8 (boundary_behind start place (next ∷ ends) bytes utf8 rise ascii (omega arith)) rise.2 ascii.1 e
