-- The heads of a cut have small targets.
use Rattle.std.proofs.Common.{◌≡◌, ◌<◌, ◌≤◌, ℕ, zero, suc, Bool, true, false, List, [], ◌∷◌, ◌++◌, length, get_or, MatchBool, arith, sym, ap, subst, length-append}
use Rattle.httparse.specs.Grammar.{RequestHead, print_blank, print_end, print_request, print_section, print_version}
use Rattle.http_heads.specs.declared.head.TheConstants.{MAX_HEAD}
use Rattle.http_heads.specs.Checks.{closes}
use Rattle.http_heads.specs.Cut.{IsCut}
use Rattle.http_heads.specs.Head.{BeginsWith, HeadOf}
use Rattle.odata_http.specs.Answer.{AreSmall}

part_within : (a b t v e s : List ℕ) (n : ℕ) → length (((((a ++ b) ++ (32 ∷ t)) ++ (32 ∷ v)) ++ e) ++ s) ≤ n → length t ≤ n
part_within a b t v e s n k =
    let first = length-append ((((a ++ b) ++ (32 ∷ t)) ++ (32 ∷ v)) ++ e) s in
    let second = length-append (((a ++ b) ++ (32 ∷ t)) ++ (32 ∷ v)) e in
    let third = length-append ((a ++ b) ++ (32 ∷ t)) (32 ∷ v) in
    let fourth = length-append (a ++ b) (32 ∷ t) in
    omega (arith, k, first, second, third, fourth)

target_within : (h : RequestHead) (n : ℕ) → length (print_request h) ≤ n → length h.target ≤ n
unfolding print_request
target_within h n k = part_within (print_blank h.blank) h.method h.target (print_version h.minor) (print_end h.line_end) (print_section h.fields h.last) n k

begins_small : (stream : List ℕ) (head : HeadOf) (rest : List ℕ) → MAX_HEAD ≡ 8_192 → BeginsWith stream head rest → length head.target ≤ 8_192
begins_small stream head rest limit b =
    let same = ap (λ (h : HeadOf). length h.target) b.parts in
    let bytes = b.small.bytes in
    let within = target_within b.tree 8_192 (omega (arith, bytes, limit)) in
    omega (arith, same, within)

behind_small : (b : Bool) (more : List ℕ) (heads : List HeadOf) (rest : List ℕ) (closed : Bool) → (IsCut more heads rest closed → AreSmall heads)
    → MatchBool b ((heads ≡ []) × (rest ≡ []) × (closed ≡ true)) (IsCut more heads rest closed) → AreSmall heads
behind_small true more heads rest closed small h = subst AreSmall (sym h.0) tt
behind_small false more heads rest closed small h = small h

pub cut_small : MAX_HEAD ≡ 8_192 → (stream : List ℕ) (heads : List HeadOf) (rest : List ℕ) (closed : Bool) → IsCut stream heads rest closed → AreSmall heads
cut_small limit stream [] rest closed c = tt
cut_small limit stream (head ∷ heads) rest closed c =
    (begins_small stream head c.0 limit c.1, behind_small (closes head) c.0 heads rest closed (cut_small limit c.0 heads rest closed) c.2)

-- the head at a place
pub small_at : (heads : List HeadOf) (k : ℕ) (head : HeadOf) → k < length heads → head ≡ get_or heads k head → AreSmall heads
    → length head.target ≤ 8_192
small_at [] k head less at small = absurd (omega (arith, less))
small_at (h ∷ heads) zero head less at small = let same = ap (λ (x : HeadOf). length x.target) at in let first = small.0 in omega (arith, same, first)
small_at (h ∷ heads) (suc k) head less at small = small_at heads k head (omega (arith, less)) at small.1
