-- Bytes that are written into room that is there.
use Rattle.std.proofs.Common.{◌≡◌, ℕ, zero, suc, ◌+◌, ◌-◌, ◌≤◌, List, [], ◌∷◌, ◌++◌, length, take, drop, sym, ap, ap₂, ◌∙◌, arith, append_assoc}
use Rattle.std.proofs.lemmas.List.{length-drop, length-take, take-append-drop, take-take, take_all}
use Rattle.std.proofs.lemmas.Slice.{take-put_mid}
use borrow.Rule.Slice.PartMut.{put_mid}
use Rattle.reply_values.specs.Size.{IsWrittenAt}

-- a front that ends in the second of two lists
take-second : (xs ys : List ℕ) (n m : ℕ) → n ≡ length xs + m → take n (xs ++ ys) ≡ xs ++ take m ys
take-second [] ys n m long = ap (λ k. take k ys) (omega (arith, long))
take-second (x ∷ xs) ys zero m long = absurd (omega (arith, long))
take-second (x ∷ xs) ys (suc n) m long = ap (λ rest. x ∷ rest) (take-second xs ys n m (omega (arith, long)))

pub front_long : (xs : List ℕ) (n : ℕ) → n ≤ length xs → length (take n xs) ≡ n
front_long xs n le = omega (arith, length-take n xs)

-- the first bytes of a block
pub copied : (out block ys : List ℕ) (at k n : ℕ) → at ≤ length out → length ys ≡ n → ys ≡ take n block → take (at + n) (put_mid at k out ys) ≡ take at out ++ take n block
copied out block ys at k n within long is = take-put_mid at k out ys (at + n) (omega (arith, long)) within ∙ ap (λ zs. take at out ++ zs) is

-- all bytes
pub copied_whole : (out bytes : List ℕ) (at k : ℕ) → at ≤ length out → take (at + length bytes) (put_mid at k out bytes) ≡ take at out ++ bytes
copied_whole out bytes at k within =
    take-put_mid at k out bytes (at + length bytes) (omega arith) within

-- two blocks, of which the second ends where the bytes do
pub two_puts : (out mid new bytes : List ℕ) (at n one two : ℕ) → n ≤ length bytes → length bytes ≤ n + n → at + length bytes ≤ length out → IsWrittenAt out mid at one (take n bytes)
    → IsWrittenAt mid new (at + (length bytes - n)) two (take n (take (length bytes - (length bytes - n)) (drop (length bytes - n) bytes))) → IsWrittenAt out new at two bytes
two_puts out mid new bytes at n one two some most room first second =
    let last = length bytes - n in
    let here : one ≡ at + n = omega (arith, first.end, front_long bytes n some) in
    let front : take (at + last) mid ≡ take at out ++ take last bytes =
    sym (take-take (at + last) (at + n) mid (omega (arith, most))) ∙ ap (take (at + last)) (ap (λ k. take k mid) (sym here) ∙ first.bytes)
    ∙ take-second (take at out) (take n bytes) (at + last) last (omega (arith, front_long out at (omega (arith, room))))
    ∙ ap (λ zs. take at out ++ zs) (take-take last n bytes (omega (arith, most))) in
    let long = length-drop last bytes in
    let back : take n (take (length bytes - last) (drop last bytes)) ≡ drop last bytes =
    ap (take n) (take_all (length bytes - last) (drop last bytes) (omega (arith, long))) ∙ take_all n (drop last bytes) (omega (arith, long, some)) in
    record {
      long = second.long ∙ first.long;
      bytes = second.bytes ∙ ap₂ (λ xs ys. xs ++ ys) front back ∙ append_assoc (take at out) (take last bytes) (drop last bytes) ∙ ap (λ zs. take at out ++ zs) (take-append-drop last bytes);
      end = omega (arith, second.end, ap length back, long, some);
    }
