-- What is read of a file.
use Rattle.std.proofs.Common.{◌≡◌, ◌≤◌, ◌<◌, ◌+◌, ◌⊎◌, ℕ, List, [], ◌∷◌, ◌++◌, length, take, Option, Some, None, sym, ap, subst, ◌∙◌, inl, inr, append-nil, arith}
use Rattle.std.specs.Prelude.{IfSome}
use Rattle.std.specs.Io.KnownBytes.{Consumes, IsAtEnd}
use Rattle.std.proofs.Math.Nat.{eq-or-lt_of_le}
use Rattle.std.proofs.Math.Seq.{take-append-add, take-append_seam}
use Rattle.std.proofs.lemmas.List.{append_assoc, take-take, take-append-le, take_all}

-- bytes that are read after others are written over the room there
pub read_over : (old now room post rest new : List ℕ) (start count long : ℕ) → start ≡ length old → take start now ≡ old → count ≤ length room
    → start + count ≤ long → new ≡ take (start + count) (take long (take start now ++ (room ++ post) ++ rest)) → new ≡ old ++ take count room
read_over old now room post rest new start count long e front fits within is =
    is ∙ take-take (start + count) long (take start now ++ (room ++ post) ++ rest) within
    ∙ ap (λ (xs : List ℕ). take (start + count) (xs ++ (room ++ post) ++ rest)) front
    ∙ ap (λ (n : ℕ). take (n + count) (old ++ (room ++ post) ++ rest)) e
    ∙ ap (take (length old + count)) (append_assoc old (room ++ post) rest)
    ∙ take-append-add old (room ++ post ++ rest) count
    ∙ ap (λ (xs : List ℕ). old ++ take count xs) (append_assoc room post rest)
    ∙ ap (λ (xs : List ℕ). old ++ xs) (take-append-le count room (post ++ rest) fits)

-- bytes to which room was added begin with those that they were
pub front_of_grown : (old now fresh : List ℕ) (start long : ℕ) → start ≡ length old → start ≤ long → now ≡ take long old ++ fresh → take start now ≡ old
front_of_grown old now fresh start long e within is =
    let same : take long old ≡ old = take_all long old (omega arith) in
    ap (take start) is ∙ ap (λ (xs : List ℕ). take start (xs ++ fresh)) same ∙ ap (λ (n : ℕ). take n (old ++ fresh)) e ∙ take-append_seam old fresh

pub over_by : {E : Type 0} (room most long : ℕ) → (0 < room → E) → (room ≡ 0 → most ≤ long) → E ⊎ (most ≤ long)
over_by room most long f g =
    elim (eq-or-lt_of_le {n = 0} {m = room} (omega arith)) [
      | inl none ↦ inr (g (sym none))
      | inr some ↦ inl (f some)
    ]

-- a file is read on in after what was read
pub consumed_more : (told left more : Option (List ℕ)) (read piece : List ℕ) → Consumes told left read → Consumes left more piece
    → Consumes told more (read ++ piece)
consumed_more None left more read piece h k = tt
consumed_more (Some all) None more read piece h k = absurd h
consumed_more (Some all) (Some xs) None read piece h k = absurd k
consumed_more (Some all) (Some xs) (Some ys) read piece h k = h ∙ ap (λ (zs : List ℕ). read ++ zs) k ∙ sym (append_assoc read piece ys)

-- what is read up to the end of a file, or past the limit, is its front
pub front_read : (told left : Option (List ℕ)) (bytes : List ℕ) (most : ℕ) → Consumes told left bytes → length bytes ≤ most
    → IsAtEnd left ⊎ (most ≤ length bytes) → IfSome told (λ all. bytes ≡ take most all)
front_read None left bytes most h short over = tt
front_read (Some all) None bytes most h short over = absurd h
front_read (Some all) (Some xs) bytes most h short over =
    elim over [
      | inl none ↦
          let is : all ≡ bytes = h ∙ ap (λ (zs : List ℕ). bytes ++ zs) none ∙ append-nil bytes in
          sym (ap (take most) is ∙ take_all most bytes short)
      | inr full ↦
          let long : most ≡ length bytes = omega arith in
          sym (ap (take most) h ∙ ap (λ (n : ℕ). take n (bytes ++ xs)) long ∙ take-append_seam bytes xs)
    ]
