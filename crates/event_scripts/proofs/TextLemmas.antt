-- Texts that stand for bytes.
use Rattle.std.proofs.Common.{◌≡◌, ◌==◌, ◌∙◌, ◌++◌, ◌<◌, ℕ, Bool, true, false, List, [], ◌∷◌, length, refl, sym, ap, subst, inl, inr, arith, append_assoc, append-nil, Some, if◌then◌else◌}
use Rattle.std.specs.List.{flat_map}
use Rattle.std.proofs.lemmas.Bool.{eqb-true, eqb-false}
use Rattle.event_scripts.specs.Escapes.{BeginsWithByte, StandsForBytes, byte_behind, written_byte}

-- a text begins with one byte
pub same_byte : {text rest others : List ℕ} {b d : ℕ} → BeginsWithByte text b rest → BeginsWithByte text d others → (b ≡ d) × (rest ≡ others)
same_byte {b = b} {d = d} (inl (c, e, k)) (inl (x, f, h)) =
    let chars : c ≡ x = cc in
    let same : Some b ≡ Some d = sym k ∙ ap byte_behind chars ∙ h in
    (cc, cc)
same_byte (inl (c, e, k)) (inr (f, plain)) = absurd (plain (cc))
same_byte (inr (e, plain)) (inl (x, f, h)) = absurd (plain (cc))
same_byte (inr (e, plain)) (inr (f, other)) = (cc, cc)

no_byte : {text rest : List ℕ} {b : ℕ} → BeginsWithByte text b rest → text ≡ [] → ⊥
no_byte (inl (c, e, k)) none = cc
no_byte (inr (e, plain)) none = cc

pub begins_longer : {text rest : List ℕ} {b : ℕ} → BeginsWithByte text b rest → length rest < length text
begins_longer {rest = rest} (inl (c, e, k)) = rw e (omega arith)
begins_longer {rest = rest} (inr (e, plain)) = rw e (omega arith)

pub same_text : (text bytes others : List ℕ) → StandsForBytes text bytes → StandsForBytes text others → bytes ≡ others
same_text text [] [] h k = refl
same_text text [] (d ∷ others) h (rest, begins, k) = absurd (no_byte begins h)
same_text text (b ∷ bytes) [] (rest, begins, h) k = absurd (no_byte begins k)
same_text text (b ∷ bytes) (d ∷ others) (rest, begins, h) (rest', begins', k) =
    let same = same_byte begins begins' in
    let tails : bytes ≡ others = same_text rest bytes others h (subst (λ (r : List ℕ). StandsForBytes r others) (sym same.1) k) in
    let first : b ≡ d = same.0 in
    cc

begins_escaped : (b : ℕ) (rest : List ℕ) → BeginsWithByte (written_byte b ++ rest) b rest
begins_escaped b rest = go (b == 13) (b == 10) (b == 92) refl refl refl
  where
    go : (r n s : Bool) → (b == 13) ≡ r → (b == 10) ≡ n → (b == 92) ≡ s
        → BeginsWithByte ((if r then 92 ∷ 114 ∷ [] else (if n then 92 ∷ 110 ∷ [] else (if s then 92 ∷ 92 ∷ [] else b ∷ []))) ++ rest) b rest
    go true n s is r t = inl (114, refl, ap Some (sym (eqb-true b 13 is)))
    go false true s q is t = inl (110, refl, ap Some (sym (eqb-true b 10 is)))
    go false false true q r is = inl (92, refl, ap Some (sym (eqb-true b 92 is)))
    go false false false q r is = inr (refl, eqb-false b 92 is)

pub escaped_reads : (bytes : List ℕ) → StandsForBytes (flat_map written_byte bytes) bytes
escaped_reads [] = refl
escaped_reads (b ∷ bytes) = (flat_map written_byte bytes, begins_escaped b (flat_map written_byte bytes), escaped_reads bytes)

-- ---- the bytes that were read, and those that are still to be read

pub record IsReadTo (text bytes rest : List ℕ) : Type 0 where
  pub all : (more : List ℕ) → StandsForBytes rest more → StandsForBytes text (bytes ++ more)
  pub only : (out : List ℕ) → StandsForBytes text out → (more : List ℕ) × (out ≡ bytes ++ more) × StandsForBytes rest more

pub read_none : (text : List ℕ) → IsReadTo text [] text
read_none text = record { all = λ more h. h; only = λ out h. (out, refl, h) }

pub read_more : {text bytes rest behind : List ℕ} (b : ℕ) → IsReadTo text bytes rest → BeginsWithByte rest b behind
    → IsReadTo text (bytes ++ b ∷ []) behind
read_more {text} {bytes} {rest} {behind} b read begins = record {
  all = λ more h. rw append_assoc (read.all (b ∷ more) (behind, begins, h));
  only = λ out h. go out (read.only out h);
}
  where
    go : (out : List ℕ) → (more : List ℕ) × (out ≡ bytes ++ more) × StandsForBytes rest more
        → (more : List ℕ) × (out ≡ (bytes ++ b ∷ []) ++ more) × StandsForBytes behind more
    go out ([], is, h) = absurd (no_byte begins h)
    go out (d ∷ more, is, (behind', begins', h)) =
        let same = same_byte begins begins' in (
          more,
          rw append_assoc (is ∙ ap (λ (x : ℕ). bytes ++ x ∷ more) (sym same.0)),
          subst (λ (r : List ℕ). StandsForBytes r more) (sym same.1) h,
        )

pub read_all : {text bytes rest : List ℕ} → IsReadTo text bytes rest → rest ≡ [] → StandsForBytes text bytes
read_all {text} {bytes} read none = subst (StandsForBytes text) (append-nil bytes) (read.all [] none)

pub read_bad : {text bytes rest : List ℕ} → IsReadTo text bytes rest → (rest ≡ [] → ⊥) → ((b : ℕ) (behind : List ℕ) → ¬ (BeginsWithByte rest b behind))
    → (out : List ℕ) → ¬ (StandsForBytes text out)
read_bad {text} {bytes} {rest} read some none out h = go (read.only out h)
  where
    go : (more : List ℕ) × (out ≡ bytes ++ more) × StandsForBytes rest more → ⊥
    go ([], is, k) = some k
    go (d ∷ more, is, (behind, begins, k)) = none d behind begins

-- ---- tests for the end of a text

pub not_nil : (xs : List ℕ) → (length xs == 0) ≡ false → xs ≡ [] → ⊥
not_nil [] h e = cc
not_nil (x ∷ xs) h e = cc

pub is_nil : (xs : List ℕ) → (length xs == 0) ≡ true → xs ≡ []
is_nil [] h = refl
is_nil (x ∷ xs) h = absurd (omega (arith, eqb-true (length (x ∷ xs)) 0 h))
