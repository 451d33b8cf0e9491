-- Where a needle first occurs by bytes, and where by characters.
use Rattle.std.proofs.Common.{◌≡◌, ◌<◌, ◌≤◌, ◌+◌, ◌-◌, ℕ, List, ◌++◌, None, length, take, drop, IsUtf8, sym, ap, ◌∙◌, length-append, arith}
use Rattle.std.proofs.lemmas.List.{take-append-drop, take-append-le, length-drop, length-take-le}
use Rattle.std.proofs.lemmas.Str.{encodes-append, encodes-chars, chars-append, length-le-encodes}
use Rattle.std.proofs.Math.Seq.{drop-append_seam}
use Rattle.std.specs.Str.{chars, encode_utf8_all}
use Rattle.std.specs.Str.Pattern.{FindsText, HasTextAt, LacksTextAt}
use Rattle.memchr.specs.Find.{OccursAt, NoneBefore, Nowhere}
use Rattle.memchr.proofs.lemmas.MatchLemmas.{OccursAt-split}
use Rattle.row_eval.proofs.PartLemmas.{occurs}

abbrev bytes_before : List ℕ → ℕ → List ℕ
bytes_before cs k = encode_utf8_all (take k cs)

module _ (hay needle : List ℕ) (hay_text : IsUtf8 hay) (needle_text : IsUtf8 needle) where
  -- where the characters occur, the bytes do
  cut : (k : ℕ) → OccursAt (chars hay) (chars needle) k → hay ≡ bytes_before (chars hay) k ++ (needle ++ encode_utf8_all (drop (k + length (chars needle)) (chars hay)))
  cut k o =
      sym (encodes-chars hay hay_text) ∙ ap encode_utf8_all (sym (take-append-drop k (chars hay)) ∙ ap (λ r. take k (chars hay) ++ r) (OccursAt-split (chars hay) (chars needle) k o))
      ∙ encodes-append (take k (chars hay)) (chars needle ++ drop (k + length (chars needle)) (chars hay))
      ∙ ap (λ r. bytes_before (chars hay) k ++ r) (encodes-append (chars needle) (drop (k + length (chars needle)) (chars hay)) ∙ ap (λ r. r ++ encode_utf8_all (drop (k + length (chars needle)) (chars hay))) (encodes-chars needle needle_text))

  bytes_there : (k : ℕ) → OccursAt (chars hay) (chars needle) k → drop (length (bytes_before (chars hay) k)) hay ≡ needle ++ encode_utf8_all (drop (k + length (chars needle)) (chars hay))
  bytes_there k o = ap (drop (length (bytes_before (chars hay) k))) (cut k o) ∙ drop-append_seam (bytes_before (chars hay) k) (needle ++ encode_utf8_all (drop (k + length (chars needle)) (chars hay)))

  within : (k : ℕ) → OccursAt (chars hay) (chars needle) k → length (bytes_before (chars hay) k) ≤ length hay
  within k o =
      let e : length hay ≡ length (bytes_before (chars hay) k) + length (needle ++ encode_utf8_all (drop (k + length (chars needle)) (chars hay))) = ap length (cut k o) ∙ length-append (bytes_before (chars hay) k) (needle ++ encode_utf8_all (drop (k + length (chars needle)) (chars hay))) in
      omega (arith, e)

  pub nowhere : FindsText needle hay None → Nowhere (OccursAt (chars hay) (chars needle)) 0 (length (chars hay) + 1)
  nowhere none k low high o = none (length (bytes_before (chars hay) k)) (within k o) _ (bytes_there k o)

  module _ (i j : ℕ) (front_text : IsUtf8 (take i hay)) (fits : i ≤ length hay) (has : HasTextAt needle hay i j) where
    parts : chars hay ≡ chars (take i hay) ++ (chars needle ++ chars (drop j hay))
    parts =
        ap chars (sym (take-append-drop i hay) ∙ ap (λ r. take i hay ++ r) has.split)
        ∙ chars-append (take i hay) (needle ++ drop j hay) front_text
        ∙ ap (λ r. chars (take i hay) ++ r) (chars-append needle (drop j hay) needle_text)

    -- a place before the front's end begins before the byte i
    earlier : (k : ℕ) → k < length (chars (take i hay)) → length (bytes_before (chars hay) k) < i
    earlier k low =
        let f = chars (take i hay) in
        let same : take k (chars hay) ≡ take k f = ap (take k) parts ∙ take-append-le k f (chars needle ++ chars (drop j hay)) (omega arith) in
        let whole : length (encode_utf8_all f) ≡ i = ap length (encodes-chars (take i hay) front_text) ∙ length-take-le i hay fits in
        let split : length (encode_utf8_all f) ≡ length (encode_utf8_all (take k f)) + length (encode_utf8_all (drop k f)) =
        ap (λ cs. length (encode_utf8_all cs)) (sym (take-append-drop k f)) ∙ ap length (encodes-append (take k f) (drop k f)) ∙ length-append (encode_utf8_all (take k f)) (encode_utf8_all (drop k f)) in
        let some : length f - k ≤ length (encode_utf8_all (drop k f)) = rw (sym (length-drop k f)) (length-le-encodes (drop k f)) in
        rw same (omega (arith, whole, split, some, low))

    pub first_char : ((p : ℕ) → p < i → LacksTextAt needle hay p) → NoneBefore (OccursAt (chars hay) (chars needle)) 0 (length (chars hay) + 1) (length (chars (take i hay))) × OccursAt (chars hay) (chars needle) (length (chars (take i hay)))
    first_char lacks =
        let here = occurs (chars hay) (chars needle) (chars (take i hay)) (chars (drop j hay)) parts in (
          record {
            low = omega arith;
            high = let ends = here.fits in omega (arith, ends);
            before = λ k low high o. lacks (length (bytes_before (chars hay) k)) (earlier k high) _ (bytes_there k o);
          },
          here,
        )
