use Rattle.std.proofs.Common.{◌≡◌, ℕ, suc, ◌+◌, ◌-◌, ◌*◌, ◌/◌, ◌%◌, ◌^◌, ◌<◌, ◌≤◌, ap, ◌∙◌, arith, bit_and, sym, pow_mono}
use Rattle.std.specs.Int.RustNames.{count_ones}
use Rattle.std.proofs.lemmas.Nat.{one_shl}
use Rattle.std.proofs.lemmas.Nat.Bits.{bit_at-lt}
use Rattle.std.proofs.Math.Nat.{pow-suc}
use Rattle.quote_parity.specs.Words.{ones_below}
use Rattle.quote_parity.proofs.WordLemmas.{ones_below-half, ones_below-whole}
use Rattle.quote_parity.proofs.WordLemmas.{ones_below-none, ones_below-more}
use Rattle.quote_parity.proofs.words.select.Goals as goal

half_of : (l : ℕ) → 0 < l → 2 ^ l ≡ 2 ^ (l - 1) + 2 ^ (l - 1)
half_of l h = let e : l ≡ suc (l - 1) = omega arith in omega (arith, ap (λ n. 2 ^ n) e, pow-suc 2 (l - 1))

half_shl : (k : ℕ) → k < 6 → 1 * 2 ^ k % 2 ^ 32 ≡ 2 ^ k
half_shl k h = one_shl k 32 (omega arith)

low_is : (w place k : ℕ) → k < 6 → ones_below w (place + 2 ^ k) ≡ ones_below w place + count_ones (bit_and (w / 2 ^ place) (1 * 2 ^ (1 * 2 ^ k % 2 ^ 32) % 2 ^ 64 - 1))
low_is w place k h =
    let five : k ≤ 5 = omega arith in
    let small : 2 ^ k ≤ 2 ^ 5 = pow_mono five in
    let whole : 1 * 2 ^ (1 * 2 ^ k % 2 ^ 32) % 2 ^ 64 ≡ 2 ^ (2 ^ k) = ap (λ s. 1 * 2 ^ s % 2 ^ 64) (half_shl k h) ∙ one_shl (2 ^ k) 64 (omega arith) in
    ones_below-half w place (2 ^ k) ∙ ap (λ m. ones_below w place + count_ones (bit_and (w / 2 ^ place) (m - 1))) (sym whole)

pub loop-level-init : goal.loop-level-init
loop-level-init c = record {
  few = omega arith;
  within = omega arith;
  so_far = omega (arith, ones_below-none c.args.word);
  ahead = omega (arith, ones_below-whole c.args.word c.ranges.word.fits);
}

pub loop-level-preserved-then-low-rest : goal.loop-level-preserved-then-low-rest
loop-level-preserved-then-low-rest c =
    let k = c.loop-level.level - 1 in
    let w = c.args.word in
    let place = c.loop-level.place in
    let small : k < 6 = omega arith in
    let halves = half_of c.loop-level.level (omega arith) in
    let half = half_shl k small in
    let low = low_is w place k small in
    let ends : place + 1 * 2 ^ k % 2 ^ 32 + 2 ^ k ≡ place + 2 ^ c.loop-level.level = omega (arith, half, halves) in
    record {
      few = omega arith;
      within = omega (arith, half, halves);
      so_far = omega (arith, low, ap (λ s. ones_below w (place + s)) half);
      ahead = omega (arith, ap (ones_below w) ends, c.loop-level.invariant.ahead);
    }

pub loop-level-preserved : goal.loop-level-preserved
loop-level-preserved c =
    let k = c.loop-level.level - 1 in
    let w = c.args.word in
    let place = c.loop-level.place in
    let small : k < 6 = omega arith in
    let halves = half_of c.loop-level.level (omega arith) in
    let low = low_is w place k small in
    record {
      few = omega arith;
      within = omega (arith, halves);
      so_far = c.loop-level.invariant.so_far;
      ahead = omega (arith, low, c.loop-level.invariant.so_far, c.if-low-rest.false);
    }

pub returns : goal.returns
returns c =
    let w = c.args.word in
    let place = c.loop-level.place in
    let done : c.loop-level.level ≡ 0 = omega (arith, c.loop-level-test.false) in
    let last : place + 2 ^ c.loop-level.level ≡ place + 1 = ap (λ l. place + 2 ^ l) done in
    let more = ones_below-more w place in
    let ahead = ap (ones_below w) last in
    (omega (arith, last), omega (arith, more, ahead, bit_at-lt w place), omega (arith, more, ahead, bit_at-lt w place))
