use Rattle.std.proofs.Common.{◌≡◌, ℕ, ℤ, Option, None, Some, FitsSigned, drop, get_or, to_z, of_z, rules, sym, ap, subst, ◌∙◌, arith}
use Rattle.std.specs.Int.{w128, w64}
use Rattle.std.proofs.lemmas.Int.{to_z-of_z}
use Rattle.block_summary.specs.Types.{numbers_of}
use Rattle.aggregate_rows.specs.Sums.{numbers_at, sum_of, sums_joined, FitSums}
use Rattle.aggregate_rows.proofs.SumLemmas.{fits_before, joins_before}
use Rattle.aggregate_rows.proofs.kept.part_sum.Goals as goal

-- a number of 64 bits in 128
wider : (n : ℤ) → FitsSigned w64 n → FitsSigned w128 n → to_z w128 (of_z w128 (to_z w64 (of_z w64 n))) ≡ n
wider n short long = ap (λ z. to_z w128 (of_z w128 z)) (to_z-of_z w64 n short) ∙ to_z-of_z w128 n long

pub joined_sum-sum-requires : goal.joined_sum-sum-requires
joined_sum-sum-requires c =
    let numbers = c.args.numbers.now in
    let read : ℕ → Option ℤ = λ place. get_or (numbers_of c.args.column.now) place None in
    let number = c.in-Some.number in
    let is = rw c.at.ensures at (sym c.number.ensures ∙ c.in-Some.is) in
    let fit = fits_before read numbers c.loop-i.i 0 c.loop-i-test.true c.loop-i.invariant.within c.requires in
    subst (λ z. FitSums (Some z) c.loop-i.sum) (sym (wider number (search rules) (search rules))) (subst (FitSums (Some number)) (sym c.loop-i.invariant.sum)
    (subst (λ o. FitSums o (sum_of (numbers_at c.args.column.now (drop c.loop-i.i numbers)))) is fit))

pub loop-i-preserved-in-Some : goal.loop-i-preserved-in-Some
loop-i-preserved-in-Some c =
    let numbers = c.args.numbers.now in
    let read : ℕ → Option ℤ = λ place. get_or (numbers_of c.args.column.now) place None in
    let number = c.in-Some.number in
    let is = rw c.at.ensures at (sym c.number.ensures ∙ c.in-Some.is) in
    let before = joins_before read numbers c.loop-i.i 0 c.loop-i-test.true c.loop-i.invariant.within in
    record {
      within = omega arith;
      sum = c.joined_sum-sum.ensures ∙ ap (λ z. sums_joined (Some z) c.loop-i.sum) (wider number (search rules) (search rules)) ∙ ap (sums_joined (Some number)) c.loop-i.invariant.sum
          ∙ sym (before ∙ ap (λ o. sums_joined o (sum_of (numbers_at c.args.column.now (drop c.loop-i.i numbers)))) is);
    }
