-- The blocks of a table of 10,000 rows.
use Rattle.std.proofs.Common.{◌≡◌, ℕ, ℤ, pos, Bool, true, false, Some, refl, filter, ◌+◌, ◌*◌, ◌-◌, ◌/◌, ◌≤◌, List, [], ◌∷◌, length, drop, sym, ap, ◌∙◌, arith}
use Rattle.std.specs.Prelude.{count_by}
use Rattle.std.specs.List.{range_with_len}
use Rattle.std.specs.Ordering.{is_gt}
use Rattle.std.proofs.lemmas.List.{length-drop, length-take-le}
use Rattle.std.proofs.lemmas.List.Sums.{length-filter}
use Rattle.cell_types.specs.declared.comparison.ComparisonOperator.TheVariants.{GreaterThan}
use Rattle.block_summary.specs.Blocks.{block_at, block_count}
use Rattle.cell_types.specs.Value.{CellValue, integer, value_cmp}
use Rattle.query_plan.specs.Scan.{TestOf, admits_all, admitted_blocks, block_numbers, reached}
use Rattle.query_meaning.specs.Filter.{passes_each}
use Rattle.query_plan.specs.Worked.{greatest_in, test}
use Rattle.query_plan.proofs.PushLemmas.{filter_always}
use Rattle.query_plan.proofs.ScanLemmas.{no_test_fails}

module _ (rows : List (List CellValue)) (many : length rows ≡ 10_000) where
  three_blocks : block_numbers rows ≡ 0 ∷ 1 ∷ 2 ∷ []
  three_blocks =
      let three : (10_000 + 4_095) / 4_096 ≡ 3 = omega arith in
      ap (λ (n : ℕ). range_with_len 0 (block_count n)) many ∙ ap (range_with_len 0) three

  pub every_block : admitted_blocks [] rows ≡ 0 ∷ 1 ∷ 2 ∷ []
  every_block = no_test_fails rows (block_numbers rows) ∙ three_blocks

  abbrev beyond_nine : List TestOf
  beyond_nine = test 0 GreaterThan (integer (pos 9)) ∷ []

  admitted : (number : ℕ) (n : ℤ) (b : Bool) → greatest_in rows number ≡ Some (integer n) → is_gt (value_cmp (integer n) (integer (pos 9))) ≡ b
      → admits_all beyond_nine (block_at rows number) ≡ b
  admitted number n true e h = rw (e, h) refl
  admitted number n false e h = rw (e, h) refl

  -- of a column whose greatest value in the three blocks is 12, 9 and 10 the second block has none beyond 9
  pub second_ruled_out : greatest_in rows 0 ≡ Some (integer (pos 12)) → greatest_in rows 1 ≡ Some (integer (pos 9)) → greatest_in rows 2 ≡ Some (integer (pos 10))
      → admitted_blocks beyond_nine rows ≡ 0 ∷ 2 ∷ []
  unfolding value_cmp
  second_ruled_out a b d =
      let first = admitted 0 (pos 12) true a refl in
      let second = admitted 1 (pos 9) false b refl in
      let third = admitted 2 (pos 10) true d refl in
      ap (filter (λ number. admits_all beyond_nine (block_at rows number))) three_blocks ∙ rw (first, second, third) refl

  -- each row of a whole block passes no conditions
  whole : (number : ℕ) → number ≤ 1 → count_by (passes_each []) (block_at rows number) ≡ 4_096
  whole number h =
      let behind = length-drop (number * 4_096) rows in
      let enough : 4_096 ≤ length (drop (number * 4_096) rows) = omega (arith, behind, many, h) in
      sym (length-filter (passes_each []) (block_at rows number)) ∙ ap length (sym (filter_always (block_at rows number)))
      ∙ length-take-le 4_096 (drop (number * 4_096) rows) enough

  pub no_block : reached [] 0 rows (admitted_blocks [] rows) ≡ []
  no_block = ap (reached [] 0 rows) every_block

  pub one_block : reached [] 5 rows (admitted_blocks [] rows) ≡ 0 ∷ []
  one_block =
      ap (reached [] 5 rows) every_block
      ∙ ap (λ (k : ℕ). 0 ∷ reached [] (5 - k) rows (1 ∷ 2 ∷ [])) (whole 0 (omega arith))

  pub first_blocks : reached [] 4_097 rows (admitted_blocks [] rows) ≡ 0 ∷ 1 ∷ []
  first_blocks =
      ap (reached [] 4_097 rows) every_block
      ∙ ap (λ (k : ℕ). 0 ∷ reached [] (4_097 - k) rows (1 ∷ 2 ∷ [])) (whole 0 (omega arith))
      ∙ ap (λ (k : ℕ). 0 ∷ 1 ∷ reached [] (1 - k) rows (2 ∷ [])) (whole 1 (omega arith))
