-- How many places stand before each group of blocks, if there is one block more or there are fewer.
use Rattle.std.proofs.Common.{◌≡◌, ◌≢◌, ℕ, ◌+◌, ◌-◌, ◌*◌, ◌/◌, ◌%◌, ◌<◌, ◌≤◌, List, [], ◌∷◌, ◌++◌, length, length-append, take, Some, sym, ap, ◌∙◌, arith, inl, inr}
use Rattle.std.specs.Prelude.{◌⊎◌, slice_get}
use Rattle.std.proofs.lemmas.Bool.{cases_lt}
use Rattle.std.proofs.lemmas.List.{length-take, take-append-le, take_all}
use Rattle.std.proofs.lemmas.Option.{same_Some, slice_get_within}
use Rattle.csv_grammar.proofs.ListLaws.{slice_get-take}
use Rattle.csv_index.specs.Blocks.{block_places, rank, AreRanked}
use Rattle.csv_index.proofs.CellLemmas.{slice_get-front, slice_get-behind}

-- what stands before a group is in the blocks before it, also with a block after all
rank_more : (masks : List ℕ) (mask at : ℕ) → at ≤ length masks → rank (masks ++ mask ∷ []) at ≡ rank masks at
rank_more masks mask at less = ap (λ bs. length (block_places 0 bs)) (take-append-le at masks (mask ∷ []) less)

-- one block more, in the last group
pub ranked_more : (masks before : List ℕ) (mask : ℕ) → AreRanked masks before → length masks % 16 ≢ 0 → AreRanked (masks ++ mask ∷ []) before
ranked_more masks before mask ranked within =
    let size = length-append masks (mask ∷ []) in record {
      least = omega (arith, ranked.least, size);
      most = omega (arith, ranked.most, ranked.least, size, within);
      each = λ group places e.
          let inside = slice_get_within before group places e in
          ranked.each group places e ∙ sym (rank_more masks mask (16 * group) (omega (arith, inside, ranked.least)));
    }

-- one block more, in a group of its own
pub ranked_group : (masks before : List ℕ) (mask places : ℕ) → AreRanked masks before → length masks % 16 ≡ 0 → places ≡ length (block_places 0 masks)
    → AreRanked (masks ++ mask ∷ []) (before ++ places ∷ [])
ranked_group masks before mask places ranked none count =
    let size = length-append masks (mask ∷ []) in
    let groups = length-append before (places ∷ []) in
    let all : 16 * length before ≡ length masks = omega (arith, ranked.least, ranked.most, none) in record {
      least = omega (arith, ranked.least, size, groups);
      most = omega (arith, ranked.most, size, groups);
      each = λ group p e. on group p e (cases_lt group (length before));
    }
  where
    on : (group p : ℕ) → slice_get (before ++ places ∷ []) group ≡ Some p → (group < length before) ⊎ (length before ≤ group) → p ≡ rank (masks ++ mask ∷ []) (16 * group)
    on group p e (inl less) =
        ranked.each group p (sym (slice_get-front before (places ∷ []) group less) ∙ e)
        ∙ sym (rank_more masks mask (16 * group) (omega (arith, less, ranked.least)))
    on group p e (inr past) =
        let inside = slice_get_within (before ++ places ∷ []) group p e in
        let here : group ≡ length before = omega (arith, past, inside, length-append before (places ∷ [])) in
        let is : places ≡ p = same_Some places p (sym (slice_get-behind before (places ∷ []) group 0 (omega (arith, here))) ∙ e) in
        let last : 16 * group ≡ length masks = omega (arith, here, ranked.least, ranked.most, none) in
        sym is ∙ count ∙ sym (rank_more masks mask (16 * group) (omega (arith, last)) ∙ ap (λ bs. length (block_places 0 bs)) (take_all (16 * group) masks (omega (arith, last))))
