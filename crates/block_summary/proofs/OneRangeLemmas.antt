-- Cells have one range.
use Rattle.std.proofs.Common.{◌≡◌, ℕ, false, List, [], ◌∷◌, ◌++◌, append_assoc, get_or, Option, None, Some, refl, sym, ap, ◌∙◌, subst}
use Rattle.std.specs.Prelude.{IsTrue, fold}
use Rattle.std.specs.Ordering.{is_le, ordering_reverse}
use Rattle.std.specs.declared.cmp.Ordering.{Ordering}
use Rattle.std.specs.declared.cmp.Ordering.TheVariants.{Less, Equal, Greater}
use Rattle.std.proofs.lemmas.Bool.{true≢false}
use Rattle.std.proofs.lemmas.List.{append-nil}
use Rattle.cell_types.specs.Laws.{ValuesAreOrdered}
use Rattle.cell_types.specs.Value.{CellValue, null, value_cmp}
use Rattle.block_summary.specs.Laws.{OneRange, RangesWiden}
use Rattle.block_summary.specs.Ranges.{RangeOf, is_null, no_range, range_of, widened, AreAllNull, HasGreatest, HasLeast, IsAtMost, IsRangeOf}

-- ---- there is one

widened_by : RangesWiden → (range : RangeOf) (front cells : List CellValue) → IsRangeOf range front → IsRangeOf (fold widened range cells) (front ++ cells)
widened_by laws range front [] is = subst (IsRangeOf range) (sym (append-nil front)) is
widened_by laws range front (v ∷ cells) is =
    subst (IsRangeOf (fold widened (widened range v) cells)) (append_assoc front (v ∷ []) cells) (widened_by laws (widened range v) (front ++ v ∷ []) cells (laws.more range front v is))

-- ---- and no other

both_at_most : (r : Ordering) → IsTrue (is_le r) → IsTrue (is_le (ordering_reverse r)) → r ≡ Equal
both_at_most Less p q = absurd (true≢false (sym q))
both_at_most Equal p q = refl
both_at_most Greater p q = absurd (true≢false (sym p))

one_value : ValuesAreOrdered → (a b : CellValue) → IsAtMost a b → IsAtMost b a → a ≡ b
one_value laws a b p q =
    laws.same a b (both_at_most (value_cmp a b) p (subst (λ r. IsTrue (is_le r)) (laws.total.antisymm b a) q))

no_value : (cells : List CellValue) (v : CellValue) (i : ℕ) → AreAllNull cells → get_or cells i null ≡ v → is_null v ≡ false → ⊥
no_value cells v i none among value = true≢false (ap is_null (sym (none i) ∙ among) ∙ value)

value_among : (cells : List CellValue) (v : CellValue) (i : ℕ) → get_or cells i null ≡ v → is_null v ≡ false → is_null (get_or cells i null) ≡ false
value_among cells v i among value = ap is_null among ∙ value

one_least : ValuesAreOrdered → (a b : Option CellValue) (cells : List CellValue) → HasLeast a cells → HasLeast b cells → a ≡ b
one_least laws None None cells p q = refl
one_least laws None (Some b) cells p q = absurd (no_value cells b q.among.0 p q.among.1 q.value)
one_least laws (Some a) None cells p q = absurd (no_value cells a p.among.0 q p.among.1 p.value)
one_least laws (Some a) (Some b) cells p q =
    ap Some (one_value laws a b
    (subst (IsAtMost a) q.among.1 (p.below q.among.0 (value_among cells b q.among.0 q.among.1 q.value)))
    (subst (IsAtMost b) p.among.1 (q.below p.among.0 (value_among cells a p.among.0 p.among.1 p.value))))

one_greatest : ValuesAreOrdered → (a b : Option CellValue) (cells : List CellValue) → HasGreatest a cells → HasGreatest b cells → a ≡ b
one_greatest laws None None cells p q = refl
one_greatest laws None (Some b) cells p q = absurd (no_value cells b q.among.0 p q.among.1 q.value)
one_greatest laws (Some a) None cells p q = absurd (no_value cells a p.among.0 q p.among.1 p.value)
one_greatest laws (Some a) (Some b) cells p q =
    ap Some (one_value laws a b
    (subst (λ v. IsAtMost v b) p.among.1 (q.above p.among.0 (value_among cells a p.among.0 p.among.1 p.value)))
    (subst (λ v. IsAtMost v a) q.among.1 (p.above q.among.0 (value_among cells b q.among.0 q.among.1 q.value))))

same_range : ValuesAreOrdered → (a b : RangeOf) (cells : List CellValue) → IsRangeOf a cells → IsRangeOf b cells → a ≡ b
same_range laws a b cells p q =
    ap (λ (v : Option CellValue). record a { least = v }) (one_least laws a.least b.least cells p.least q.least)
    ∙ ap (λ (v : Option CellValue). record { least = b.least; greatest = v; null_count = a.null_count }) (one_greatest laws a.greatest b.greatest cells p.greatest q.greatest)
    ∙ ap (λ (n : ℕ). record b { null_count = n }) (p.null_count ∙ sym q.null_count)

pub one_range : RangesWiden → ValuesAreOrdered → OneRange
one_range widen laws = record {
  made = λ cells. widened_by widen no_range [] cells widen.start;
  one = λ range cells is. same_range laws range (range_of cells) cells is (widened_by widen no_range [] cells widen.start);
}
