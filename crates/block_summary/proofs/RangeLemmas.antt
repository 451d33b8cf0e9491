-- The least and the greatest cell of a column that is kept as numbers.
use Rattle.std.proofs.Common.{◌≡◌, ℕ, suc, zero, true, false, List, [], ◌∷◌, map, get_or, Option, None, Some, refl, sym, ap, ◌∙◌, subst, arith, rules}
use Rattle.std.specs.Prelude.{ℤ, ◌≤ℤ◌, ◌<ℤ◌, IsTrue}
use Rattle.std.specs.Ordering.{MatchOrdering, int_cmp, is_le}
use Rattle.std.specs.declared.cmp.Ordering.{Ordering}
use Rattle.std.specs.declared.cmp.Ordering.TheVariants.{Less, Equal, Greater}
use Rattle.std.specs.Option.{is_none}
use Rattle.std.proofs.lemmas.Bool.{true≢false}
use Rattle.std.proofs.lemmas.Cmp.{int_ranked}
use Rattle.std.proofs.lemmas.Int.{ints}
use Rattle.cell_types.specs.Value.{is_null, null, value_cmp}
use Rattle.block_summary.specs.Cells.{AreBounds, AreNull}
use Rattle.block_summary.specs.Ranges.{AreAllNull, IsAtMost, IsGreatest, IsLeast}
use Rattle.cell_types.specs.Kind.{cell_of, typed_cell, IsNumberOf}
use Rattle.cell_types.specs.Laws.{NumbersStandForCells}
use Rattle.block_summary.specs.Types.{cells_of_kind, AllNumbersOf}
use Rattle.cell_types.specs.declared.kind.NumberKind.{NumberKind}

pub cell-at : (kind : NumberKind) (numbers : List (Option ℤ)) (i : ℕ) → get_or (cells_of_kind kind numbers) i null ≡ cell_of kind (get_or numbers i None)
cell-at kind [] i = refl
cell-at kind (x ∷ xs) zero = refl
cell-at kind (x ∷ xs) (suc i) = cell-at kind xs i

le_of : (a b : ℤ) (r : Ordering) → MatchOrdering r (a <ℤ b) (a ≡ b) (b <ℤ a) → a ≤ℤ b → IsTrue (is_le r)
le_of a b Less h le = search rules
le_of a b Equal h le = search rules
le_of a b Greater h le = absurd (omega (arith, ints))

typed-le : NumbersStandForCells → (kind : NumberKind) (a b : ℤ) → IsNumberOf kind a → IsNumberOf kind b → a ≤ℤ b → IsTrue (is_le (value_cmp (typed_cell kind a) (typed_cell kind b)))
typed-le law kind a b p q le = subst (λ r. IsTrue (is_le r)) (sym (law.order kind a b p q)) (le_of a b (int_cmp a b) (int_ranked a b _ refl) le)

below-at : NumbersStandForCells → (kind : NumberKind) (least : ℤ) (o : Option ℤ) → ((z : ℤ) → o ≡ Some z → (least ≤ℤ z) × IsNumberOf kind z) → IsNumberOf kind least
    → is_null (cell_of kind o) ≡ false → IsAtMost (typed_cell kind least) (cell_of kind o)
below-at law kind least None each is h = absurd (true≢false h)
below-at law kind least (Some z) each is h = let r = each z refl in typed-le law kind least z is r.1 r.0

above-at : NumbersStandForCells → (kind : NumberKind) (greatest : ℤ) (o : Option ℤ) → ((z : ℤ) → o ≡ Some z → (z ≤ℤ greatest) × IsNumberOf kind z) → IsNumberOf kind greatest
    → is_null (cell_of kind o) ≡ false → IsAtMost (cell_of kind o) (typed_cell kind greatest)
above-at law kind greatest None each is h = absurd (true≢false h)
above-at law kind greatest (Some z) each is h = let r = each z refl in typed-le law kind z greatest r.1 is r.0

pub least-cell : NumbersStandForCells → (kind : NumberKind) (numbers : List (Option ℤ)) (least greatest : ℤ) → AllNumbersOf kind numbers → AreBounds least greatest numbers
    → IsLeast (typed_cell kind least) (cells_of_kind kind numbers)
least-cell law kind numbers least greatest all are = record {
  among = (are.least_among.0, cell-at kind numbers are.least_among.0 ∙ ap (cell_of kind) are.least_among.1);
  value = law.value kind least;
  below = λ i h.
      subst (IsAtMost (typed_cell kind least)) (sym (cell-at kind numbers i))
      (below-at law kind least (get_or numbers i None) (λ z e. ((are.between i z e).0, all i z e)) (all are.least_among.0 least are.least_among.1)
      (ap is_null (sym (cell-at kind numbers i)) ∙ h));
}

pub greatest-cell : NumbersStandForCells → (kind : NumberKind) (numbers : List (Option ℤ)) (least greatest : ℤ) → AllNumbersOf kind numbers → AreBounds least greatest numbers
    → IsGreatest (typed_cell kind greatest) (cells_of_kind kind numbers)
greatest-cell law kind numbers least greatest all are = record {
  among = (are.greatest_among.0, cell-at kind numbers are.greatest_among.0 ∙ ap (cell_of kind) are.greatest_among.1);
  value = law.value kind greatest;
  above = λ i h.
      subst (λ v. IsAtMost v (typed_cell kind greatest)) (sym (cell-at kind numbers i))
      (above-at law kind greatest (get_or numbers i None) (λ z e. ((are.between i z e).1, all i z e)) (all are.greatest_among.0 greatest are.greatest_among.1)
      (ap is_null (sym (cell-at kind numbers i)) ∙ h));
}

pub null-cells : (kind : NumberKind) (numbers : List (Option ℤ)) → AreNull numbers → AreAllNull (cells_of_kind kind numbers)
null-cells kind numbers none = λ i. cell-at kind numbers i ∙ ap (cell_of kind) (none i)

pub cells-null : NumbersStandForCells → (kind : NumberKind) (numbers : List (Option ℤ)) → map is_none numbers ≡ map is_null (cells_of_kind kind numbers)
cells-null law kind [] = refl
cells-null law kind (None ∷ rest) = ap (λ xs. true ∷ xs) (cells-null law kind rest)
cells-null law kind (Some number ∷ rest) =
    ap (λ xs. false ∷ xs) (cells-null law kind rest) ∙ ap (λ b. b ∷ map is_null (cells_of_kind kind rest)) (sym (law.value kind number))
