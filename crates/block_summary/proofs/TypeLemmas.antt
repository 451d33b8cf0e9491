-- Numbers, and the cells that they stand for.
use Rattle.std.proofs.Common.{◌≡◌, suc, zero, Bool, List, [], ◌∷◌, Option, None, Some, refl, ap, ◌∙◌, subst}
use Rattle.std.specs.Prelude.{ℤ}
use Rattle.cell_types.specs.Kind.{IsNumberOf}
use Rattle.cell_types.specs.Laws.{NumbersStandForCells}
use Rattle.cell_types.specs.declared.kind.NumberKind.{NumberKind}
use Rattle.block_summary.specs.Cells.{cells_of}
use Rattle.block_summary.specs.Types.{cells_of_kind, numbers_of, AllNumbersOf, AreNumbersOf}
use Rattle.block_summary.proofs.CellLemmas.{number_at}

pub numbers-cells : NumbersStandForCells → (kind : NumberKind) (numbers : List (Option ℤ)) → AllNumbersOf kind numbers → numbers_of (cells_of_kind kind numbers) ≡ numbers
numbers-cells law kind [] all = refl
numbers-cells law kind (None ∷ rest) all = ap (λ xs. None ∷ xs) (numbers-cells law kind rest (λ i. all (suc i)))
numbers-cells law kind (Some number ∷ rest) all =
    ap (λ x. x ∷ numbers_of (cells_of_kind kind rest)) (law.back kind number (all zero number refl))
    ∙ ap (λ xs. Some number ∷ xs) (numbers-cells law kind rest (λ i. all (suc i)))

pub all-numbers : (kind : NumberKind) (nulls : List Bool) (values : List ℤ) → AreNumbersOf kind nulls values → AllNumbersOf kind (cells_of nulls values)
all-numbers kind nulls values are = λ i number e.
    let at = number_at nulls values i number e in
    subst (IsNumberOf kind) at.2 (are i at.0 at.1)
