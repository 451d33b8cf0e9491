-- Crates above may cite this file. The cells of columns, as rows are read.
use Rattle.std.proofs.Common.{◌≡◌, ◌<◌, ℕ, zero, suc, List, [], ◌∷◌, length, map, Some, option_map, slice_get, set, refl, ap, ◌∙◌, arith}
use Rattle.std.proofs.lemmas.List.{length-map}
use Rattle.std.proofs.lemmas.Option.{slice_get-map}
use Rattle.cell_types.specs.Column.{ColumnOf}
use Rattle.cell_types.specs.Value.{CellValue}
use Rattle.column_blocks.specs.ColumnReader.{ReaderOf, cells_read, reader_at, HaveRead}
use Rattle.column_blocks.specs.TypedColumn.{AreTyped}

-- ---- the readers of columns
pub read_start : (total : ℕ) (columns : List ColumnOf) (readers : List ReaderOf) → readers ≡ map (λ column. reader_at total column []) columns
    → HaveRead total columns [] readers
read_start total columns readers e = record {
  count = ap length e ∙ length-map columns (λ column. reader_at total column []);
  each = λ col column at.
      ap (λ rs. slice_get rs col) e ∙ slice_get-map (λ column. reader_at total column []) columns col
      ∙ ap (option_map (λ column. reader_at total column [])) at;
}

pub typed_read : (total : ℕ) (columns : List ColumnOf) (rows : List (List CellValue)) (readers : List ReaderOf)
    → HaveRead total columns rows readers → AreTyped columns rows (map cells_read readers)
typed_read total columns rows readers have = record {
  count = length-map readers cells_read ∙ have.count;
  each = λ col column at. slice_get-map cells_read readers col ∙ ap (option_map cells_read) (have.each col column at);
}

-- ---- a reader in the place of another
pub slice_get-set_same : {X : Type 0} (xs : List X) (i : ℕ) (x : X) → i < length xs → slice_get (set xs i x) i ≡ Some x
slice_get-set_same [] i x within = absurd (omega arith)
slice_get-set_same (y ∷ xs) zero x within = refl
slice_get-set_same (y ∷ xs) (suc i) x within = slice_get-set_same xs i x (omega arith)

pub slice_get-set_other : {X : Type 0} (xs : List X) (i k : ℕ) (x : X) → (k ≡ i → ⊥) → slice_get (set xs i x) k ≡ slice_get xs k
slice_get-set_other [] i k x other = refl
slice_get-set_other (y ∷ xs) zero zero x other = absurd (other refl)
slice_get-set_other (y ∷ xs) zero (suc k) x other = refl
slice_get-set_other (y ∷ xs) (suc i) zero x other = refl
slice_get-set_other (y ∷ xs) (suc i) (suc k) x other = slice_get-set_other xs i k x (λ e. other (ap (λ n. suc n) e))
