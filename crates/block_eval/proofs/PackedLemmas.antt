-- The numbers of a column as a block keeps them, compared with a literal.
use Rattle.std.proofs.Common.{◌≡◌, ◌<◌, ℕ, zero, suc, Bool, true, false, List, [], ◌∷◌, ◌++◌, take, Option, None, Some, length, map, get_or, slice_get, refl, sym, subst, ap, ◌∙◌, arith, not}
use Rattle.std.specs.Prelude.{ℤ, pos}
use Rattle.std.specs.Ordering.{int_cmp, is_eq, is_ge, is_gt, is_le, is_lt}
use Rattle.std.specs.declared.cmp.Ordering.{Ordering}
use Rattle.std.specs.declared.cmp.Ordering.TheVariants.{Less, Equal, Greater}
use Rattle.std.proofs.lemmas.List.{get_or-map, length-map}
use Rattle.std.proofs.Math.ListN.{get_or-map as get_or-map_default}
use Rattle.std.proofs.Math.Seq.{take-append_seam}
use denote.Ref.{Bor}
use Rattle.cell_types.specs.Value.{CellValue, boolean, date, decimal, integer, null, text}
use Rattle.cell_types.specs.declared.comparison.ComparisonOperator.{ComparisonOperator}
use Rattle.cell_types.specs.declared.comparison.ComparisonOperator.TheVariants as operators
use Rattle.block_summary.specs.Cells.{AreUnpacked, HaveBounds}
use Rattle.block_summary.specs.Passing.{number_passes}
use Rattle.block_summary.specs.Ranges.{is_null}
use Rattle.cell_types.specs.Kind.{cell_of, number_in, number_of}
use Rattle.block_summary.specs.Types.{cells_of_kind, numbers_of}
use Rattle.block_summary.specs.declared.bounds.Bounds.{Bounds}
use Rattle.cell_types.specs.declared.kind.NumberKind.{NumberKind}
use Rattle.cell_types.specs.declared.kind.NumberKind.TheVariants.{Integer, Decimal, Boolean, Date}
use Rattle.row_eval.specs.declared.truth.Truth.{Truth}
use Rattle.row_eval.specs.declared.truth.Truth.TheVariants.{False}
use Rattle.row_eval.specs.Comparison.{compared, holds, is_equal}
use Rattle.row_eval.specs.Logic.{truth_of}
use Rattle.block_eval.specs.declared.columns.BlockColumn.{BlockColumn}
use Rattle.block_eval.specs.declared.columns.BlockColumn.TheVariants.{Packed}
use Rattle.block_eval.specs.declared.packed.Unpacked.{Unpacked}
use Rattle.block_eval.specs.Bounds.{LiesWithin, IsWithinKnown}
use Rattle.block_eval.specs.Columns.{number_at, unless_null}
use Rattle.block_eval.specs.Packed.{HasNumbersAt, AreNumbersCompared, IsUnpackedAt}

-- ---- the numbers of a column at a place

cell-at : (kind : NumberKind) (numbers : List (Option ℤ)) (row : ℕ) → get_or (cells_of_kind kind numbers) row null ≡ cell_of kind (get_or numbers row None)
cell-at kind [] row = refl
cell-at kind (n ∷ ns) zero = refl
cell-at kind (n ∷ ns) (suc row) = cell-at kind ns row

pub packed-numbers : (columns : List BlockColumn) (place : ℕ) (column : Bor (List CellValue)) (kind : NumberKind) → slice_get columns place ≡ Some (Packed column)
    → cells_of_kind kind (numbers_of column.now) ≡ column.now → HasNumbersAt columns place kind (numbers_of column.now)
packed-numbers columns place column kind e typed = λ row cells at.
    at.each place (Packed column) e
    ∙ ap (λ vs. Some (get_or vs row null)) (sym typed)
    ∙ ap (λ v. Some v) (cell-at kind (numbers_of column.now) row)

not-null : (v : CellValue) (n : ℤ) → number_of v ≡ Some n → is_null v ≡ false
not-null null n e = absurd (cc)
not-null (integer z) n e = refl
not-null (text t) n e = refl
not-null (boolean b) n e = refl
not-null (date y m d) n e = refl
not-null (decimal z) n e = refl

-- what is unpacked of a row, with a mark of null, is its number
unpacked-number : (kind : NumberKind) (cells : List CellValue) (values : List ℤ) (nulls : List Bool) (row : ℕ) → row < length cells → cells_of_kind kind (numbers_of cells) ≡ cells
    → AreUnpacked (numbers_of cells) values → nulls ≡ map is_null cells → number_at values nulls row ≡ get_or (numbers_of cells) row None
unpacked-number kind cells values nulls row h typed unpacked marks = by (get_or (numbers_of cells) row None) refl
  where
    v : CellValue
    v = get_or cells row null

    mark : get_or nulls row true ≡ is_null v
    mark = ap (λ ns. get_or ns row true) marks ∙ get_or-map is_null cells row null true h

    cell_is : v ≡ cell_of kind (get_or (numbers_of cells) row None)
    cell_is = ap (λ vs. get_or vs row null) (sym typed) ∙ cell-at kind (numbers_of cells) row

    by : (n : Option ℤ) → get_or (numbers_of cells) row None ≡ n → number_at values nulls row ≡ n
    by None e = ap (λ b. unless_null b (get_or values row (pos 0))) (mark ∙ ap is_null (cell_is ∙ ap (cell_of kind) e))
    by (Some n) e =
        ap (λ b. unless_null b (get_or values row (pos 0))) (mark ∙ not-null v n (sym (get_or-map number_of cells row null None h) ∙ e))
        ∙ ap (λ z. Some z) (unpacked row n e)

known-within : (bounds : Option Bounds) (numbers : List (Option ℤ)) (row : ℕ) → HaveBounds bounds numbers → IsWithinKnown bounds (get_or numbers row None)
known-within None numbers row have = tt
known-within (Some b) numbers row have = by (get_or numbers row None) refl
  where
    by : (n : Option ℤ) → get_or numbers row None ≡ n → LiesWithin b n
    by None e = tt
    by (Some n) e = have.between row n e

-- the number of a kind in the cell that a number stands for is the number of that cell
in-cell : (kind : NumberKind) (n : Option ℤ) → number_in kind (cell_of kind n) ≡ number_of (cell_of kind n)
in-cell Integer None = refl
in-cell Decimal None = refl
in-cell Boolean None = refl
in-cell Date None = refl
in-cell Integer (Some n) = refl
in-cell Decimal (Some n) = refl
in-cell Boolean (Some n) = refl
in-cell Date (Some n) = refl

pub number-back : (kind : NumberKind) (cells : List CellValue) (row : ℕ) (n : Option ℤ) → cells_of_kind kind (numbers_of cells) ≡ cells → n ≡ get_or (numbers_of cells) row None → number_in kind (cell_of kind n) ≡ n
number-back kind cells row n typed e =
    in-cell kind n
    ∙ ap (λ m. number_of (cell_of kind m)) e
    ∙ ap number_of (sym (cell-at kind (numbers_of cells) row) ∙ ap (λ vs. get_or vs row null) typed)
    ∙ sym (get_or-map_default number_of cells row null) ∙ sym e

pub unpacked-stand : (columns : List BlockColumn) (place : ℕ) (kind : NumberKind) (rows : ℕ) (cells : List CellValue) (made : Unpacked) → HasNumbersAt columns place kind (numbers_of cells)
    → cells_of_kind kind (numbers_of cells) ≡ cells → length cells ≡ rows → AreUnpacked (numbers_of cells) made.values.items → made.nulls.items ≡ map is_null cells → length made.values.items ≡ rows
    → HaveBounds made.bounds (numbers_of cells) → IsUnpackedAt columns place kind rows made
unpacked-stand columns place kind rows cells made has typed size unpacked marks long bounds =
    let number : (row : ℕ) → row < rows → number_at made.values.items made.nulls.items row ≡ get_or (numbers_of cells) row None = λ row h.
    unpacked-number kind cells made.values.items made.nulls.items row (omega (arith, h, size)) typed unpacked marks in
    record {
      stand = λ row those h at. has row those at ∙ ap (λ n. Some (cell_of kind n)) (sym (number row h));
      back = λ row h. number-back kind cells row _ typed (number row h);
      within = λ row h. subst (IsWithinKnown made.bounds) (sym (number row h)) (known-within made.bounds (numbers_of cells) row bounds);
      values_long = long;
      nulls_long = ap length marks ∙ length-map cells is_null ∙ size;
    }

-- ---- what passes is what holds

eq-holds : (r : Ordering) → is_eq r ≡ is_equal (Some r)
eq-holds Less = refl
eq-holds Equal = refl
eq-holds Greater = refl

abbrev by-order : (o : ComparisonOperator) (r : Ordering) → Bool → Type 0
by-order o r passes = passes ≡ holds o (Some r)

gt-holds : (r : Ordering) → by-order operators.GreaterThan r (is_gt r)
gt-holds Less = refl
gt-holds Equal = refl
gt-holds Greater = refl

ge-holds : (r : Ordering) → by-order operators.GreaterOrEqual r (is_ge r)
ge-holds Less = refl
ge-holds Equal = refl
ge-holds Greater = refl

lt-holds : (r : Ordering) → by-order operators.LessThan r (is_lt r)
lt-holds Less = refl
lt-holds Equal = refl
lt-holds Greater = refl

le-holds : (r : Ordering) → by-order operators.LessOrEqual r (is_le r)
le-holds Less = refl
le-holds Equal = refl
le-holds Greater = refl

ne-holds : (r : Ordering) → by-order operators.NotEqual r (not (is_eq r))
ne-holds Less = refl
ne-holds Equal = refl
ne-holds Greater = refl

pub passes-holds : (o : ComparisonOperator) (n : Option ℤ) (l : ℤ) → number_passes o l n ≡ holds o (compared int_cmp n (Some l))
passes-holds operators.Equal None l = refl
passes-holds operators.NotEqual None l = refl
passes-holds operators.GreaterThan None l = refl
passes-holds operators.GreaterOrEqual None l = refl
passes-holds operators.LessThan None l = refl
passes-holds operators.LessOrEqual None l = refl
passes-holds operators.Equal (Some z) l = eq-holds (int_cmp z l)
passes-holds operators.NotEqual (Some z) l = ne-holds (int_cmp z l)
passes-holds operators.GreaterThan (Some z) l = gt-holds (int_cmp z l)
passes-holds operators.GreaterOrEqual (Some z) l = ge-holds (int_cmp z l)
passes-holds operators.LessThan (Some z) l = lt-holds (int_cmp z l)
passes-holds operators.LessOrEqual (Some z) l = le-holds (int_cmp z l)

-- the truths of the marks of the rows that pass
pub packed-truths : (o : ComparisonOperator) (numbers : List (Option ℤ)) (l : ℤ) (n m : ℕ) (out rest : List Truth) (marks others given : List Bool) → length out ≡ n → length out ≡ length numbers
    → length marks ≡ m → given ≡ take m (marks ++ others) → marks ≡ map (number_passes o l) numbers
    → ((i : ℕ) → i < length out → get_or out i False ≡ truth_of (get_or given i false)) → AreNumbersCompared o numbers l (take n (out ++ rest))
packed-truths o numbers l n m out rest marks others given size rows size_of_marks is are each =
    let passes = number_passes o l in
    let whole : take n (out ++ rest) ≡ out = ap (λ k. take k (out ++ rest)) (sym size) ∙ take-append_seam out rest in
    let same : given ≡ map passes numbers = is ∙ ap (λ k. take k (marks ++ others)) (sym size_of_marks) ∙ take-append_seam marks others ∙ are in
    record {
      each = λ row h.
          ap (λ xs. get_or xs row False) whole
          ∙ each row (omega (arith, h, rows))
          ∙ ap (λ xs. truth_of (get_or xs row false)) same
          ∙ ap truth_of (get_or-map passes numbers row None false h ∙ passes-holds o (get_or numbers row None) l);
      long = ap length whole ∙ rows;
    }
