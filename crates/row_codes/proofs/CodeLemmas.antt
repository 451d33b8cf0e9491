-- Codes of rows by their values in some columns.
use Rattle.std.proofs.Common.{◌≡◌, ◌+◌, ◌*◌, ◌/◌, ◌%◌, ◌++◌, ◌<◌, ◌≤◌, ℕ, List, [], ◌∷◌, Option, None, Some, get_or, length, replicate, take, refl, sym, ap, subst, ◌∙◌, arith, mul-le-mul_right}
use Rattle.std.specs.Prelude.{Err, IfOk, IfSome, Ok, Result, ℤ, pos, ◌+ℤ◌, ◌-ℤ◌, ◌≤ℤ◌, unsigned_abs}
use Rattle.std.specs.List.{All}
use Rattle.std.specs.declared.alloc.AllocError.{AllocError}
use Rattle.std.proofs.lemmas.Int.{ints}
use Rattle.std.proofs.lemmas.List.{get_or-map, get_or-replicate, length-map, length-replicate, map_more}
use Rattle.std.proofs.lemmas.Slice.Zip.{AllZip-long}
use Rattle.std.proofs.lemmas.Nat.{div-mul-add, mod-mul-add}
use Rattle.block_summary.specs.Cells.{AreBounds}
use Rattle.cell_types.specs.Kind.{cell_of}
use Rattle.block_summary.specs.Types.{numbers_of}
use Rattle.block_summary.specs.declared.bounds.Bounds.{Bounds}
use Rattle.cell_types.specs.declared.kind.NumberKind.{NumberKind}
use Rattle.cell_types.specs.Rows.{value_at, values_at}
use Rattle.cell_types.specs.Value.{CellValue, null}
use Rattle.row_columns.specs.Codes.{HaveCodes}
use Rattle.row_columns.specs.Picked.{numbered}
use Rattle.row_codes.specs.declared.codes.Codes.{Codes}
use Rattle.row_codes.specs.declared.codes.TheConstants.{MOST_CODES}
use Rattle.row_codes.specs.Codes.{joined_values, value_alone, AreFewCodes, HaveCodesOf, HaveKeyCodes, HaveNumberCodes, HaveTextCodes}
use Rattle.row_codes.specs.Kept.{IsKeptAs}
use Rattle.row_codes.proofs.CodeLaws.{row_by_number}
use Rattle.row_codes.proofs.KeptLaws.{value_here}
use Rattle.row_codes.proofs.ListLaws.{zip_at}

-- as many codes as rows
pub codes_of_rows : (numbers : List ℕ) (rows : List (List CellValue)) (made : Codes) → AreFewCodes (length numbers) made → AreFewCodes (length (numbered numbers rows)) made
codes_of_rows numbers rows made are = subst (λ n. AreFewCodes n made) (sym (length-map numbers (λ n. get_or rows n []))) are

-- ---- a column of numbers

pub number-codes : (place : ℕ) (numbers : List ℕ) (rows : List (List CellValue)) (cells : List CellValue) (type : NumberKind) (made : Codes)
    → IsKeptAs type place rows cells → HaveNumberCodes (numbers_of cells) numbers made → HaveCodesOf (value_alone place) (numbered numbers rows) made
number-codes place numbers rows cells type made kept have = record {
  are = codes_of_rows numbers rows made have.are;
  values_of = λ code. cell_of type (have.number_of code) ∷ [];
  each = λ i h.
      let inside : i < length numbers = omega (arith, h, length-map numbers (λ n. get_or rows n [])) in
      ap (value_alone place) (row_by_number numbers rows i inside)
      ∙ ap (λ v. v ∷ []) (value_here type place rows cells kept (get_or numbers i 0) ∙ ap (cell_of type) (have.each i inside));
}

-- ---- a column of texts

pub text-codes : (place : ℕ) (numbers : List ℕ) (rows : List (List CellValue)) (texts : List ℕ) (made : Codes) → All (λ n. n < length rows) numbers
    → HaveCodes texts place rows → HaveTextCodes texts numbers made → HaveCodesOf (value_alone place) (numbered numbers rows) made
text-codes place numbers rows texts made within codes have = record {
  are = codes_of_rows numbers rows made have.are;
  values_of = λ code. codes.0 code ∷ [];
  each = λ i h.
      let inside : i < length numbers = omega (arith, h, length-map numbers (λ n. get_or rows n [])) in
      let number = get_or numbers i 0 in
      let coded : number < length texts = omega (arith, within i 0 inside, AllZip-long _ rows texts codes.1) in
      ap (value_alone place) (row_by_number numbers rows i inside)
      ∙ ap (λ v. v ∷ []) (zip_at (λ row code. get_or row place null ≡ codes.0 code) rows texts number [] 0 codes.1 coded ∙ ap codes.0 (sym (have.each i inside)));
}

-- ---- two columns

code-below : (a b m k : ℕ) → a < m → b < k → a * k + b < m * k
code-below a b m k h g =
    let product : (a + 1) * k ≤ m * k = mul-le-mul_right k (omega (arith, h)) in
    omega (arith, g, product)

pub joined-codes : (left right made : Codes) (f g : List CellValue → List CellValue) (rows : List (List CellValue)) → HaveCodesOf f rows left → HaveCodesOf g rows right
    → made.count ≡ left.count * right.count → made.count ≤ MOST_CODES → length made.codes.items ≡ length left.codes.items
    → ((i : ℕ) → i < length left.codes.items → get_or made.codes.items i 0 ≡ get_or left.codes.items i 0 * right.count + get_or right.codes.items i 0)
    → HaveCodesOf (joined_values f g) rows made
joined-codes left right made f g rows ls rs count few long each = record {
  are = record {
    below = λ i h.
        let inside : i < length left.codes.items = omega (arith, h, ls.are.long) in
        omega (arith, each i inside, count, code-below (get_or left.codes.items i 0) (get_or right.codes.items i 0) left.count right.count (ls.are.below i h) (rs.are.below i h));
    long = long ∙ ls.are.long;
    few = few;
  };
  values_of = λ code. ls.values_of (code / right.count) ++ rs.values_of (code % right.count);
  each = λ i h.
      let a = get_or left.codes.items i 0 in
      let b = get_or right.codes.items i 0 in
      let inside : i < length left.codes.items = omega (arith, h, ls.are.long) in
      ap (λ vs. vs ++ g (get_or rows i [])) (ls.each i h)
      ∙ ap (λ vs. ls.values_of a ++ vs) (rs.each i h)
      ∙ ap (λ c. ls.values_of c ++ rs.values_of b) (sym (div-mul-add a right.count b (rs.are.below i h)))
      ∙ ap (λ c. ls.values_of ((a * right.count + b) / right.count) ++ rs.values_of c) (sym (mod-mul-add a right.count b (rs.are.below i h)))
      ∙ ap (λ c. ls.values_of (c / right.count) ++ rs.values_of (c % right.count)) (sym (each i inside));
}

-- ---- one more column

pub one-more : (places : List ℕ) (i : ℕ) (rows : List (List CellValue)) (made : Codes) → i < length places
    → HaveCodesOf (joined_values (values_at (take i places)) (value_alone (get_or places i 0))) rows made → HaveKeyCodes (take (i + 1) places) rows made
one-more places i rows made h have = record {
  are = have.are;
  values_of = have.values_of;
  each = λ k inside. map_more (value_at (get_or rows k [])) places i 0 h ∙ have.each k inside;
}

-- numbers lie as far above the least one as the greatest one at most
pub span-within : (bounds : Bounds) (cells : List (Option ℤ)) (last : ℕ) → AreBounds bounds.least bounds.greatest cells → last ≡ unsigned_abs (bounds.greatest -ℤ bounds.least)
    → (i : ℕ) (n : ℤ) → get_or cells i None ≡ Some n → (bounds.least ≤ℤ n) × (n ≤ℤ (bounds.least +ℤ pos last))
span-within bounds cells last are far i n e =
    let between = are.between i n e in
    (between.0, omega (arith, ints, between.0, between.1, far))

-- ---- no columns

pub zero-codes : (numbers : List ℕ) (rows : List (List CellValue)) (made : Codes) → made.count ≡ 1 → made.codes.items ≡ replicate (length numbers) 0 → HaveKeyCodes [] (numbered numbers rows) made
zero-codes numbers rows made one zeros = record {
  are = codes_of_rows numbers rows made (record {
    below = λ i h. omega (arith, one, ap (λ xs. get_or xs i 0) zeros, get_or-replicate {A = ℕ} (length numbers) i 0 0 h);
    long = ap length zeros ∙ length-replicate {A = ℕ} (length numbers) 0;
    few = omega (arith, one);
  });
  values_of = λ code. [];
  each = λ i h. refl;
}

-- ---- the codes of a column, where it has such

pub number-codes-made : (place : ℕ) (numbers : List ℕ) (rows : List (List CellValue)) (cells : List CellValue) (type : NumberKind) (made : Result (Option Codes) AllocError)
    → IsKeptAs type place rows cells → IfOk made (λ m. IfSome m (HaveNumberCodes (numbers_of cells) numbers))
    → IfOk made (λ m. IfSome m (HaveCodesOf (value_alone place) (numbered numbers rows)))
number-codes-made place numbers rows cells type (Ok (Some made)) kept have = number-codes place numbers rows cells type made kept have
number-codes-made place numbers rows cells type (Ok None) kept have = tt
number-codes-made place numbers rows cells type (Err e) kept have = tt
