-- Crates above may cite this file: some columns of rows, of which some are taken.
use Rattle.std.proofs.Common.{◌≡◌, ◌<◌, ℕ, zero, suc, Option, Some, None, List, [], ◌∷◌, length, get_or, drop, take, map, refl, sym, ap, ◌∙◌, arith}
use Rattle.std.specs.List.{All}
use Rattle.std.specs.List.Sorted.{IsPermutation}
use Rattle.std.proofs.lemmas.List.{drop-map, get_or-map, length-map, take-map}
use Rattle.std.proofs.lemmas.List.Sorted.{IsPermutation-map}
use Rattle.cell_types.specs.Value.{CellValue}
use Rattle.query_meaning.specs.Apply.{values_at}
use Rattle.query_meaning.specs.Meaning.{first_rows}
use Rattle.row_columns.specs.Picked.{numbered}
use Rattle.result_rows.specs.Selected.{selected_rows}

pub as_many_rows : (picked : Option (List ℕ)) (rows : List (List CellValue)) → length (selected_rows picked rows) ≡ length rows
as_many_rows None rows = refl
as_many_rows (Some places) rows = length-map rows (values_at places)

pub selected_drop : (picked : Option (List ℕ)) (n : ℕ) (rows : List (List CellValue)) → selected_rows picked (drop n rows) ≡ drop n (selected_rows picked rows)
selected_drop None n rows = refl
selected_drop (Some places) n rows = sym (drop-map (values_at places) n rows)

pub selected_first : (picked : Option (List ℕ)) (most : Option ℕ) (rows : List (List CellValue)) → selected_rows picked (first_rows most rows) ≡ first_rows most (selected_rows picked rows)
selected_first None most rows = refl
selected_first (Some places) None rows = refl
selected_first (Some places) (Some most) rows = sym (take-map (values_at places) most rows)

pub selected_piece : (picked : Option (List ℕ)) (skip top : ℕ) (rows : List (List CellValue))
    → selected_rows picked (take top (drop skip rows)) ≡ take top (drop skip (selected_rows picked rows))
selected_piece picked skip top rows = selected_first picked (Some top) (drop skip rows) ∙ ap (take top) (selected_drop picked skip rows)

pub selected_moved : (picked : Option (List ℕ)) (xs ys : List (List CellValue)) → IsPermutation xs ys → IsPermutation (selected_rows picked xs) (selected_rows picked ys)
selected_moved None xs ys moved = moved
selected_moved (Some places) xs ys moved = IsPermutation-map (values_at places) xs ys moved

-- a row of both, where these have the same row
pub selected_row_is : (picked : Option (List ℕ)) (xs ys : List (List CellValue)) (m n : ℕ) → m < length xs → n < length ys → get_or xs m [] ≡ get_or ys n []
    → get_or (selected_rows picked xs) m [] ≡ get_or (selected_rows picked ys) n []
selected_row_is None xs ys m n a b is = is
selected_row_is (Some places) xs ys m n a b is =
    get_or-map (values_at places) xs m [] [] a ∙ ap (values_at places) is ∙ sym (get_or-map (values_at places) ys n [] [] b)

pub selected_numbers : (picked : Option (List ℕ)) (rows : List (List CellValue)) (numbers : List ℕ) → All (λ n. n < length rows) numbers
    → numbered numbers (selected_rows picked rows) ≡ selected_rows picked (numbered numbers rows)
selected_numbers None rows numbers within = refl
selected_numbers (Some places) rows [] within = refl
selected_numbers (Some places) rows (n ∷ numbers) within =
    ap (λ row. row ∷ numbered numbers (map (values_at places) rows)) (get_or-map (values_at places) rows n [] [] (within zero zero (omega arith)))
    ∙ ap (λ more. values_at places (get_or rows n []) ∷ more) (selected_numbers (Some places) rows numbers (λ k d h. within (suc k) d (omega (arith, h))))
