-- Crates above may cite this file: the values of rows by their codes.
use Rattle.std.proofs.Common.{◌≡◌, ◌<◌, ℕ, List, [], get_or, length, sym, ap, ◌∙◌, arith}
use Rattle.std.proofs.lemmas.List.{get_or-map, length-map}
use Rattle.cell_types.specs.Rows.{values_at}
use Rattle.cell_types.specs.Value.{CellValue}
use Rattle.row_columns.specs.Picked.{numbered}
use Rattle.row_codes.specs.declared.codes.Codes.{Codes}
use Rattle.row_codes.specs.Codes.{HaveKeyCodes}

-- a row by its number
pub row_by_number : (numbers : List ℕ) (rows : List (List CellValue)) (i : ℕ) → i < length numbers → get_or (numbered numbers rows) i [] ≡ get_or rows (get_or numbers i 0) []
row_by_number numbers rows i h = get_or-map (λ n. get_or rows n []) numbers i 0 [] h

-- the values of a row are those of its code
pub values-here : (places numbers : List ℕ) (rows : List (List CellValue)) (made : Codes) (have : HaveKeyCodes places (numbered numbers rows) made) (i : ℕ) → i < length numbers
    → values_at places (get_or rows (get_or numbers i 0) []) ≡ have.values_of (get_or made.codes.items i 0)
values-here places numbers rows made have i h =
    ap (values_at places) (sym (row_by_number numbers rows i h)) ∙ have.each i (omega (arith, h, length-map numbers (λ n. get_or rows n [])))
