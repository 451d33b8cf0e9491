-- Crates above may cite this file: the cells of a column as it is kept.
use Rattle.std.proofs.Common.{◌≡◌, ℕ, None, List, [], get_or, sym, ap, ◌∙◌}
use Rattle.std.proofs.Math.ListN.{get_or-map as get_or-map_default}
use Rattle.block_summary.specs.Types.{numbers_of}
use Rattle.cell_types.specs.Kind.{cell_of}
use Rattle.cell_types.specs.Rows.{value_at}
use Rattle.cell_types.specs.Value.{CellValue, null}
use Rattle.cell_types.specs.declared.kind.NumberKind.{NumberKind}
use Rattle.row_codes.specs.Kept.{IsKeptAs}

module _ (kind : NumberKind) (place : ℕ) (rows : List (List CellValue)) (cells : List CellValue) (kept : IsKeptAs kind place rows cells) where
  pub cell_is : (n : ℕ) → get_or cells n null ≡ cell_of kind (get_or (numbers_of cells) n None)
  cell_is n = ap (λ cs. get_or cs n null) (sym kept.typed) ∙ get_or-map_default (cell_of kind) (numbers_of cells) n None

  pub value_here : (n : ℕ) → value_at (get_or rows n []) place ≡ cell_of kind (get_or (numbers_of cells) n None)
  value_here n =
      let none : List CellValue = [] in
      sym (get_or-map_default (λ (row : List CellValue). get_or row place null) rows n none) ∙ ap (λ cs. get_or cs n null) (sym kept.column) ∙ cell_is n
