-- Items of an order that a sink keeps few rows by.
use Rattle.std.specs.Prelude.{Bool, List, not}
use Rattle.std.specs.List.{All, list_all}
use Rattle.cell_types.specs.Value.{CellValue}
use Rattle.typed_trees.specs.CanFault.{can_fault}
use Rattle.row_eval.specs.Bounds.{NumbersFit}
use Rattle.query_meaning.specs.Order.{Item}

-- none may divide by zero, on any row
abbrev pub none_can_fault : List Item → Bool
none_can_fault items = list_all (λ item. not (can_fault item.0)) items

-- each number that one computes on the rows fits
abbrev pub ItemsFit : List Item → List (List CellValue) → Type 0
ItemsFit items rows = All (λ row. All (λ item. NumbersFit item.0 row) items) rows
