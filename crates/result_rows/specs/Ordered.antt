-- What rows that are taken one after another hold inside.
use Rattle.std.specs.Prelude.{◌≡◌, ℕ, List, Option, Some, None, drop}
use Rattle.std.specs.List.Sorted.{IsPermutation}
use Rattle.cell_types.specs.Value.{CellValue}
use Rattle.odata_query.specs.Query.{optional_numbers}
use Rattle.sort_rows.specs.Runs.{all_sorted, left_rows, AreSortedRows}
use Rattle.sort_rows.specs.declared.streams.SortedRows.{SortedRows}
use Rattle.result_rows.specs.declared.ordered.OrderedRows.TheInside.{Inside}
use Rattle.result_rows.specs.declared.ordered.Shown.{Shown}
use Rattle.result_rows.specs.Rows.{OrderedOf, RowsOf}
use Rattle.result_rows.specs.Selected.{selected_rows}

abbrev pub rows_in_order : Option SortedRows → List (List CellValue) → List (List CellValue)
rows_in_order None rows = rows
rows_in_order (Some order) rows = all_sorted order rows

-- what is shown of rows, and the places of its columns
abbrev pub shown_rows : RowsOf → Option Shown → RowsOf
shown_rows rows None = rows
shown_rows rows (Some shown) = shown.rows

abbrev pub places_shown : Option Shown → Option (List ℕ)
places_shown None = None
places_shown (Some shown) = optional_numbers shown.places

abbrev pub ordered_view : Inside → OrderedOf
ordered_view inside = record {
  stored = shown_rows inside.rows inside.shown;
  rows = record {
    names = (shown_rows inside.rows inside.shown).names;
    rows = selected_rows (places_shown inside.shown) (rows_in_order inside.order inside.rows.rows);
    count = (shown_rows inside.rows inside.shown).count;
  };
  taken = inside.taken;
}

-- what puts rows in order has those left that were not taken
abbrev pub HasLeft : Option SortedRows → List (List CellValue) → ℕ → Type 0
HasLeft None rows taken = Unit {0}
HasLeft (Some order) rows taken = AreSortedRows order rows × (left_rows order rows ≡ drop taken (all_sorted order rows)) × IsPermutation rows (all_sorted order rows)

pub record AreOrdered (inside : Inside) : Type 0 where
  pub left : HasLeft inside.order inside.rows.rows inside.taken
  pub shown : (shown_rows inside.rows inside.shown).rows ≡ selected_rows (places_shown inside.shown) inside.rows.rows
