-- The dates of the rows of a table.
use Rattle.std.proofs.Common.{inl, inr, ℕ, zero, suc, List, [], ◌∷◌, get_or, length}
use Rattle.std.specs.Prelude.{IfSome}
use Rattle.std.specs.List.{All}
use Rattle.std.proofs.lemmas.Bool.{cases_lt}
use Rattle.std.proofs.lemmas.List.{get_or_past}
use Rattle.cell_types.specs.Value.{CellValue, date}
use Rattle.cell_types.specs.declared.kind.ColumnKind.{ColumnKind}
use Rattle.cell_types.specs.declared.kind.ColumnKind.TheVariants.{Number}
use Rattle.cell_types.specs.declared.kind.NumberKind.TheVariants.{Date}
use Rattle.odata_types.specs.Columns.{InputOf}
use Rattle.odata_types.specs.Input.{IsOfKind, IsRowOf}
use Rattle.odata_types.specs.Laws.{TablesAreInputs}
use Rattle.row_eval.specs.Laws.{IsCalendarDay}
use Rattle.row_eval.specs.Row.{day_in}
use Rattle.table_store.specs.Fits.{HasTableRows}
use Rattle.table_store.specs.Table.{TableOf}
use Rattle.sort_rows.specs.Cutoffs.{HasCalendarDays}

value_day : (kind : ColumnKind) (size : ℕ) (v : CellValue) → IsOfKind kind size v → IfSome (day_in v) IsCalendarDay
value_day (Number Date) size (date y m d) is = (is.1, is.2)
value_day kind size (date y m d) is = absurd is
value_day kind size v is = tt

row_days : (columns : List InputOf) (row : List CellValue) → IsRowOf columns row → HasCalendarDays row
row_days [] [] is place = tt
row_days (c ∷ cs) (v ∷ vs) is zero = value_day c.column_type.kind c.column_type.size v is.0
row_days (c ∷ cs) (v ∷ vs) is (suc place) = row_days cs vs is.1 place
row_days cs vs is place = absurd is

-- they are days of the calendar
pub table_days : TablesAreInputs → (table : TableOf) → HasTableRows table → All HasCalendarDays table.rows
table_days law table rows = λ k d h. row_days _ (get_or table.rows k d) (law.rows table.schema (get_or table.rows k d) (rows.each k d h))

-- and a row that there is not has none
pub days_at : (rows : List (List CellValue)) → All HasCalendarDays rows → (n : ℕ) → HasCalendarDays (get_or rows n [])
days_at rows days n = elim (cases_lt n (length rows)) [
  | inl less ↦ days n [] less
  | inr more ↦ rw (get_or_past rows n [] more) (λ place. tt)
]
