-- The rows of a block that pass conditions (OData 4.01 URL Conventions, section 5.1.2).
use Rattle.std.specs.Prelude.{◌≡◌, ◌<◌, ◌&&◌, [], ℕ, Bool, false, Option, Some, None, List, count_by, if◌then◌else◌, length, option_map, slice_index_or}
use Rattle.std.specs.List.{All, list_any}
use Rattle.cell_types.specs.Value.{CellValue}
use Rattle.typed_trees.specs.TypedTree.{TruthExprOf}
use Rattle.row_columns.specs.Picked.{numbered}
use Rattle.query_meaning.specs.Meaning.{first_rows}
use Rattle.query_meaning.specs.Filter.{faults, passes, passes_each}
use Rattle.block_filter.specs.declared.block.Passed.{Passed}
use Rattle.block_filter.specs.declared.passing.Narrowed.{Narrowed}
use Rattle.block_filter.specs.Conditions.{passing_all}
use Rattle.block_filter.specs.Marks.{marked}

-- rows, unless a condition divided by zero
abbrev pub unless_faulted : Bool → List (List CellValue) → Option (List (List CellValue))
unless_faulted faulted rows = if faulted then None else Some rows

-- Of the rows on which all conditions are true, the first ones, `most` if that is given, and how many there are; and whether one of the
-- conditions, in turn, divides by zero on a row.
pub record ArePassing (es : List TruthExprOf) (most : Option ℕ) (rows : List (List CellValue)) (found : Passed) : Type 0 where
  pub passed : option_map (first_rows most) (passing_all es rows) ≡ unless_faulted found.faulted (numbered found.rows rows)
  pub within : All (λ n. n < length rows) found.rows
  pub count : found.count ≡ count_by (passes_each es) rows

-- ---- inside

-- of the rows that were wanted those are wanted on which a condition is true; it divides by zero on one of them, or on none
pub record Narrows (e : TruthExprOf) (rows : List (List CellValue)) (was now : List Bool) (faulted : Bool) : Type 0 where
  pub each : (row : ℕ) → row < length rows → slice_index_or now row false ≡ (slice_index_or was row false && passes e (slice_index_or rows row []))
  pub faulted_is : faulted ≡ list_any (faults e) (marked was rows)

-- the rows on which all conditions are true are wanted, and they are as many as pass each; one of the conditions divides by zero in turn, or none
pub record IsNarrowedBy (es : List TruthExprOf) (rows : List (List CellValue)) (left : Narrowed) : Type 0 where
  pub long : length left.wanted.items ≡ length rows
  pub passed : passing_all es rows ≡ unless_faulted left.faulted (marked left.wanted.items rows)
  pub count : count_by (passes_each es) rows ≡ length (marked left.wanted.items rows)
