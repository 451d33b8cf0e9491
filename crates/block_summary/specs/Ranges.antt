-- The least and the greatest cell of a column of a block, and how many of its cells are null.
pub use Rattle.cell_types.specs.Value.{is_null, IsTextCell}
use Rattle.std.specs.Prelude.{◌≡◌, ◌<◌, length, ℕ, ◌+◌, false, if◌then◌else◌, List, fold, map, Option, Some, None, IsTrue, MatchOption, slice_index_or}
use Rattle.std.specs.List.{count_by}
use Rattle.std.specs.Ordering.{is_gt, is_le, is_lt}
use Rattle.cell_types.specs.Value.{CellValue, null, value_cmp}

pub record RangeOf : Type 0 where
  pub least : Option CellValue
  pub greatest : Option CellValue
  pub null_count : ℕ

abbrev pub AreAllNull : List CellValue → Type 0
AreAllNull cells = (i : ℕ) → slice_index_or cells i null ≡ null

abbrev pub IsAtMost : CellValue → CellValue → Type 0
IsAtMost a b = IsTrue (is_le (value_cmp a b))

-- a cell that is no null, and that no such cell is below
pub record IsLeast (least : CellValue) (cells : List CellValue) : Type 0 where
  pub among : (i : ℕ) × (slice_index_or cells i null ≡ least)
  pub value : is_null least ≡ false
  pub below : (i : ℕ) → is_null (slice_index_or cells i null) ≡ false → IsAtMost least (slice_index_or cells i null)

-- a cell that is no null, and that no such cell is above
pub record IsGreatest (greatest : CellValue) (cells : List CellValue) : Type 0 where
  pub among : (i : ℕ) × (slice_index_or cells i null ≡ greatest)
  pub value : is_null greatest ≡ false
  pub above : (i : ℕ) → is_null (slice_index_or cells i null) ≡ false → IsAtMost (slice_index_or cells i null) greatest

-- there is a least and a greatest cell where some cell is no null
abbrev pub HasLeast : Option CellValue → List CellValue → Type 0
HasLeast bound cells = MatchOption bound (AreAllNull cells) (λ least. IsLeast least cells)

abbrev pub HasGreatest : Option CellValue → List CellValue → Type 0
HasGreatest bound cells = MatchOption bound (AreAllNull cells) (λ greatest. IsGreatest greatest cells)

-- the range of cells
pub record IsRangeOf (range : RangeOf) (cells : List CellValue) : Type 0 where
  pub least : HasLeast range.least cells
  pub greatest : HasGreatest range.greatest cells
  pub null_count : range.null_count ≡ count_by is_null cells

-- the range of no cells
abbrev pub no_range : RangeOf
no_range = record { least = None; greatest = None; null_count = 0 }

-- the cells of a column of rows
abbrev pub column_of : List (List CellValue) → ℕ → List CellValue
column_of rows col = map (λ row. slice_index_or row col null) rows

-- the ranges of the columns of rows
abbrev pub AreRangesOf : List RangeOf → List (List CellValue) → Type 0
AreRangesOf ranges rows = (col : ℕ) → col < length ranges → IsRangeOf (slice_index_or ranges col no_range) (column_of rows col)

-- a value where there is one, and else the older one
abbrev pub taken : Option CellValue → Option CellValue → Option CellValue
taken old None = old
taken old (Some v) = Some v

-- the lesser of the least so far and a value, and the greater of the greatest
abbrev pub lesser : Option CellValue → CellValue → CellValue
lesser None v = v
lesser (Some least) v = if is_gt (value_cmp least v) then v else least

abbrev pub greater : Option CellValue → CellValue → CellValue
greater None v = v
greater (Some greatest) v = if is_lt (value_cmp greatest v) then v else greatest

-- the range with one more cell
abbrev pub widened : RangeOf → CellValue → RangeOf
widened range v =
    if is_null v then record range { null_count = range.null_count + 1 }
    else record range { least = Some (lesser range.least v); greatest = Some (greater range.greatest v) }

-- the range of cells: that of none, with one cell more for each
abbrev pub range_of : List CellValue → RangeOf
range_of cells = fold widened no_range cells

-- the lesser of two leasts, and the greater of two greatests, of which either may be missing
abbrev pub lesser_of : Option CellValue → Option CellValue → Option CellValue
lesser_of bound None = bound
lesser_of bound (Some v) = Some (lesser bound v)

abbrev pub greater_of : Option CellValue → Option CellValue → Option CellValue
greater_of bound None = bound
greater_of bound (Some v) = Some (greater bound v)

-- the range of cells of one range and of cells of another
abbrev pub joined_range : RangeOf → RangeOf → RangeOf
joined_range a b = record { least = lesser_of a.least b.least; greatest = greater_of a.greatest b.greatest; null_count = a.null_count + b.null_count }
