-- Crates above may cite this file: laws of all rows, and of the kinds of all columns, by their numbers.
use Rattle.std.proofs.Common.{◌≡◌, ◌<◌, ℕ, List, [], length, arith}
use Rattle.std.specs.List.{All}
use Rattle.std.proofs.lemmas.List.Elements.{All-from_recursion}
use Rattle.cell_types.specs.Value.{CellValue}
use Rattle.row_columns.specs.Kinds.{any, KindOf}
use Rattle.row_columns.specs.Numbers.{numbers_from}
use Rattle.row_columns.specs.Picked.{kinds_at, numbered}
use Rattle.row_columns.proofs.NumberLemmas.{all_from}
use Rattle.row_columns.proofs.RowLemmas.{map_from}

pub kinds_whole : (kinds : List KindOf) → kinds_at (numbers_from 0 (length kinds)) kinds ≡ kinds
kinds_whole kinds = let none : List KindOf = [] in map_from none kinds any

pub all_numbered : (rows : List (List CellValue)) → numbered (numbers_from 0 (length rows)) rows ≡ rows
all_numbered rows = let none : List (List CellValue) = [] in map_from none rows []

pub all_within : (count : ℕ) → All (λ n. n < count) (numbers_from 0 count)
all_within count = All-from_recursion (λ n. n < count) (numbers_from 0 count) (all_from 0 count count (omega arith))
