-- The blocks that the tests of a plan admit, by the summaries of a table.
use Rattle.std.specs.Prelude.{ℕ, Bool, List, [], None, filter, length, slice_index_or}
use Rattle.std.specs.List.{list_all, range_with_len}
use Rattle.block_summary.specs.Ranges.{RangeOf}
use Rattle.block_summary.specs.Tests.{admits}
use Rattle.query_plan.specs.Scan.{TestOf}

-- the range of a column of one null, which admits the same tests as that of any number of them
abbrev pub null_range : RangeOf
null_range = record { least = None; greatest = None; null_count = 1 }

-- the ranges of the columns of a block admit a test; each cell of a column that is not there is null
abbrev pub range_admits : List RangeOf → TestOf → Bool
range_admits ranges t = admits t.op (slice_index_or ranges t.column null_range) t.literal

-- and all tests
abbrev pub ranges_admit : List TestOf → List RangeOf → Bool
ranges_admit tests ranges = list_all (range_admits ranges) tests

-- the numbers of the summaries that admit all tests
abbrev pub admitted_numbers : List TestOf → List (List RangeOf) → List ℕ
admitted_numbers tests summaries = filter (λ n. ranges_admit tests (slice_index_or summaries n [])) (range_with_len 0 (length summaries))
