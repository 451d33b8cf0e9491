use Rattle.std.proofs.Common.{◌≡◌, ◌++◌, List, length}
use Rattle.std.specs.List.{filter_map}
use Rattle.cell_types.specs.Value.{CellValue}
use Rattle.row_columns.specs.Picked.{numbered}
use Rattle.aggregate_rows.specs.Distinct.{distinct_place}
use Rattle.aggregate_rows.specs.Table.{cut_values, results_of, IsPartPut}
use Rattle.aggregate_rows.specs.Tallies.{HasResults, HasSet}
use Rattle.aggregate_rows.proofs.ListLemmas.{ZipFrom}
use Rattle.aggregate_rows.proofs.ResultLemmas.{sets_before, IsOf}
use Rattle.aggregate_rows.proofs.results.join_each.Given as goal

-- the rows joined the first results, and the sets of these
abbrev pub invariant-loop-i : goal.invariant-loop-i
invariant-loop-i l = record {
  set : l.set ≡ sets_before l.i l.rows.aggregates.now;
  put : IsPartPut l.from (length l.rows.aggregates.now) l.initial.values l.values;
  sets_long : length l.sets ≡ length l.initial.sets;
  results : (rows : List (List CellValue)) → HasResults l.rows.aggregates.now rows (results_of (cut_values l.from (length l.rows.aggregates.now) l.initial.values) l.initial.sets)
      → ZipFrom (IsOf (rows ++ numbered l.rows.numbers.now l.rows.columns.now.rows)) (IsOf rows) l.i l.rows.aggregates.now (cut_values l.from (length l.rows.aggregates.now) l.values);
  sets : (rows : List (List CellValue)) → HasResults l.rows.aggregates.now rows (results_of (cut_values l.from (length l.rows.aggregates.now) l.initial.values) l.initial.sets)
      → ZipFrom (HasSet (rows ++ numbered l.rows.numbers.now l.rows.columns.now.rows)) (HasSet rows) l.set (filter_map distinct_place l.rows.aggregates.now) l.sets;
}
