use Rattle.std.proofs.Common.{◌≡◌, [], get_or, take}
use Rattle.row_eval.specs.Row.{row_view}
use Rattle.odata_http.proofs.key_lookup.row_values.Given as goal

-- the values up to there
abbrev pub invariant-loop-col : goal.invariant-loop-col
invariant-loop-col l = row_view l.values.items ≡ take l.col (get_or l.table.rows l.row [])
