use Rattle.std.proofs.Common.{◌≡◌, map, take, string_bytes}
use Rattle.result_rows.proofs.names.names_of.Given as goal

-- the names so far are those of the first columns
abbrev pub invariant-loop-column : goal.invariant-loop-column
invariant-loop-column l = map string_bytes l.names.items ≡ map (λ column. string_bytes column.name) (take l.column-index l.columns)
