-- No column so far has the name, so those left decide.
use Rattle.std.proofs.Common.{◌≡◌, ◌+◌, drop}
use Rattle.odata_types.specs.Columns.{inputs_view}
use Rattle.odata_types.specs.Typing.{place_of}
use Rattle.odata_types.proofs.column.place_of.Given as goal

abbrev pub invariant-loop-i : goal.invariant-loop-i
invariant-loop-i l = place_of (inputs_view l.columns) l.name ≡ l.i + place_of (inputs_view (drop l.i l.columns)) l.name
