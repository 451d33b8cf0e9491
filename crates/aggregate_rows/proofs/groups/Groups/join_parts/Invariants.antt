use Rattle.std.proofs.Common.{◌≡◌, ◌++◌, List, length}
use Rattle.cell_types.specs.Value.{CellValue}
use Rattle.aggregate_rows.specs.Gathered.{keys_held}
use Rattle.aggregate_rows.specs.Parts.{ArePartRows, HaveJoined}
use Rattle.aggregate_rows.specs.Tallies.{HasResults}
use Rattle.aggregate_rows.proofs.ListLemmas.{ZipFrom}
use Rattle.aggregate_rows.proofs.groups.Groups.join_parts.Given as goal

-- the parts of the first groups joined
abbrev pub invariant-loop-part : goal.invariant-loop-part
invariant-loop-part l = record {
  turn : l.place ≡ length l.yielded;
  shape : l.self.shape ≡ l.initial.self.shape;
  keys : keys_held l.self ≡ keys_held l.initial.self;
  joined : (keys : List (List CellValue)) (before more : List CellValue → List (List CellValue)) → HaveJoined l.aggregates before keys l.initial.self → ArePartRows l.columns.rows more keys l.fn.parts.items
      → ZipFrom (λ key group. HasResults l.aggregates (before key ++ more key) group) (λ key group. HasResults l.aggregates (before key) group) l.place keys l.self.groups;
}
