-- The field begins after the place of the one before it.
use Rattle.std.proofs.Common.{◌≡◌, ◌-◌, ◌^◌, Some, arith, sym}
use Rattle.std.specs.List.{slice_get}
use Rattle.csv_index.specs.Structure.{ends_of}
use Rattle.csv_index.proofs.CellLemmas.{start_next}
use Rattle.csv_index.proofs.FindLemmas.{rise_at}
use Rattle.csv_index.proofs.index.Index.start_of.Goals as goal

pub overflow_add-result : goal.overflow_add-result
overflow_add-result c =
    let there : slice_get (ends_of c.self.inside.start c.self.inside.blocks.masks.items c.self.inside.last) (c.args.n - 1) ≡ Some c.end_of.result = rw (← c.self.view_is) at c.end_of.ensures in
    omega (arith, (rise_at c.self.inside.start (2 ^ 63) (ends_of c.self.inside.start c.self.inside.blocks.masks.items c.self.inside.last) (c.args.n - 1) c.end_of.result c.self.invariant.rise there).1)

pub returns-else-n-eq0 : goal.returns-else-n-eq0
returns-else-n-eq0 c = sym (start_next c.args.self.now.start c.args.self.now.ends (c.args.n - 1) c.args.n c.end_of.result (omega arith) c.end_of.ensures)
