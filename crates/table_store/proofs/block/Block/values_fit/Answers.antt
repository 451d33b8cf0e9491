use Rattle.std.proofs.Common.{ℕ, arith, drop, subst}
use Rattle.std.proofs.lemmas.List.{length-drop, length-take}
use Rattle.std.proofs.lemmas.List.Elements.{All-drop, All-take}
use Rattle.table_store.specs.Block.{part}
use Rattle.table_store.specs.Fits.{HasTableRows, IsTableRow}
use Rattle.table_store.specs.Table.{TableOf}
use Rattle.table_store.proofs.block.Block.values_fit.Goals as goal

part-rows : (table : TableOf) (first rows : ℕ) → HasTableRows table → HasTableRows (part table first rows)
part-rows table first rows fit =
    let fits = IsTableRow table.schema.columns in record {
      each = All-take fits rows (drop first table.rows) (All-drop fits first table.rows fit.each);
      count = omega (arith, fit.count, length-take rows (drop first table.rows), length-drop first table.rows);
    }

pub returns : goal.returns
returns c =
    let block = c.self.inside in
    subst HasTableRows c.self.view_is (part-rows block.table.now block.first block.rows c.values_fit.ensures)
