use Rattle.std.proofs.Common.{◌≡◌, None, Some, sym, ap, ◌∙◌}
use Rattle.std.specs.Option.{option_copied}
use Rattle.block_summary.specs.Ranges.{column_of}
use Rattle.table_store.proofs.block.Block.numbers.Goals.{In-Some}
use Rattle.table_store.proofs.block.Block.numbers.Goals as goal

-- the cells are those of the column
cells : (c : In-Some) → c.in-Some.column.now ≡ column_of c.args.self.now.rows c.args.col
cells c =
    let both : Some c.in-Some.column.now ≡ Some (column_of c.args.self.now.rows c.args.col) =
    ap option_copied (sym c.in-Some.is) ∙ c.packed.ensures ∙ c.requires.numbers in
    cc

pub unreachable-requires : goal.unreachable-requires
unreachable-requires c =
    let both : None ≡ Some (column_of c.args.self.now.rows c.args.col) = ap option_copied (sym c.in_default.is) ∙ c.packed.ensures ∙ c.requires.numbers in
    cc
