use Rattle.std.proofs.Common.{List, Vec, Global, length, sym, subst, ap, ◌∙◌, arith}
use Rattle.block_summary.specs.declared.block.TheConstants.{BLOCK_ROWS}
use Rattle.cell_types.specs.Value.{CellValue}
use Rattle.column_blocks.specs.TypedColumn.{AreBlocks}
use Rattle.column_blocks.proofs.TypedColumnLemmas.{full_blocks, last_block}
use Rattle.column_blocks.proofs.text_reader.TextReader.finish.Goals.{then-len-gt0+in_ok-pack+in_ok-push, else-len-gt0}
use Rattle.column_blocks.proofs.text_reader.TextReader.finish.Goals as goal

pub returns-clause-blocks : goal.returns-clause-blocks
returns-clause-blocks c =
    let full = c.self.invariant.0 in
    elim c.if-len-gt0.branch [
      | then-len-gt0+in_ok-pack+in_ok-push w ↦
          let packed = w.in_ok-pack.field-0 in
          let size = ap length w.in_ok-pack.ensures.block in
          let items = ap (λ (b : Vec (List CellValue) Global). b.items) w.blocks-is ∙ w.in_ok-push.ensures.items in
          subst (AreBlocks BLOCK_ROWS) (sym items)
          (last_block BLOCK_ROWS c.self.inside.blocks.items packed full (omega (arith, size, c.len.ensures, w.if-len-gt0.true)) (omega (arith, size, c.self.invariant.2)))
      | else-len-gt0 w ↦
          let items = ap (λ (b : Vec (List CellValue) Global). b.items) w.blocks-is in
          subst (AreBlocks BLOCK_ROWS) (sym items) (full_blocks BLOCK_ROWS c.self.inside.blocks.items (omega arith) full)
    ]
