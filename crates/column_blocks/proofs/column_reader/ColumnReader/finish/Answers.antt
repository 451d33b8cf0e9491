use Rattle.std.proofs.Common.{◌≡◌, List, sym, subst, ap, ◌∙◌}
use Rattle.block_summary.specs.declared.block.TheConstants.{BLOCK_ROWS}
use Rattle.cell_types.specs.declared.kind.ColumnKind.TheVariants.{Text, Number}
use Rattle.cell_types.specs.declared.kind.NumberKind.{NumberKind}
use Rattle.cell_types.specs.Value.{CellValue}
use Rattle.column_blocks.specs.ColumnReader.{cells_read, reader_view}
use Rattle.column_blocks.specs.Readers.{NumberReaderOf, TextReaderOf}
use Rattle.column_blocks.specs.TypedColumn.{cells_in, cells_of_each, AreBlocks, HaveKind}
use Rattle.column_blocks.specs.declared.column_reader.Cells.{Cells}
use Rattle.column_blocks.proofs.BlockLemmas.{cells_of_blocks, cells_with, of_type_of_blocks}
use Rattle.column_blocks.proofs.column_reader.ColumnReader.finish.Goals as goal

pub invariant_of-result : goal.invariant_of-result
invariant_of-result c =
    let kind = Number c.kind-kind.result in
    let columns : List (List CellValue) = c.in_ok-finish-in-Numbers.field-0.items in
    let cells = ap cells_of_each c.in_ok-blocks-in-Numbers.ensures ∙ cells_of_blocks kind columns in (
      subst (AreBlocks BLOCK_ROWS) (sym cells) c.in_ok-finish-in-Numbers.ensures.blocks,
      subst (HaveKind kind) (sym c.in_ok-blocks-in-Numbers.ensures) (of_type_of_blocks kind columns),
    )

pub invariant_of-result-in-Texts : goal.invariant_of-result-in-Texts
invariant_of-result-in-Texts c =
    let columns : List (List CellValue) = c.in_ok-finish-in-Texts.field-0.items in
    let cells = ap cells_of_each c.in_ok-blocks-in-Texts.ensures ∙ cells_of_blocks Text columns in (
      subst (AreBlocks BLOCK_ROWS) (sym cells) c.in_ok-finish-in-Texts.ensures.blocks,
      subst (HaveKind Text) (sym c.in_ok-blocks-in-Texts.ensures) (of_type_of_blocks Text columns),
    )

pub returns-in_ok-blocks-in-Numbers : goal.returns-in_ok-blocks-in-Numbers
returns-in_ok-blocks-in-Numbers c =
    let kind = Number c.kind-kind.result in
    let columns : List (List CellValue) = c.in_ok-finish-in-Numbers.field-0.items in
    let reader = c.in-Numbers.reader in
    let cells : cells_in (cells_of_each c.in_ok-blocks-in-Numbers.blocks.items) ≡ reader.cells =
    ap cells_in (ap cells_of_each c.in_ok-blocks-in-Numbers.ensures ∙ cells_of_blocks kind columns) ∙ c.in_ok-finish-in-Numbers.ensures.cells ∙ ap (λ (r : NumberReaderOf). r.cells) c.in-Numbers.reader-is in
    let of : c.kind-kind.result ≡ reader.kind = cc (c.kind-kind.ensures, c.in-Numbers.reader-is) in
    ap (cells_with kind) cells
    ∙ ap (λ (t : NumberKind). cells_with (Number t) reader.cells) of
    ∙ ap (λ (k : Cells). cells_read (reader_view k)) (sym c.in-Numbers.is) ∙ ap cells_read c.self.view_is

pub returns-in_ok-blocks-in-Texts : goal.returns-in_ok-blocks-in-Texts
returns-in_ok-blocks-in-Texts c =
    let columns : List (List CellValue) = c.in_ok-finish-in-Texts.field-0.items in
    let reader = c.in-Texts.reader in
    let cells : cells_in (cells_of_each c.in_ok-blocks-in-Texts.blocks.items) ≡ reader.cells =
    ap cells_in (ap cells_of_each c.in_ok-blocks-in-Texts.ensures ∙ cells_of_blocks Text columns) ∙ c.in_ok-finish-in-Texts.ensures.cells ∙ ap (λ (r : TextReaderOf). r.cells) c.in-Texts.reader-is in
    ap (cells_with Text) cells ∙ ap (λ (k : Cells). cells_read (reader_view k)) (sym c.in-Texts.is) ∙ ap cells_read c.self.view_is
