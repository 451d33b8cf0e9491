use Rattle.std.proofs.Common.{◌≡◌, List, Option, Bor, IfSome, subst, sym, ◌∙◌}
use Rattle.cell_types.specs.Value.{CellValue}
use Rattle.row_columns.proofs.BlockLemmas.{part_from}
use Rattle.row_columns.proofs.PackedLemmas.{packed_are}
use Rattle.row_columns.proofs.PieceLemmas.{text_cells}
use Rattle.row_columns.proofs.block_rows.ColumnPart.kept.Goals as goal

pub returns-in-Some : goal.returns-in-Some
returns-in-Some c =
    let part = c.self.inside in
    let column = part.cells.now in
    part_from column.cells c.args.self.now c.in-Some.numbers.now part.first part.len
    (subst (λ (p : Option (Bor (List CellValue))). IfSome p (λ p. p.now ≡ column.cells)) c.in-Some.is (packed_are c.packed.result column.kind column.cells c.packed.ensures)) c.self.view_is c.self.invariant

pub returns : goal.returns
returns c =
    let part = c.self.inside in
    let column = part.cells.now in
    part_from column.cells c.args.self.now c.in-Some-texts.texts part.first part.len
    (text_cells column.kind column.cells c.in-Some-texts.texts (sym c.texts.ensures ∙ c.in-Some-texts.is)) c.self.view_is c.self.invariant
