use Rattle.std.proofs.Common.{subst, refl}
use Rattle.file_cells.specs.Cells.{HasTableCells}
use Rattle.file_cells.proofs.CellLemmas.{file_read}
use Rattle.file_cells.proofs.loader.columns_of.Goals as goal

pub returns-in_ok-columns-in-Read-clause-reads : goal.returns-in_ok-columns-in-Read-clause-reads
returns-in_ok-columns-in-Read-clause-reads c columns file has =
    let read = subst (λ k. HasTableCells columns has.raw k) c.in-Read.is has.has in
    file_read columns file c.args.rows has.raw c.in-Read.readers.items _ has.is has.count read c.in_ok-columns-in-Read.ensures refl
