use Rattle.std.proofs.Common.{◌++◌, map, subst, sym}
use Rattle.cell_types.specs.Column.{column_view}
use Rattle.file_cells.specs.Reading.{IsWrongFile, LoadsWindow}
use Rattle.file_cells.proofs.ReadingLemmas.{loads_rest, rest_wrong}
use Rattle.file_cells.proofs.file_reading.FileReading.finish.Goals as goal

pub returns-clause-fault : goal.returns-clause-fault
returns-clause-fault c = λ given more reads none.
    let columns = map column_view c.args.columns.now in
    let loads = subst (λ rest. LoadsWindow columns reads.front rest c.args.self.loader) (sym c.unread.ensures) (loads_rest columns given c.args.self reads) in
    rest_wrong columns given more c.args.self c.in-Err.fault reads (none c.requires.ended)
    (subst (λ rest. IsWrongFile columns (reads.front ++ rest) c.in-Err.fault) c.unread.ensures (c.in-Err.ensures.fault reads.front loads))
