use Rattle.std.proofs.Common.{◌≡◌, map, take, refl, ap}
use Rattle.cell_types.specs.Column.{column_view}
use Rattle.file_cells.specs.Reading.{unread_of}
use Rattle.file_cells.proofs.ReadingLemmas.{loads_window, window_read, window_wrong}
use Rattle.file_cells.proofs.file_reading.FileReading.read_window.Goals as goal

pub returns-in-Ok-clause-goes_on : goal.returns-in-Ok-clause-goes_on
returns-in-Ok-clause-goes_on c = λ given reads.
    let columns = map column_view c.args.columns.now in
    let size = c.args.self.size in
    let window = take size c.unread.result.now in
    let is : window ≡ take size (unread_of c.args.self) = ap (take size) c.unread.ensures in
    let lines = c.in-Ok.ensures.goes_on reads.front (loads_window columns given window c.args.self size reads is) in
    window_read columns given window c.args.self _ reads lines is c.requires.room refl refl refl c.size_after.ensures.longer c.size_after.ensures.same

pub returns-in-Err-clause-fault : goal.returns-in-Err-clause-fault
returns-in-Err-clause-fault c = λ given more reads none.
    let columns = map column_view c.args.columns.now in
    let size = c.args.self.size in
    let window = take size c.unread.result.now in
    let is : window ≡ take size (unread_of c.args.self) = ap (take size) c.unread.ensures in
    window_wrong columns given more window c.args.self size c.in-Err.fault reads is
    (λ after. c.in-Err.ensures.fault reads.front after (loads_window columns given window c.args.self size reads is))
