use Rattle.std.proofs.Common.{refl}
use Rattle.csv_index.proofs.ReadingLemmas.{none_read}
use Rattle.csv_index.proofs.reading.Reading.start.Goals as goal

pub returns : goal.returns
returns c =
    let room = c.in_ok-with_room.ensures in
    none_read c.one_structure.ensures c.what_follows.ensures c.args.text.now _ room.count room.none c.start.ensures c.new.ensures refl room.ranked room.room
