use Rattle.std.proofs.Common.{◌≡◌, ◌+◌, ◌-◌, ◌++◌, ◌≤◌, false, append_assoc, length, length-append, length-drop, ap, sym, ◌∙◌, arith}
use Rattle.file_cells.specs.Reading.{given_len, unread_of}
use Rattle.file_cells.proofs.ReadingLemmas.{given_is, left_fed, not_ended}
use Rattle.file_cells.proofs.file_reading.FileReading.feed.Goals as goal

pub returns-clause-reads : goal.returns-clause-reads
returns-clause-reads c columns given reads =
    let bytes = c.args.bytes.now in record {
      front = reads.front;
      is = ap (λ l. l ++ bytes) reads.is ∙ append_assoc reads.front (unread_of c.args.self) bytes
          ∙ ap (λ l. reads.front ++ l) (ap (λ l. l ++ bytes) (sym c.without_front-window.ensures) ∙ sym c.in_ok-extend_from_slice.ensures.items);
      read = reads.read;
      within = omega arith;
      short = omega (arith, c.requires.room, given_is columns given c.args.self reads, length-append given bytes);
      some = reads.some;
      size = reads.size;
    }

pub returns-clause-left : goal.returns-clause-left
returns-clause-left c =
    let bytes = c.args.bytes.now in
    let given = given_len c.args.self in
    let new : c.args.self.loader.front.len + (length c.extend_from_slice.new.self.items - 0) ≡ given + length bytes =
    omega (
      arith,
      ap length c.in_ok-extend_from_slice.ensures.items,
      length-append c.without_front-window.result.items bytes,
      ap length c.without_front-window.ensures,
      length-drop c.args.self.at c.args.self.window.items,
    ) in
    let goes_on : c.args.self.ended ≡ false = not_ended c.args.self c.requires.wants in
    rw goes_on (omega (arith, left_fed c.is_empty.result given (length bytes) c.is_empty.ensures c.requires.room, new))
