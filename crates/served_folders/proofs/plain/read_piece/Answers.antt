use Rattle.std.proofs.Common.{◌≡◌, ◌≤◌, ◌+◌, ◌-◌, length, take, ◌∙◌, arith}
use Rattle.served_folders.proofs.DiskLemmas.{front_of_grown, over_by, read_over}
use Rattle.served_folders.proofs.plain.read_piece.Goals as goal

pub returns-clause-bytes : goal.returns-clause-bytes
returns-clause-bytes g c =
    let start : c.len-start.result ≡ length c.args.bytes.now.items = cc in
    let within : c.len-start.result + c.in_ok-count.count ≤ c.resize.new.self.len = grind (arith) in
    let front =
    front_of_grown c.args.bytes.now.items c.deref_mut.result.now _ c.len-start.result (c.len-start.result + c.min.result) start (omega arith) (c.deref_mut.ensures.value ∙ c.in_ok-resize.ensures.items) in
    record {
      piece = take c.in_ok-count.count c.read_once.new.room;
      appended =
          read_over c.args.bytes.now.items c.deref_mut.result.now c.read_once.new.room _ _ c.truncate.new.self.items c.len-start.result c.in_ok-count.count
          c.resize.new.self.len start front c.in_ok-count.ensures.most within c.truncate.ensures.items;
      consumed = c.in_ok-count.ensures.bytes;
      over = λ none. over_by (length c.deref_mut.result.now - c.len-start.result) _ _ (λ some. c.in_ok-count.ensures.end (grind (arith)) (grind (arith))) (λ room. grind (arith));
    }
