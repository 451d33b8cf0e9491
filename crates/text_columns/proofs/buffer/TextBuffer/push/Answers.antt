use Rattle.std.proofs.Common.{◌≡◌, ◌+◌, ◌++◌, false, length, take, subst, ap, arith}
use Rattle.std.specs.Vec.{with_items}
use Rattle.std.proofs.lemmas.List.{length-set, with_items_is}
use Rattle.text_columns.proofs.ReadLemmas.{free-of, read-put, view-put, written-of, IsWritten}
use Rattle.text_columns.proofs.buffer.TextBuffer.push.Goals as goal

pub index_mut-requires : goal.index_mut-requires
index_mut-requires c =
    let b = c.self.inside in
    let free = free-of b.nulls.items b.ends.items b.bytes.items b.len c.args.self.now c.self.view_is c.requires c.self.invariant.room in
    omega (arith, free, c.self.invariant.marks, b.nulls.ok.0)

pub index_mut-requires-2 : goal.index_mut-requires-2
index_mut-requires-2 c =
    let b = c.self.inside in
    let free = free-of b.nulls.items b.ends.items b.bytes.items b.len c.args.self.now c.self.view_is c.requires c.self.invariant.room in
    omega (arith, free, b.ends.ok.0)

pub invariant_of-self-2 : goal.invariant_of-self-2
invariant_of-self-2 c =
    let b = c.self.inside in
    let free = free-of b.nulls.items b.ends.items b.bytes.items b.len c.args.self.now c.self.view_is c.requires c.self.invariant.room in
    let room = c.make_room.new.bytes in
    let new = c.copy_text.new.out in
    let now : (with_items room new).items ≡ new = with_items_is room new (omega (arith, c.copy_text.ensures.long, ap length c.as_mut_slice.ensures.value, room.ok.0)) in
    let written : IsWritten b.at (c.self.inside.at + length c.args.text.now) b.bytes.items (with_items room new).items c.args.text.now =
    written-of b.at (c.self.inside.at + length c.args.text.now) b.bytes.items room.items c.as_mut_slice.result.now new (with_items room new).items c.args.text.now c.self.invariant.within (omega arith) c.in_ok-make_room.ensures.kept
    c.as_mut_slice.ensures.value now
    (subst (λ xs. take (b.at + length xs) new ≡ take b.at c.as_mut_slice.result.now ++ xs) c.as_bytes.ensures.value c.copy_text.ensures.copied) in
    record {
      marks = omega (arith, c.self.invariant.marks, length-set b.nulls.items b.len false, length-set b.ends.items b.len (c.self.inside.at + length c.args.text.now));
      room = omega (arith, free, length-set b.ends.items b.len (c.self.inside.at + length c.args.text.now));
      within = omega (arith, ap length now, c.copy_text.ensures.long, ap length c.as_mut_slice.ensures.value, c.in_ok-make_room.ensures.room);
      read = read-put b.at (c.self.inside.at + length c.args.text.now) b.len b.ends.items b.bytes.items (with_items room new).items c.args.text.now free c.self.invariant.read written c.utf8.text;
    }

pub returns-clause-more : goal.returns-clause-more
returns-clause-more c =
    let b = c.self.inside in
    let free = free-of b.nulls.items b.ends.items b.bytes.items b.len c.args.self.now c.self.view_is c.requires c.self.invariant.room in
    let room = c.make_room.new.bytes in
    let new = c.copy_text.new.out in
    let now : (with_items room new).items ≡ new = with_items_is room new (omega (arith, c.copy_text.ensures.long, ap length c.as_mut_slice.ensures.value, room.ok.0)) in
    let written : IsWritten b.at (c.self.inside.at + length c.args.text.now) b.bytes.items (with_items room new).items c.args.text.now =
    written-of b.at (c.self.inside.at + length c.args.text.now) b.bytes.items room.items c.as_mut_slice.result.now new (with_items room new).items c.args.text.now c.self.invariant.within (omega arith) c.in_ok-make_room.ensures.kept
    c.as_mut_slice.ensures.value now
    (subst (λ xs. take (b.at + length xs) new ≡ take b.at c.as_mut_slice.result.now ++ xs) c.as_bytes.ensures.value c.copy_text.ensures.copied) in
    view-put b.at (c.self.inside.at + length c.args.text.now) b.len b.nulls.items b.ends.items b.bytes.items (with_items room new).items c.args.text.now false c.args.self.now c.self.view_is free c.self.invariant.marks c.self.invariant.read written
