use Rattle.std.proofs.Common.{◌≡◌, length, ap, ◌∙◌, arith}
use Rattle.std.specs.Prelude.{◌&&◌, ◌==◌}
use Rattle.std.specs.Vec.{with_items}
use Rattle.std.proofs.lemmas.List.{length-set, with_items_is}
use Rattle.text_columns.specs.Buffer.{field_content, with_text_cell}
use Rattle.text_columns.specs.Texts.{text_unless_null}
use Rattle.text_columns.proofs.ReadLemmas.{free-of, read-put, view-put, written-length, written-of, IsWritten}
use Rattle.text_columns.proofs.buffer.TextBuffer.push_field.Goals as goal

pub index_mut-requires : goal.index_mut-requires
index_mut-requires c =
    let b = c.self.inside in
    let free = free-of b.nulls.items b.ends.items b.bytes.items b.len c.args.self.now c.self.view_is c.requires.room c.self.invariant.room in
    omega (arith, free, c.self.invariant.marks, b.nulls.ok.0)

pub index_mut-requires-2 : goal.index_mut-requires-2
index_mut-requires-2 c =
    let b = c.self.inside in
    let free = free-of b.nulls.items b.ends.items b.bytes.items b.len c.args.self.now c.self.view_is c.requires.room c.self.invariant.room in
    omega (arith, free, b.ends.ok.0)

pub invariant_of-self-2 : goal.invariant_of-self-2
invariant_of-self-2 c =
    let b = c.self.inside in
    let free = free-of b.nulls.items b.ends.items b.bytes.items b.len c.args.self.now c.self.view_is c.requires.room c.self.invariant.room in
    let said = field_content c.args.quoted c.args.text.now in
    let room = c.make_room.new.bytes in
    let new = c.copy_content-to.new.out in
    let now : (with_items room new).items ≡ new = with_items_is room new (omega (arith, c.copy_content-to.ensures.long, ap length c.as_mut_slice.ensures.value, room.ok.0)) in
    let written : IsWritten b.at c.copy_content-to.result b.bytes.items (with_items room new).items said =
    written-of b.at c.copy_content-to.result b.bytes.items room.items c.as_mut_slice.result.now new (with_items room new).items said c.self.invariant.within c.copy_content-to.ensures.end.0 c.in_ok-make_room.ensures.kept
    c.as_mut_slice.ensures.value now c.copy_content-to.ensures.copied in
    record {
      marks = omega (arith, c.self.invariant.marks, length-set b.nulls.items b.len c.is_null.result, length-set b.ends.items b.len c.copy_content-to.result);
      room = omega (arith, free, length-set b.ends.items b.len c.copy_content-to.result);
      within = omega (arith, ap length now, c.copy_content-to.ensures.long, c.copy_content-to.ensures.end.1);
      read = read-put b.at c.copy_content-to.result b.len b.ends.items b.bytes.items (with_items room new).items said free c.self.invariant.read written c.copy_content-to.ensures.utf8;
    }

pub returns-clause-more : goal.returns-clause-more
returns-clause-more c =
    let b = c.self.inside in
    let free = free-of b.nulls.items b.ends.items b.bytes.items b.len c.args.self.now c.self.view_is c.requires.room c.self.invariant.room in
    let said = field_content c.args.quoted c.args.text.now in
    let room = c.make_room.new.bytes in
    let new = c.copy_content-to.new.out in
    let now : (with_items room new).items ≡ new = with_items_is room new (omega (arith, c.copy_content-to.ensures.long, ap length c.as_mut_slice.ensures.value, room.ok.0)) in
    let written : IsWritten b.at c.copy_content-to.result b.bytes.items (with_items room new).items said =
    written-of b.at c.copy_content-to.result b.bytes.items room.items c.as_mut_slice.result.now new (with_items room new).items said c.self.invariant.within c.copy_content-to.ensures.end.0 c.in_ok-make_room.ensures.kept
    c.as_mut_slice.ensures.value now c.copy_content-to.ensures.copied in
    view-put b.at c.copy_content-to.result b.len b.nulls.items b.ends.items b.bytes.items (with_items room new).items said c.is_null.result c.args.self.now c.self.view_is free c.self.invariant.marks c.self.invariant.read written
    ∙ ap (λ flag. with_text_cell c.args.self.now (text_unless_null flag said))
    (c.is_null.ensures ∙ ap (λ n. c.args.empty_is_null && n == 0) (written-length b.at c.copy_content-to.result b.bytes.items (with_items room new).items said (omega (arith, ap length now, c.copy_content-to.ensures.long, c.copy_content-to.ensures.end.1)) written))
