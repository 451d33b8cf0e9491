use Rattle.std.proofs.Common.{true, [], take, sym, arith}
use Rattle.std.proofs.lemmas.List.{append-nil, length-set}
use Rattle.std.proofs.lemmas.Str.{IsUtf8-nil}
use Rattle.text_columns.proofs.ReadLemmas.{free-of, read-put, view-put, IsWritten}
use Rattle.text_columns.proofs.buffer.TextBuffer.push_null.Goals as goal

pub index_mut-requires : goal.index_mut-requires
index_mut-requires c =
    let b = c.self.inside in
    let free = free-of b.nulls.items b.ends.items b.bytes.items b.len c.args.self.now c.self.view_is c.requires c.self.invariant.room in
    omega (arith, free, c.self.invariant.marks, b.nulls.ok.0)

pub index_mut-requires-2 : goal.index_mut-requires-2
index_mut-requires-2 c =
    let b = c.self.inside in
    let free = free-of b.nulls.items b.ends.items b.bytes.items b.len c.args.self.now c.self.view_is c.requires c.self.invariant.room in
    omega (arith, free, b.ends.ok.0)

pub invariant_of-self : goal.invariant_of-self
invariant_of-self c =
    let b = c.self.inside in
    let free = free-of b.nulls.items b.ends.items b.bytes.items b.len c.args.self.now c.self.view_is c.requires c.self.invariant.room in
    let written : IsWritten b.at b.at b.bytes.items b.bytes.items [] = record { order = omega arith; within = c.self.invariant.within; front = sym (append-nil (take b.at b.bytes.items)) } in
    record {
      marks = omega (arith, c.self.invariant.marks, length-set b.nulls.items b.len true, length-set b.ends.items b.len b.at);
      room = omega (arith, free, length-set b.ends.items b.len b.at);
      within = c.self.invariant.within;
      read = read-put b.at b.at b.len b.ends.items b.bytes.items b.bytes.items [] free c.self.invariant.read written IsUtf8-nil;
    }

pub returns : goal.returns
returns c =
    let b = c.self.inside in
    let free = free-of b.nulls.items b.ends.items b.bytes.items b.len c.args.self.now c.self.view_is c.requires c.self.invariant.room in
    let written : IsWritten b.at b.at b.bytes.items b.bytes.items [] = record { order = omega arith; within = c.self.invariant.within; front = sym (append-nil (take b.at b.bytes.items)) } in
    view-put b.at b.at b.len b.nulls.items b.ends.items b.bytes.items b.bytes.items [] true c.args.self.now c.self.view_is free c.self.invariant.marks c.self.invariant.read written
