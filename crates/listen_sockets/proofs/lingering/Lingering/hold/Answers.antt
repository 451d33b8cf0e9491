use Rattle.std.proofs.Common.{arith, refl}
use Rattle.listen_sockets.proofs.LingeringLemmas.{set-beyond}
use Rattle.listen_sockets.proofs.lingering.Lingering.hold.Goals as goal

pub returns-then-at-len-clause-held : goal.returns-then-at-len-clause-held
returns-then-at-len-clause-held c = record {
  left = c.make_room.new.self.held.items;
  room = c.make_room.ensures.held;
  at = c.next_at-at.result;
  place = c.next_at-at.ensures;
  held = refl;
}

pub returns-else-at-len-clause-held : goal.returns-else-at-len-clause-held
returns-else-at-len-clause-held c = record {
  left = c.make_room.new.self.held.items;
  room = c.make_room.ensures.held;
  at = c.next_at-at.result;
  place = c.next_at-at.ensures;
  held = set-beyond c.make_room.new.self.held.items c.next_at-at.result _ (omega (arith, c.if-at-len.false));
}
