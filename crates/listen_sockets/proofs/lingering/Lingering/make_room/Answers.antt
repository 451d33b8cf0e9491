use Rattle.std.proofs.Common.{◌≡◌, true, false, sym, ◌∙◌}
use Rattle.listen_sockets.proofs.lingering.Lingering.make_room.Goals as goal

pub returns-clause-held : goal.returns-clause-held
returns-clause-held c = record {
  count = c.loop-at.invariant.count;
  free = λ free. let both : true ≡ false = sym free ∙ sym c.has_free.ensures ∙ c.if-has_free.false in cc;
  each = c.loop-at.invariant.each;
}
