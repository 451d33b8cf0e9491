use Rattle.std.proofs.Common.{refl}
use Rattle.odata_listen.proofs.turns.charge.Goals as goal

pub returns : goal.returns
returns c = record {
  micros = c.args.micros;
  kept = record { hub = refl; slots = refl; stay = c.charge.ensures.stay };
  sockets = c.charge.ensures.sockets;
  work = c.charge-2.ensures;
}
