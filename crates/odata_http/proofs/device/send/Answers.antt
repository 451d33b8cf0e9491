use Rattle.std.proofs.Common.{rules, arith, ◌≡◌, ◌-◌, length, take, drop, length-drop}
use Rattle.std.proofs.lemmas.List.{take_all}
use Rattle.std.proofs.Math.Seq.{take-add}
use Rattle.std.proofs.KnownBytes.{Appends-trans}
use Rattle.odata_http.proofs.device.send.Goals as goal

pub loop-at-preserved : goal.loop-at-preserved
loop-at-preserved g c =
    let bs = c.args.bytes.now in
    let rest : take (length bs - c.loop-at.at) (drop c.loop-at.at bs) ≡ drop c.loop-at.at bs = take_all _ _ (grind (arith, length-drop)) in
    record {
      within = search rules;
      taken = rw (take-add c.loop-at.at c.in_ok-n.n bs, ← rest)
          (Appends-trans _ _ _ _ _ c.loop-at.invariant.taken c.in_ok-n.ensures.bytes);
      failed = search rules;
    }
