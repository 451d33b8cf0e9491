use Rattle.std.proofs.Common.{◌≡◌, ◌+◌, ◌<◌, [], length, length-drop, length-set, drop, arith, sym, ap, ◌∙◌, add-one}
use Rattle.csv_index.proofs.PartLemmas.{drop-first, fill_put}
use Rattle.csv_index.proofs.ends.Ends.fill.Goals as goal

pub unreachable-requires : goal.unreachable-requires
unreachable-requires c =
    let none : drop c.loop-n.n c.args.self.now ≡ [] = sym c.loop-n.invariant.left ∙ c.in_default.ensures.0 in
    let size : length (drop c.loop-n.n c.args.self.now) ≡ 0 = ap length none in
    omega (arith, size, length-drop c.loop-n.n c.args.self.now, c.requires.count, c.loop-n-test.true)

pub loop-n-preserved : goal.loop-n-preserved
loop-n-preserved c =
    let next = drop-first c.args.self.now c.loop-n.n c.in-Some.end c.next.new.self (sym c.loop-n.invariant.left ∙ c.in-Some.ensures) in
    let within : c.loop-n.n + 1 < length c.loop-n.places.items = omega (arith, c.loop-n.invariant.long, c.requires.room, c.loop-n-test.true) in
    let put = fill_put c.loop-n.places.items c.args.self.now c.loop-n.n (c.loop-n.n + 1) c.in-Some.end (add-one c.loop-n.n) within c.loop-n.invariant.places next.0 in
    record {
      long = length-set c.loop-n.places.items (c.loop-n.n + 1) c.in-Some.end ∙ c.loop-n.invariant.long;
      first = put.1 ∙ c.loop-n.invariant.first;
      places = put.0;
      left = sym next.1;
    }
