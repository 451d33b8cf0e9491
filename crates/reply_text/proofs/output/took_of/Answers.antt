use Rattle.std.proofs.Common.{◌≡◌, ◌++◌, ◌≤◌, length, arith, ap, length-drop}
use Rattle.std.specs.List.{concat}
use Rattle.std.proofs.lemmas.Bool.Decides.{nat_tests}
use Rattle.reply_text.proofs.WaitingLemmas.{pass_next}
use Rattle.reply_text.proofs.output.took_of.Goals as goal

pub loop-others-preserved : goal.loop-others-preserved
loop-others-preserved c =
    let none : length c.loop-others.first ≡ 0 = grind (arith, nat_tests, c.loop-others-test.true, c.is_empty.ensures) in
    let few : c.took-passed-in-Some.result ≤ length c.in-Some.reply = omega (arith, c.took-passed-in-Some.ensures.count) in
    record {
      within = omega (arith, c.took-passed-in-Some.ensures.count, c.loop-others.invariant.within);
      bytes = pass_next c.loop-others.first c.in-Some.reply c.took-passed-in-Some.new.self (c.args.first.now ++ concat c.args.others.now.items) c.loop-others.others.items
          c.pop_front.new.self.items c.loop-others.passed c.took-passed-in-Some.result none c.loop-others.invariant.bytes c.in-Some.ensures.items few
          c.took-passed-in-Some.ensures.left;
      done = λ some. omega (
        arith,
        some,
        c.took-passed-in-Some.ensures.count,
        ap length c.took-passed-in-Some.ensures.left,
        length-drop c.took-passed-in-Some.result c.in-Some.reply,
        c.loop-others.invariant.within,
      );
    }
