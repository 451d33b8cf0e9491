use Rattle.std.proofs.Common.{arith, drop, length-append, length-drop}
use Rattle.std.proofs.lemmas.List.{length-take}
use Rattle.reply_text.proofs.row_sizes.RowSizes.count.Goals as goal

pub loop-self-preserved : goal.loop-self-preserved
loop-self-preserved g c =
    let few = length-take c.min-count.result c.loop-self.room in
    let others = length-drop c.min-count.result c.loop-self.room in
    let whole = length-append c.count_few.new.room (drop c.min-count.result c.loop-self.room) in
    record {
      room = omega (arith, whole, few, others, c.count_few.auto.room, c.loop-self.invariant.room, c.min-count.ensures);
      least = omega (arith, c.loop-self.invariant.least, c.count_few.ensures.len);
      most = omega (arith, few, c.loop-self.invariant.room, c.loop-self.invariant.most, c.count_few.ensures.len, c.min-count.ensures, c.len-in-loop-self.ensures);
      counts = λ rows names is begin has. c.count_few.ensures.sizes rows names is begin (c.loop-self.invariant.counts rows names is begin has);
    }
