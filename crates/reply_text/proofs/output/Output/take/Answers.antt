use Rattle.std.proofs.Common.{◌≡◌, ◌++◌, ◌+◌, ◌-◌, ◌≤◌, List, ℕ, length, drop, take, arith, ap, ◌∙◌, length-append, length-drop}
use Rattle.std.proofs.lemmas.List.{drop-drop, length-take-le}
use borrow.Rule.Slice.PartMut.{put_mid}
use Rattle.reply_text.proofs.WaitingLemmas.{taken_more}
use Rattle.reply_text.proofs.output.Output.take.Goals as goal

pub loop-count-preserved : goal.loop-count-preserved
loop-count-preserved c =
    let S = c.args.self.now in
    let B = c.args.buf.now in
    let at = c.loop-count.count in
    let moved = c.copy_front-moved.result in
    let w = c.waiting.result.now in
    let behind = c.waiting.ensures.behind in
    let whole : w ++ behind ≡ drop at S = c.waiting.ensures.whole ∙ c.loop-count.invariant.left in
    let few : moved ≤ length w = omega (arith, c.copy_front-moved.ensures.count) in
    let had : at + moved ≤ length S =
    omega (arith, length-append w behind, ap length whole, length-drop at S, few, c.loop-count.invariant.had) in
    let bytes : put_mid at (length c.loop-count.buf - at) c.loop-count.buf c.copy_front-moved.new.to ≡ take (at + moved) S ++ drop (at + moved) B =
    taken_more S B w behind c.loop-count.buf c.copy_front-moved.new.to at moved c.loop-count.invariant.had few c.loop-count.invariant.bytes whole
    c.copy_front-moved.ensures.bytes in
    record {
      within = omega (
        arith,
        ap length bytes,
        length-append (take (at + moved) S) (drop (at + moved) B),
        length-take-le (at + moved) S had,
      );
      had = had;
      bytes = bytes;
      left = c.took.ensures ∙ ap (λ (xs : List ℕ). drop moved xs) c.loop-count.invariant.left ∙ drop-drop moved at S;
    }
