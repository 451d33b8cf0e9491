use Rattle.std.proofs.Common.{◌+◌, ◌<◌, ◌++◌, arith, sym, ap, ◌∙◌, refl}
use Rattle.std.proofs.lemmas.List.{nil_from_length}
use Rattle.csv_index.specs.Structure.{ends_of}
use Rattle.csv_index.proofs.EndLemmas.{ends_next, last_taken, ends_lowest}
use Rattle.csv_index.specs.Blocks.{set_places}
use Rattle.csv_index.proofs.ends.Ends.next.Goals as goal

pub returns-in_default : goal.returns-in_default
returns-in_default c =
    last_taken _ c.loop-self.self-inside.base c.loop-self.self-inside.word c.loop-self.self-inside.rest.now c.loop-self.self-inside.last c.take.result c.take.new.self
    c.loop-self.invariant.left c.loop-self-test.true (nil_from_length _ c.in_default.ensures.cases) c.take.ensures.value c.take.ensures.after

pub loop-self-preserved : goal.loop-self-preserved
loop-self-preserved c =
    let e = c.in-Some.ensures.cases in record {
      left = sym (ends_next c.loop-self.self-inside.base c.loop-self.self-inside.word c.in-Some.mask.now c.in-Some.rest.now c.loop-self.self-inside.last c.loop-self-test.true)
          ∙ ap (λ r. set_places c.loop-self.self-inside.base c.loop-self.self-inside.word 0 64 ++ ends_of (c.loop-self.self-inside.base + 64) r c.loop-self.self-inside.last) (sym e.0)
          ∙ c.loop-self.invariant.left;
      room = omega (arith, e.1, c.loop-self.invariant.room);
    }

pub returns : goal.returns
returns c =
    let some : 0 < c.loop-self.self-inside.word = omega (arith, c.loop-self-test.false) in
    sym c.loop-self.invariant.left
    ∙ ap (λ l. l ++ ends_of (c.loop-self.self-inside.base + 64) c.loop-self.self-inside.rest.now c.loop-self.self-inside.last)
    (ends_lowest c.loop-self.self-inside.base c.loop-self.self-inside.word _ some (omega arith) refl)
