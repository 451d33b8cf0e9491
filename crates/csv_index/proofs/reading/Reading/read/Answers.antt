-- One block more is read.
use Rattle.std.proofs.Common.{◌≡◌, ◌-◌, ◌*◌, ◌==◌, ℕ, List, length, length-drop, drop, ap, ◌∙◌, subst, arith}
use Rattle.lane_class.specs.Classes.{AreClasses}
use Rattle.std.proofs.lemmas.Nat.Bits.{shr_and_one}
use Rattle.csv_index.specs.Reading.{HasReadText}
use Rattle.csv_index.proofs.Bits.{ends_within}
use Rattle.csv_index.proofs.NextBlocks.{StepsTo, steps_to, lowest_within, read_fault}
use Rattle.csv_index.proofs.ReadingLemmas.{has_read_more}
use Rattle.csv_index.proofs.reading.Reading.read.Goals.{After-step-carry}
use Rattle.csv_index.proofs.reading.Reading.read.Goals as goal

-- the masks are those of the text's next block
next_step : (c : After-step-carry) (text : List ℕ) (n : ℕ) → c.args.rest.now ≡ drop (64 * n) text
    → HasReadText text n c.args.self.carry c.args.self.blocks.masks.items c.args.self.widths c.args.self.unended → StepsTo text n c.args.len c.step-carry.result.0 c.step-carry.result.1
next_step c text n is read =
    steps_to text c.args.rest.now n c.args.len c.classify.result c.step-carry.result.0 c.args.self.carry c.step-carry.result.1
    c.args.self.blocks.masks.items c.args.self.widths c.args.self.unended read is c.requires.some c.requires.len
    (subst (AreClasses c.classify.result) c.load.ensures c.classify.ensures)
    c.step-carry.ensures.carry c.step-carry.ensures.masks c.step-carry.ensures.within

pub overflow_sub-result : goal.overflow_sub-result
overflow_sub-result c =
    let within = lowest_within c.step-carry.result.0.fault c.args.len (omega (arith, c.requires.len)) c.step-carry.ensures.within.2 c.if-masks-ne0.true in
    omega (arith, within, c.requires.len)

pub returns-then-masks-ne0-clause-fault : goal.returns-then-masks-ne0-clause-fault
returns-then-masks-ne0-clause-fault c = λ text n is read.
    let size : length c.args.rest.now ≡ length text - 64 * n = ap length is ∙ length-drop (64 * n) text in
    read_fault text n c.args.len _ c.step-carry.result.0 c.step-carry.result.1
    (next_step (goal.at.returns-then-masks-ne0-clause-fault c).After-step-carry text n is read) c.if-masks-ne0.true (omega (arith, size))

pub add-requires-clause-within : goal.add-requires-clause-within
add-requires-clause-within c = ends_within c.step-carry.result.0.sep c.step-carry.result.0.eol

pub returns-clause-read : goal.returns-clause-read
returns-clause-read c = λ text n is read.
    rw c.push.ensures.masks (has_read_more c.one_structure.ensures text n c.args.len (c.args.len - 1) c.step-carry.result.0 c.args.self.carry c.step-carry.result.1
    c.args.self.blocks.masks.items c.args.self.widths c.add.new.self c.args.self.unended _ read
    (next_step (goal.at.returns-clause-read c).After-step-carry text n is read) c.if-masks-ne0.false c.add.ensures
    (omega (arith, c.requires.some)) (ap (λ b. b == 0) (shr_and_one c.step-carry.result.0.eol (c.args.len - 1))))
