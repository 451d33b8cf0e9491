use Rattle.file_convert.specs.Pieces.{IsConverting}
use Rattle.file_convert.proofs.StageLemmas.{adds_none, then_adds}
use Rattle.file_convert.proofs.conversion.FileConversion.put_held.Goals as goal

pub loop-stage-init : goal.loop-stage-init
loop-stage-init c = λ asks given made is. adds_none (λ m. IsConverting asks given m c.args.self.now) made c.args.out.now.items is

pub loop-stage-preserved : goal.loop-stage-preserved
loop-stage-preserved c = λ asks given made is.
    then_adds (λ m. IsConverting asks given m c.loop-stage.self) (λ m. IsConverting asks given m c.step.new.self) made c.args.out.now.items c.loop-stage.out.items
    c.step.new.out.items (c.loop-stage.invariant asks given made is) (λ m so. c.in_ok-step.ensures asks given m so)
