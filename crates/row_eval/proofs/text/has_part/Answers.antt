use Rattle.std.proofs.Common.{◌∙◌, ap}
use Rattle.std.specs.Prelude.{is_some}
use Rattle.memchr.specs.Find.{FindsNeedle}
use Rattle.row_eval.proofs.PartLemmas.{found}
use Rattle.row_eval.proofs.text.has_part.Goals as goal

pub returns : goal.returns
returns c =
    let finds : FindsNeedle c.args.text.now c.args.part.now 0 c.find.result = rw (c.as_bytes.ensures.value, c.as_bytes-2.ensures.value) at c.find.ensures in
    c.is_some.ensures ∙ ap is_some (found c.args.text.now c.args.part.now c.find.result finds)
