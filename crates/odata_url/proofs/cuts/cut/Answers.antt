use Rattle.odata_url.specs.Cuts.{is_byte}
use Rattle.std.proofs.Common.{◌+◌, ◌∙◌}
use Rattle.std.proofs.lemmas.List.{take_rest}
use Rattle.odata_url.proofs.CutLemmas.{first_at, nowhere, in_front-at, behind-at, parts-at, in_front-all, behind-all, parts-all}
use Rattle.odata_url.proofs.cuts.cut.Goals as goal

pub returns-in-Some-clause-in_front : goal.returns-in-Some-clause-in_front
returns-in-Some-clause-in_front c =
    in_front-at _ _ _ (first_at (is_byte c.args.byte) c.args.text.now c.in-Some.place c.in-Some.ensures.0 c.in-Some.ensures.1)

pub returns-in-Some-clause-behind : goal.returns-in-Some-clause-behind
returns-in-Some-clause-behind c =
    take_rest c.args.text.now (c.in-Some.place + 1) ∙ behind-at c.args.byte c.args.text.now c.in-Some.place (first_at (is_byte c.args.byte) c.args.text.now c.in-Some.place c.in-Some.ensures.0 c.in-Some.ensures.1)

pub returns-in-Some-clause-parts : goal.returns-in-Some-clause-parts
returns-in-Some-clause-parts c =
    rw (take_rest c.args.text.now (c.in-Some.place + 1))
    (parts-at _ _ _ c.in-Some.ensures.0.high (first_at (is_byte c.args.byte) c.args.text.now c.in-Some.place c.in-Some.ensures.0 c.in-Some.ensures.1))

pub returns-in-None-clause-in_front : goal.returns-in-None-clause-in_front
returns-in-None-clause-in_front c = in_front-all _ _ (nowhere (is_byte c.args.byte) c.args.text.now c.in-None.ensures)

pub returns-in-None-clause-behind : goal.returns-in-None-clause-behind
returns-in-None-clause-behind c = behind-all _ _ (nowhere (is_byte c.args.byte) c.args.text.now c.in-None.ensures)

pub returns-in-None-clause-parts : goal.returns-in-None-clause-parts
returns-in-None-clause-parts c = parts-all c.args.byte c.args.text.now c.in-None.ensures
