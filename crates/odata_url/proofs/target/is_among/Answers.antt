use Rattle.std.proofs.Common.{◌∙◌, sym}
use Rattle.odata_url.proofs.OptionNameLemmas.{eq-option_text}
use Rattle.odata_url.proofs.TargetLemmas.{is_among-past, is_among-found}
use Rattle.odata_url.proofs.target.is_among.Goals as goal

pub loop-option-preserved : goal.loop-option-preserved
loop-option-preserved c =
    let option = c.option-item.result in
    let other = sym (eq-option_text option.0 c.args.name) ∙ sym c.if-eq.ensures in
    c.loop-option.invariant ∙ is_among-past c.args.options.now c.args.name c.loop-option.option-index option c.loop-option-test.true c.option-item.is other

pub returns-then-eq : goal.returns-then-eq
returns-then-eq c =
    let option = c.option-item.result in
    let same = sym (eq-option_text option.0 c.args.name) ∙ sym c.if-eq.ensures in
    sym (c.loop-option.invariant ∙ is_among-found c.args.options.now c.args.name c.loop-option.option-index option c.loop-option-test.true c.option-item.is same)
