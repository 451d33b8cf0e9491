use Rattle.std.proofs.Common.{Some, ap, cond, drop, map, string_bytes, sym, ◌∙◌, ◌+◌}
use Rattle.odata_url.specs.Target.{option_view}
use Rattle.odata_request.specs.Options.{option_value}
use Rattle.odata_request.proofs.OptionLemmas.{eq-option_text, value_from}
use Rattle.odata_request.proofs.options.value_of.Goals as goal

pub loop-option-preserved : goal.loop-option-preserved
loop-option-preserved c =
    let option = c.option-item.result in
    let behind = option_value c.args.name (map option_view (drop (c.loop-option.option-index + 1) c.args.options.now)) in
    let other = sym (eq-option_text option.0 c.args.name) ∙ sym c.if-eq.ensures in
    c.loop-option.invariant ∙ value_from c.args.name c.args.options.now c.loop-option.option-index option c.loop-option-test.true c.option-item.is
    ∙ ap (λ b. cond b (Some (string_bytes option.1)) behind) other

pub returns-then-eq : goal.returns-then-eq
returns-then-eq c =
    let option = c.option-item.result in
    let behind = option_value c.args.name (map option_view (drop (c.loop-option.option-index + 1) c.args.options.now)) in
    let same = sym (eq-option_text option.0 c.args.name) ∙ sym c.if-eq.ensures in
    ap Some c.as_str.ensures.value
    ∙ sym (c.loop-option.invariant ∙ value_from c.args.name c.args.options.now c.loop-option.option-index option c.loop-option-test.true c.option-item.is
    ∙ ap (λ b. cond b (Some (string_bytes option.1)) behind) same)
