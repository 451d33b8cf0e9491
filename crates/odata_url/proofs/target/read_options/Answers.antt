use Rattle.std.proofs.Common.{rules, ◌≡◌, true, map, ap, ◌∙◌}
use Rattle.std.proofs.lemmas.Result.{err_from_is_err_and}
use Rattle.odata_url.specs.Cuts.{parts_left}
use Rattle.odata_url.specs.Target.{ampersand, option_view, has_bytes}
use Rattle.odata_url.proofs.FaultLemmas.{fault_of_part}
use Rattle.odata_url.proofs.TargetLemmas.{options_of-fault, options_of-all}
use Rattle.odata_url.proofs.target.read_options.Goals as goal

pub returns-in_err-add_option : goal.returns-in_err-add_option
returns-in_err-add_option c =
    let error = err_from_is_err_and c.from_residual.result c.from_residual.ensures.1 in
    let next = ap (parts_left ampersand) c.in-Some.is ∙ c.cut.ensures.parts in
    let some : has_bytes c.cut.result.0.now ≡ true = search rules in
    rw (error.1, error.2)
    (fault_of_part _ _ _ (options_of-fault c.args.query.now (map option_view c.loop-rest.options.items) c.loop-rest.rest _ _ _ c.loop-rest.invariant next some) c.in_err-add_option.ensures)

pub returns : goal.returns
returns c = options_of-all c.args.query.now (map option_view c.loop-rest.options.items) c.loop-rest.rest c.loop-rest.invariant c.in_default.is
