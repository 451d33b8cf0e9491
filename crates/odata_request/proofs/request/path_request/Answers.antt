use Rattle.std.proofs.Common.{map, refl, string_bytes, sym, ap, ◌∙◌}
use Rattle.std.specs.Option.{ok_or}
use Rattle.odata_url.specs.Target.{option_view}
use Rattle.odata_errors.specs.declared.code.Code.TheVariants.{NotAcceptable}
use Rattle.odata_request.specs.declared.fault.RequestFault.TheVariants.{Refused}
use Rattle.odata_request.specs.Reading.{goes_on, stops, passes_unless}
use Rattle.odata_request.specs.Request.{AsksPath, request_view}
use Rattle.odata_request.specs.Resource.{resource_view}
use Rattle.odata_request.proofs.RowsLemmas.{asks_path, refused_format}
use Rattle.odata_request.proofs.StepLemmas.{none_of, passed_on, stop}
use Rattle.odata_request.proofs.request.path_request.Goals as goal

pub returns-in_err-resource : goal.returns-in_err-resource
returns-in_err-resource c =
    passed_on request_view (AsksPath c.args.catalog.now (map string_bytes c.args.segments.now) (map option_view c.args.options.now)) c.from_residual.result _ c.from_residual.ensures.1
    (stop _ _ (Refused c.in_err-resource.field-0.0) c.in_err-resource.ensures.resource)

pub returns-in-Some : goal.returns-in-Some
returns-in-Some c = goes_on (resource_view c.in_ok-resource.resource) c.in_ok-resource.ensures.resource (stops c.in-Some.code (ap passes_unless c.in-Some.ensures) refl)

pub returns-in_err-format : goal.returns-in_err-format
returns-in_err-format c =
    let segments = map string_bytes c.args.segments.now in
    let options = map option_view c.args.options.now in
    passed_on request_view (AsksPath c.args.catalog.now segments options) c.from_residual-in_err-format.result _ c.from_residual-in_err-format.ensures.1
    (refused_format c.args.catalog.now segments options (resource_view c.in_ok-resource.resource) c.in_ok-resource.ensures.resource
    (ap passes_unless (sym (none_of c.options_fault.result c.in_default.not-Some) ∙ c.options_fault.ensures)) c.in_err-format.field-0.0
    (c.in_err-format.ensures.value ∙ ap (λ f. ok_or f NotAcceptable) c.asked_format.ensures))

pub returns : goal.returns
returns c =
    let segments = map string_bytes c.args.segments.now in
    let options = map option_view c.args.options.now in
    asks_path c.args.catalog.now segments options (resource_view c.in_ok-resource.resource) c.in_ok-resource.ensures.resource
    (ap passes_unless (sym (none_of c.options_fault.result c.in_default.not-Some) ∙ c.options_fault.ensures)) c.in_ok-format.format
    (c.in_ok-format.ensures.value ∙ ap (λ f. ok_or f NotAcceptable) c.asked_format.ensures) c.request_on.result c.request_on.ensures
