use Rattle.std.proofs.Common.{rules, tests, sym, ◌∙◌, string_bytes}
use Rattle.std.proofs.lemmas.Iterator.{YieldsList-from_slice}
use Rattle.std.proofs.lemmas.Iterator.Search.{any_from_yields_List}
use Rattle.odata_url.specs.OptionName.{begins_with, dollar_sign}
use Rattle.cell_types.proofs.ListLaws.{list_any-map}
use Rattle.odata_request.proofs.resource.has_reserved.Goals as goal

pub returns : goal.returns
returns c =
    let segments = c.args.segments.now in
    any_from_yields_List (λ s. begins_with dollar_sign (string_bytes s)) _ _ c.any.result c.any.ensures.ran (YieldsList-from_slice segments cc) (λ x b q k. search (rules, tests))
    ∙ sym (list_any-map (begins_with dollar_sign) string_bytes segments)
