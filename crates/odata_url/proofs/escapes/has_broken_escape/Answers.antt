use Rattle.std.proofs.Common.{◌≡◌, true, false, arith, ◌∙◌}
use Rattle.std.proofs.lemmas.Grind.{common_steps}
use Rattle.odata_url.proofs.EscapeLemmas.{is_broken, is_broken-octets_of}
use Rattle.odata_url.proofs.escapes.has_broken_escape.Goals as goal

pub returns-then-not-begins_with_digits : goal.returns-then-not-begins_with_digits
returns-then-not-begins_with_digits c =
    let found : true ≡ is_broken c.args.text.now = grind (arith, common_steps) in
    found ∙ is_broken-octets_of c.args.text.now

pub returns : goal.returns
returns c =
    let none : false ≡ is_broken c.args.text.now = grind (arith, common_steps) in
    none ∙ is_broken-octets_of c.args.text.now
