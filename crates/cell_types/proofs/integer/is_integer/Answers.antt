-- A digit at least, and nothing else.
use Rattle.std.proofs.Common.{ap, sym, ◌∙◌}
use Rattle.std.specs.Str.Parse.{without_leading_sign}
use Rattle.cell_types.proofs.IntegerLemmas.{list_all-is_integer}
use Rattle.cell_types.proofs.integer.is_integer.Goals as goal

pub returns-then-not-is_empty : goal.returns-then-not-is_empty
returns-then-not-is_empty c =
    let is = c.without_sign-digits.ensures ∙ ap without_leading_sign c.as_bytes.ensures.value in
    c.are_digits.ensures ∙ list_all-is_integer c.args.text.now c.without_sign-digits.result.now is (sym c.if-not-is_empty.ensures)
