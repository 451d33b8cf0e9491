-- Digits in both parts, of which the first is not empty.
use Rattle.std.proofs.Common.{◌∙◌, ◌&&◌, sym, ap}
use Rattle.std.specs.Char.{is_ascii_digit}
use Rattle.std.specs.List.{list_all}
use Rattle.cell_types.proofs.DecimalLemmas.{are_digits-some}
use Rattle.cell_types.proofs.decimal.are_parts.Goals as goal

pub returns-then-are_digits : goal.returns-then-are_digits
returns-then-are_digits c =
    c.are_digits-then-are_digits.ensures ∙ ap (λ b. b && list_all is_ascii_digit c.args.fraction.now) c.if-are_digits.ensures
    ∙ sym (are_digits-some c.args.whole.now c.args.fraction.now (sym c.if-is_empty.ensures))

pub returns-else-are_digits : goal.returns-else-are_digits
returns-else-are_digits c =
    c.if-are_digits.false ∙ ap (λ b. b && list_all is_ascii_digit c.args.fraction.now) c.if-are_digits.ensures
    ∙ sym (are_digits-some c.args.whole.now c.args.fraction.now (sym c.if-is_empty.ensures))
