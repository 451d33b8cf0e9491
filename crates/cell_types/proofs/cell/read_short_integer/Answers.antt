use Rattle.std.proofs.Common.{Ok, FitsSigned, w64, ap, subst, sym, ◌∙◌}
use Rattle.std.proofs.lemmas.Int.{to_z-of_z}
use Rattle.cell_types.specs.Column.{column_view}
use Rattle.cell_types.specs.Value.{integer}
use Rattle.cell_types.proofs.ShortIntegers.{short_fits, short-value}
use Rattle.cell_types.proofs.cell.read_short_integer.Goals as goal

pub returns-clause-value : goal.returns-clause-value
returns-clause-value c =
    let text = c.args.text.now in
    let is = c.in_ok-number.ensures in
    let fits = subst (FitsSigned w64) (sym is.1) (short_fits text is.0) in
    short-value (column_view c.args.column.now) text c.requires is.0 (sym c.is_null_text.ensures ∙ c.if-is_null_text.false)
    ∙ ap (λ z. Ok (integer z)) (sym is.1 ∙ sym (to_z-of_z w64 c.in_ok-number.number fits))
