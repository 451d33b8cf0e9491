-- The text has the form, and std's `parse` reads its number.
use Rattle.std.proofs.Common.{◌∙◌, sym, ap, subst, Ok, FitsSigned, w64}
use Rattle.std.specs.Int.{w128}
use Rattle.std.proofs.lemmas.Int.{to_z-of_z}
use Rattle.cell_types.specs.Value.{integer}
use Rattle.cell_types.proofs.IntegerLemmas.{integer-not, integer-parsed, integer-out}
use Rattle.cell_types.proofs.integer.read_integer.Goals as goal

pub returns-then-not-is_integer : goal.returns-then-not-is_integer
returns-then-not-is_integer c = sym (integer-not c.args.text.now (sym c.if-not-is_integer.ensures))

pub returns-in-Ok : goal.returns-in-Ok
returns-in-Ok c =
    let read = c.in-Ok.ensures.value.0 in
    let fits = subst (FitsSigned w64) (sym read.1) read.0.1 in
    let wide = to_z-of_z w128 c.from.result (record { sfits = c.from.type_inv }) ∙ c.from.ensures ∙ to_z-of_z w64 c.in-Ok.number fits in
    ap (λ z. Ok (integer z)) wide ∙ sym (integer-parsed c.args.text.now c.in-Ok.number (sym c.if-not-is_integer.ensures) read.0.1 read.1)

pub returns-in-Err : goal.returns-in-Err
returns-in-Err c = sym (integer-out c.args.text.now c.in-Err.field-0 (sym c.if-not-is_integer.ensures) c.in-Err.ensures.value.0)
