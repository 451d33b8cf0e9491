use Rattle.std.proofs.Common.{◌≡◌, ◌-◌, ◌<◌, ◌^◌, List, ℕ, ap, arith, drop, length, length-drop, subst, sym, take, ◌∙◌}
use Rattle.std.specs.Prelude.{IfOk}
use Rattle.std.specs.List.{All}
use Rattle.std.proofs.lemmas.List.{take_all}
use Rattle.std.proofs.lemmas.List.Elements.{All-drop}
use Rattle.row_selection.proofs.selection.Selection.after.Goals as goal

pub of_numbers-requires : goal.of_numbers-requires
of_numbers-requires c =
    let numbers = c.deref.result.now in
    let rest = drop c.args.skip numbers in
    let all : take (length numbers - c.args.skip) rest ≡ drop c.args.skip c.args.self =
    take_all (length numbers - c.args.skip) rest (omega (arith, length-drop c.args.skip numbers)) ∙ ap (drop c.args.skip) (c.deref.ensures.value ∙ c.in_ok-numbers.ensures) in
    subst (All (λ row. row < 2 ^ 16)) (sym all) (All-drop (λ row. row < 2 ^ 16) c.args.skip c.args.self c.requires)

pub returns : goal.returns
returns c =
    let numbers = c.deref.result.now in
    let rest = drop c.args.skip numbers in
    let all : take (length numbers - c.args.skip) rest ≡ drop c.args.skip c.args.self =
    take_all (length numbers - c.args.skip) rest (omega (arith, length-drop c.args.skip numbers)) ∙ ap (drop c.args.skip) (c.deref.ensures.value ∙ c.in_ok-numbers.ensures) in
    subst (λ (ns : List ℕ). IfOk c.of_numbers.result (λ made. made ≡ ns)) all c.of_numbers.ensures
