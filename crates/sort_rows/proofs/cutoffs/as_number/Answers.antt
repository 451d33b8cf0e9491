use Rattle.std.proofs.Common.{◌≡◌, sym, FitsSigned, of_z, rules, subst, to_z}
use Rattle.std.specs.Int.{w128}
use Rattle.std.proofs.lemmas.Int.{to_z-of_z}
use Rattle.cell_types.specs.Value.{value_view}
use Rattle.typed_trees.specs.TypedTree.{number_literal}
use Rattle.sort_rows.specs.Cutoffs.{ComparesAs}
use Rattle.sort_rows.proofs.NumberTestLemmas.{given_as_number, null_as_number}
use Rattle.sort_rows.proofs.cutoffs.as_number.Goals as goal

pub returns-in-Null : goal.returns-in-Null
returns-in-Null c = rw c.in-Null.is (null_as_number c.dates_are_compared.ensures c.args.kind)

pub returns-in-Some : goal.returns-in-Some
returns-in-Some c =
    let n = c.in-Some.number in
    let small : FitsSigned w128 n = search rules in
    let read : to_z w128 (of_z w128 n) ≡ n = to_z-of_z w128 n small in
    subst (λ z. ComparesAs c.args.kind (value_view c.args.value.now) (number_literal z)) (sym read)
    (given_as_number c.dates_are_compared.ensures c.args.kind c.args.value.now n (sym c.in-Some.ensures))
