use Rattle.std.proofs.Common.{◌≡◌, rules, subst}
use Rattle.block_summary.specs.Types.{cells_of_kind, numbers_of}
use Rattle.block_eval.proofs.NumberLemmas.{found-column}
use Rattle.block_eval.proofs.PackedLemmas.{packed-numbers}
use Rattle.block_eval.proofs.packed.packed_in.Goals as goal

pub returns-clause-numbers : goal.returns-clause-numbers
returns-clause-numbers c =
    let step = c.in-Some-Packed in
    let columns = c.args.columns.now in
    let is = found-column columns c.args.place step.field-0.now _ step.ensures.lookup.3.0 step.ensures.lookup.1 step.field-0-is in
    let same : c.kind.result ≡ c.args.kind = search (rules, c.ne.ensures, c.if-ne.false) in
    packed-numbers columns c.args.place _ c.args.kind is (subst (λ t. cells_of_kind t (numbers_of step.column.now) ≡ step.column.now) same c.kind.ensures)

pub returns-clause-typed : goal.returns-clause-typed
returns-clause-typed c =
    let same : c.kind.result ≡ c.args.kind = search (rules, c.ne.ensures, c.if-ne.false) in
    subst (λ t. cells_of_kind t (numbers_of c.in-Some-Packed.column.now) ≡ c.in-Some-Packed.column.now) same c.kind.ensures
