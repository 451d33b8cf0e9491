use Rattle.std.proofs.Common.{◌≡◌, ◌∙◌, ◌+◌, ◌-◌, ◌<◌, ap, arith, get_or, length, sym}
use Rattle.std.proofs.lemmas.List.{get_or-take, get_or_default, length-take}
use Rattle.result_rows.specs.Rows.{OrderedOf, RowsOf}
use Rattle.cell_texts.proofs.turns.RowTurns.next.Goals as goal

pub look_ahead-self-inside-requires-clause-within : goal.look_ahead-self-inside-requires-clause-within
look_ahead-self-inside-requires-clause-within c = λ i d inside.
    let given = c.self.inside.given in
    let ahead = c.take_ahead-taken.new.ahead in
    let few : i < c.take_ahead-taken.result - given = omega (arith, inside, length-take (c.take_ahead-taken.result - given) ahead) in
    let at = c.take_ahead-taken.ensures.numbers (given + i) (omega arith) (omega (arith, few)) in
    let same : given + i - given ≡ i = omega arith in
    let room : i < length ahead = omega (arith, few, c.take_ahead-taken.ensures.few) in
    let is = get_or-take (c.take_ahead-taken.result - given) ahead i d few ∙ get_or_default ahead i d 0 room ∙ ap (λ n. get_or ahead n 0) (sym same) in
    let stored = c.table.ensures.rows ∙ ap (λ (o : OrderedOf). o.stored) c.take_ahead-taken.ensures.rest in
    omega (arith, at.within, is, ap (λ (r : RowsOf). length r.rows) stored)
