use Rattle.std.proofs.Common.{◌≡◌, ◌∙◌, IfOk, Option, List, ℕ, option_map, subst, sym}
use Rattle.value_forms.proofs.DateLemmas.{day_of_text, no_first_part, no_second_part}
use Rattle.value_forms.proofs.date.day_text.Goals as goal
use Rattle.value_forms.proofs.date.day_text.Goals.{else-contains-via-then-contains+else-contains-2, else-contains-via-else-contains}

pub returns-then-contains-2 : goal.returns-then-contains-2
returns-then-contains-2 c =
    let P : Option (List ℕ) → Type 0 = λ day. IfOk c.day_of_parts.result (λ made. option_map (λ made. made.items) made ≡ day) in
    subst P (day_of_text c.args.form c.args.text.now c.parts.result.0.now c.parts.result.1.now c.parts-2.result.0.now c.parts-2.result.1.now c.parts.ensures.whole c.parts.ensures.fraction
    c.parts-2.ensures.whole c.parts-2.ensures.fraction (sym c.contains.ensures.value ∙ c.if-contains.true) (sym c.contains-then-contains.ensures.value ∙ c.if-contains-2.true))
    c.day_of_parts.ensures

pub returns-else-contains : goal.returns-else-contains
returns-else-contains c = elim c.else-contains.branch [
  | else-contains-via-then-contains+else-contains-2 w ↦
      no_second_part c.args.form c.args.text.now c.parts.result.1.now c.parts.ensures.fraction (sym c.contains.ensures.value ∙ w.if-contains.true)
      (sym w.contains-then-contains.ensures.value ∙ w.if-contains-2.false)
  | else-contains-via-else-contains w ↦ no_first_part c.args.form c.args.text.now (sym c.contains.ensures.value ∙ w.if-contains.false)
]
