use Rattle.std.proofs.Common.{◌≡◌, ◌+◌, ◌<◌, [], add-one, ap, arith, get_or, length, ◌∙◌, subst, sym, Some}
use Rattle.sort_rows.specs.Runs.{left_rows, TakesNext}
use Rattle.result_rows.specs.Ordered.{ordered_view, rows_in_order, AreOrdered, HasLeft}
use Rattle.result_rows.specs.Rows.{OrderedOf}
use Rattle.result_rows.specs.declared.ordered.OrderedRows.TheInside.{Inside}
use Rattle.result_rows.proofs.OrderedLemmas.{as_many, as_many_shown, is_left, leaves, next_shown, not_ended, takes}
use Rattle.result_rows.proofs.ordered.OrderedRows.next.Goals as goal
use Rattle.result_rows.proofs.ordered.OrderedRows.next.Goals.{in-None, in-Some+in-Some-next}

pub unreachable-requires : goal.unreachable-requires
unreachable-requires c =
    let rows = c.self.inside.rows.rows in
    let taken = c.self.inside.taken in
    let has = subst (λ o. HasLeft o rows taken) c.in-Some.is c.self.invariant.left in
    let more = is_left c.self.inside (subst (λ (o : OrderedOf). o.taken < length o.rows.rows) (sym c.self.view_is) c.requires) in
    not_ended rows c.in-Some.order taken has (subst (λ o. taken < length (rows_in_order o rows)) c.in-Some.is more)
    (subst (λ rs. left_rows c.in-Some.order rs ≡ []) c.columns.ensures.rows c.in-None-next.ensures)

pub prove-unreachable-requires : goal.prove-unreachable-requires
prove-unreachable-requires c =
    let more = subst (λ (o : OrderedOf). o.taken < length o.rows.rows) (sym c.self.view_is) c.requires in
    let many = as_many_shown c.self.inside c.self.invariant in
    omega (arith, more, many, c.len-len.ensures, c.if-prove.true)

pub overflow_add-self : goal.overflow_add-self
overflow_add-self c = elim c.match-self.branch [
  | in-None w ↦ omega (arith, ap (λ (i : Inside). i.taken) w.self-inside-is, c.if-prove.false, c.len-len.type_inv)
  | in-Some+in-Some-next w ↦ omega (arith, ap (λ (i : Inside). i.taken) w.self-inside-is, c.if-prove.false, c.len-len.type_inv)
]

pub invariant_of-self : goal.invariant_of-self
invariant_of-self c =
    let rows = c.self.inside.rows.rows in
    let taken = c.self.inside.taken in
    let more = λ (i : Inside). AreOrdered (record { rows = i.rows; order = i.order; shown = i.shown; taken = i.taken + 1 }) in
    elim c.match-self.branch [
      | in-None w ↦ subst more (sym w.self-inside-is) (record { left = subst (λ o. HasLeft o rows (taken + 1)) (sym w.in-None.is) tt; shown = c.self.invariant.shown })
      | in-Some+in-Some-next w ↦
          let old = w.in-Some.order in
          let new = w.next.new.self in
          let number = w.in-Some-next.number in
          let has = subst (λ o. HasLeft o rows taken) w.in-Some.is c.self.invariant.left in
          let next = subst (λ rs. TakesNext rs old new (Some number)) w.columns.ensures.rows w.in-Some-next.ensures in
          subst more (sym w.self-inside-is) (record { left = subst (HasLeft (Some new) rows) (sym (add-one taken)) (leaves rows old new taken number has next); shown = c.self.invariant.shown })
    ]

pub returns-clause-row : goal.returns-clause-row
returns-clause-row c =
    let inside = c.self.inside in
    let rows = inside.rows.rows in
    let taken = inside.taken in
    let more = is_left inside (subst (λ (o : OrderedOf). o.taken < length o.rows.rows) (sym c.self.view_is) c.requires) in
    let many = as_many inside.order rows taken c.self.invariant.left in
    subst (λ (o : OrderedOf). get_or o.stored.rows c.match-self.number [] ≡ get_or o.rows.rows o.taken []) c.self.view_is (elim c.match-self.branch [
      | in-None w ↦
          subst (λ n. get_or (ordered_view inside).stored.rows n [] ≡ get_or (ordered_view inside).rows.rows taken []) (sym w.number-is)
          (next_shown inside taken c.self.invariant (omega (arith, more, many)) more (ap (λ o. get_or (rows_in_order o rows) taken []) (sym w.in-None.is)))
      | in-Some+in-Some-next w ↦
          let old = w.in-Some.order in
          let new = w.next.new.self in
          let number = w.in-Some-next.number in
          let has = subst (λ o. HasLeft o rows taken) w.in-Some.is c.self.invariant.left in
          let next = subst (λ rs. TakesNext rs old new (Some number)) w.columns.ensures.rows w.in-Some-next.ensures in
          subst (λ n. get_or (ordered_view inside).stored.rows n [] ≡ get_or (ordered_view inside).rows.rows taken []) (sym w.number-is)
          (next_shown inside number c.self.invariant next.0 more
          (takes rows old new taken number has next ∙ ap (λ o. get_or (rows_in_order o rows) taken []) (sym w.in-Some.is)))
    ])
