use Rattle.std.proofs.Common.{◌≡◌, ◌<◌, ◌∙◌, ap, drop, length, subst, sym}
use Rattle.std.specs.Prelude.{IfOk}
use Rattle.std.specs.List.{All}
use Rattle.row_columns.specs.Picked.{numbered}
use Rattle.sort_rows.specs.Runs.{all_sorted, left_rows, AreNumbersLeft}
use Rattle.result_rows.specs.Ordered.{rows_in_order, shown_rows, HasLeft}
use Rattle.result_rows.specs.Rows.{OrderedOf, RowsOf}
use Rattle.result_rows.proofs.OrderedLemmas.{numbers_shown, numbers_within}
use Rattle.result_rows.proofs.ordered.OrderedRows.into_rows.Goals as goal

pub with_rows-requires : goal.with_rows-requires
with_rows-requires c =
    let inside = c.self.inside in
    let numbers = c.in_ok-numbers.numbers.items in
    let are = subst (λ rs. AreNumbersLeft rs (left_rows c.in-Some.order rs) numbers) c.columns.ensures.rows c.in_ok-numbers.ensures in
    subst (All (λ n. n < length c.shown_rows-rows.result.rows)) (sym c.as_slice.ensures.value)
    (subst (λ (r : RowsOf). All (λ n. n < length r.rows) numbers) (sym c.shown_rows-rows.ensures) (numbers_within inside numbers c.self.invariant are.within))

pub returns : goal.returns
returns c =
    let inside = c.self.inside in
    let rows = inside.rows.rows in
    let order = c.in-Some.order in
    let numbers = c.in_ok-numbers.numbers.items in
    let shown = shown_rows inside.rows inside.shown in
    let has = subst (λ o. HasLeft o rows inside.taken) c.in-Some.is c.self.invariant.left in
    let zero : inside.taken ≡ 0 = ap (λ (o : OrderedOf). o.taken) c.self.view_is ∙ c.requires in
    let left : left_rows order rows ≡ rows_in_order inside.order rows =
    has.1 ∙ ap (λ n. drop n (all_sorted order rows)) zero ∙ ap (λ o. rows_in_order o rows) (sym c.in-Some.is) in
    let are = subst (λ rs. AreNumbersLeft rs (left_rows order rs) numbers) c.columns.ensures.rows c.in_ok-numbers.ensures in
    let all = subst (λ rs. AreNumbersLeft rows rs numbers) left are in
    let result = c.shown_rows-rows.result in
    subst (λ (r : RowsOf). IfOk c.with_rows.result (λ made. made ≡ r))
    (ap (λ ns. (let made : RowsOf = record { names = result.names; rows = numbered ns result.rows; count = c.count-count.result } in made)) c.as_slice.ensures.value
    ∙ ap (λ n. (let made : RowsOf = record { names = result.names; rows = numbered numbers result.rows; count = n } in made)) c.count-count.ensures
    ∙ ap (λ (r : RowsOf). (let made : RowsOf = record { names = r.names; rows = numbered numbers r.rows; count = r.count } in made)) c.shown_rows-rows.ensures
    ∙ ap (λ rs. (let made : RowsOf = record { names = shown.names; rows = rs; count = shown.count } in made)) (numbers_shown inside (rows_in_order inside.order rows) numbers c.self.invariant all)
    ∙ ap (λ (o : OrderedOf). o.rows) c.self.view_is)
    c.with_rows.ensures
