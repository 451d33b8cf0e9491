use Rattle.std.proofs.Common.{◌≡◌, ◌<◌, ◌∙◌, ap, drop, length, subst, sym, take}
use Rattle.std.specs.Prelude.{IfOk}
use Rattle.std.specs.List.{All}
use Rattle.row_columns.specs.Picked.{numbered}
use Rattle.sort_rows.specs.Runs.{AreNumbersLeft}
use Rattle.result_rows.specs.Ordered.{places_shown, rows_in_order, shown_rows}
use Rattle.result_rows.specs.Rows.{OrderedOf, RowsOf}
use Rattle.result_rows.proofs.OrderedLemmas.{numbers_shown, numbers_within, rows_counted}
use Rattle.result_rows.proofs.SelectedLemmas.{selected_piece}
use Rattle.result_rows.proofs.ordered.OrderedRows.cut.Goals as goal

pub with_rows-requires : goal.with_rows-requires
with_rows-requires c =
    let inside = c.self.inside in
    let numbers = c.in_ok-numbers.numbers.items in
    let are = subst (λ rs. AreNumbersLeft rs (take c.args.top (drop c.args.skip (rows_in_order inside.order rs))) numbers) c.columns.ensures.rows c.in_ok-numbers.ensures in
    subst (All (λ n. n < length c.shown_rows.result.rows)) (sym c.as_slice.ensures.value)
    (subst (λ (r : RowsOf). All (λ n. n < length r.rows) numbers) (sym c.shown_rows.ensures) (numbers_within inside numbers c.self.invariant are.within))

pub returns : goal.returns
returns c =
    let inside = c.self.inside in
    let numbers = c.in_ok-numbers.numbers.items in
    let shown = shown_rows inside.rows inside.shown in
    let all = rows_in_order inside.order inside.rows.rows in
    let are = subst (λ rs. AreNumbersLeft rs (take c.args.top (drop c.args.skip (rows_in_order inside.order rs))) numbers) c.columns.ensures.rows c.in_ok-numbers.ensures in
    subst (λ (r : RowsOf). IfOk c.with_rows.result (λ made. made ≡ r))
    (ap (λ ns. rows_counted c.args.count c.shown_rows.result.names (numbered ns c.shown_rows.result.rows)) c.as_slice.ensures.value
    ∙ ap (λ (r : RowsOf). rows_counted c.args.count r.names (numbered numbers r.rows)) c.shown_rows.ensures
    ∙ ap (rows_counted c.args.count shown.names)
    (numbers_shown inside (take c.args.top (drop c.args.skip all)) numbers c.self.invariant are ∙ selected_piece (places_shown inside.shown) c.args.skip c.args.top all)
    ∙ ap (λ (o : OrderedOf). rows_counted c.args.count o.rows.names (take c.args.top (drop c.args.skip o.rows.rows))) c.self.view_is)
    c.with_rows.ensures
