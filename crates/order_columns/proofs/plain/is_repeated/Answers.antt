use Rattle.std.proofs.Common.{◌≡◌, ◌<◌, get_or, length, rules}
use Rattle.order_columns.proofs.RepeatLemmas.{nothing_again}
use Rattle.order_columns.proofs.plain.is_repeated.Goals as goal

pub returns-then-is_column : goal.returns-then-is_column
returns-then-is_column c = λ yes.
    let before = c.args.before.now in
    let i = c.loop-other.other-index in
    let other = c.other-item.result in
    let inside : i < length before = search rules in
    let at : get_or before i other ≡ other = search rules in
    nothing_again c.values_are_ordered.ensures.total before i other c.args.item.now c.in-Some.column inside at (c.is_column.ensures c.if-is_column.true) c.in-Some.ensures
