use Rattle.std.proofs.Common.{◌≡◌, ◌∙◌, List, ap, drop, length, map, sym}
use Rattle.std.proofs.lemmas.List.{drop-map}
use Rattle.cell_types.specs.Value.{CellValue}
use Rattle.sort_rows.specs.Runs.{stream_rows, with_values}
use Rattle.result_rows.proofs.skip.skip_rows.Goals as goal

pub pass_rows-requires : goal.pass_rows-requires
pass_rows-requires c = rw (c.deref-2.ensures.value, c.after-columns.ensures, c.deref.ensures.value) c.requires

pub returns-clause-sorted_rows : goal.returns-clause-sorted_rows
returns-clause-sorted_rows c = rw (c.deref-2.ensures.value, c.after-columns.ensures, c.deref.ensures.value) at c.pass_rows.ensures.streams

pub returns-clause-left : goal.returns-clause-left
returns-clause-left c =
    let order = c.args.order.now in
    let seen = with_values order c.args.columns.now.rows in
    let f : List CellValue → List CellValue = drop (length order.computed.items) in
    let left : stream_rows order.plain.items seen c.pass_rows.new.stream ≡ drop c.args.count (stream_rows order.plain.items seen order.stream) =
    rw (c.deref-2.ensures.value, c.after-columns.ensures, c.deref.ensures.value) at c.pass_rows.ensures.left in
    ap (map f) left ∙ sym (drop-map f c.args.count (stream_rows order.plain.items seen order.stream))
