use Rattle.std.proofs.Common.{◌+◌, ◌<◌, length, rules, arith}
use Rattle.std.proofs.lemmas.List.{take_rest}
use Rattle.text_columns.specs.Places.{place_list}
use Rattle.text_columns.proofs.SearchLemmas.{all-right, found-hit, found-over, hit-at, hit-marked, nowhere-before, nowhere-from, passed-right}
use Rattle.text_columns.proofs.search.mark_hits.Goals as goal

pub returns-then-row-out-clause-marks : goal.returns-then-row-out-clause-marks
returns-then-row-out-clause-marks c =
    let found = c.loop-found.invariant in
    let none = nowhere-before c.args.bytes.now c.args.part.now _ c.loop-found.from c.in-Some.found c.in-Some.ensures.0.before (search (rules, take_rest)) in
    λ r h. passed-right c.args.nulls.now (place_list c.args.ends.now) c.args.bytes.now c.args.part.now c.loop-found.out c.loop-found.row c.loop-found.from c.row_past-row.result (c.loop-found.from + c.in-Some.found)
    c.requires.part c.requires.rise found none c.row_past-row.ensures.before c.row_past-row.ensures.within.1 r (omega (arith, h, c.if-row-out.true))

pub loop-found-preserved-then-part-end : goal.loop-found-preserved-then-part-end
loop-found-preserved-then-part-end c =
    let found = c.loop-found.invariant in
    let none = nowhere-before c.args.bytes.now c.args.part.now _ c.loop-found.from c.in-Some.found c.in-Some.ensures.0.before (search (rules, take_rest)) in
    let occurs = hit-at c.args.bytes.now c.args.part.now _ c.loop-found.from c.in-Some.found c.in-Some.ensures.1 (search (rules, take_rest)) found.within in
    let lt : c.row_past-row.result < length (place_list c.args.ends.now) = omega (arith, c.if-row-out.false, found.long) in
    hit-marked c.args.nulls.now (place_list c.args.ends.now) c.args.bytes.now c.args.part.now c.loop-found.out c.loop-found.row c.loop-found.from c.row_past-row.result (c.loop-found.from + c.in-Some.found) c.place_at-end.result c.is_marked.result
    c.is_marked.ensures c.place_at-end.ensures
    (found-hit c.args.nulls.now (place_list c.args.ends.now) c.args.bytes.now c.args.part.now c.loop-found.out c.loop-found.row c.loop-found.from c.row_past-row.result (c.loop-found.from + c.in-Some.found)
    c.requires.part c.requires.rise found (omega arith) none occurs c.row_past-row.ensures.within.0 lt c.row_past-row.ensures.before
    (omega (arith, c.if-part-end.true, c.place_at-end.ensures, c.row_past-row.ensures.past lt)))

pub loop-found-preserved : goal.loop-found-preserved
loop-found-preserved c =
    let found = c.loop-found.invariant in
    let none = nowhere-before c.args.bytes.now c.args.part.now _ c.loop-found.from c.in-Some.found c.in-Some.ensures.0.before (search (rules, take_rest)) in
    let occurs = hit-at c.args.bytes.now c.args.part.now _ c.loop-found.from c.in-Some.found c.in-Some.ensures.1 (search (rules, take_rest)) found.within in
    let lt : c.row_past-row.result < length (place_list c.args.ends.now) = omega (arith, c.if-row-out.false, found.long) in
    found-over c.args.nulls.now (place_list c.args.ends.now) c.args.bytes.now c.args.part.now c.loop-found.out c.loop-found.row c.loop-found.from c.row_past-row.result (c.loop-found.from + c.in-Some.found)
    c.requires.part c.requires.rise found (omega arith) none occurs c.row_past-row.ensures.within.0 lt c.row_past-row.ensures.before (c.row_past-row.ensures.past lt)
    (omega (arith, c.if-part-end.false, c.place_at-end.ensures, c.row_past-row.ensures.past lt))

pub returns-clause-marks : goal.returns-clause-marks
returns-clause-marks c =
    let found = c.loop-found.invariant in
    let none = nowhere-from c.args.bytes.now c.args.part.now _ c.loop-found.from c.in_default.ensures (search (rules, take_rest)) in
    λ r h. all-right c.args.nulls.now (place_list c.args.ends.now) c.args.bytes.now c.args.part.now c.loop-found.out c.loop-found.row c.loop-found.from c.requires.rise found none r (omega (arith, h, found.long))
