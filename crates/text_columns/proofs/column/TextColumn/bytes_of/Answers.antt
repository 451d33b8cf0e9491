use Rattle.std.proofs.Common.{ap, length, arith}
use Rattle.text_columns.specs.Places.{place_list}
use Rattle.text_columns.proofs.SearchLemmas.{rows-within, texts-in}
use Rattle.text_columns.proofs.TextLemmas.{within-ends}
use Rattle.text_columns.proofs.column.TextColumn.bytes_of.Goals as goal

pub start_at-start-requires : goal.start_at-start-requires
start_at-start-requires c =
    let b = c.self.inside in
    within-ends b.nulls.now (place_list b.ends.now) b.bytes.now c.args.self.now c.args.first c.self.view_is (omega (arith, c.requires.order, c.requires.within))

pub place_at-end-requires : goal.place_at-end-requires
place_at-end-requires c =
    let b = c.self.inside in
    within-ends b.nulls.now (place_list b.ends.now) b.bytes.now c.args.self.now c.args.last c.self.view_is c.requires.within

pub slice_bounds-result-count : goal.slice_bounds-result-count
slice_bounds-result-count c =
    let b = c.self.inside in
    let in_bytes =
    rows-within b.nulls.now (place_list b.ends.now) b.bytes.now c.args.self.now c.args.first c.args.last c.start_at-start.result c.place_at-end.result
    c.self.invariant.0.texts.rise c.self.view_is c.requires.order c.requires.within c.start_at-start.ensures c.place_at-end.ensures in
    omega (arith, in_bytes.0, in_bytes.1, ap length c.as_bytes.ensures.value)

pub slice_bounds-result-start : goal.slice_bounds-result-start
slice_bounds-result-start c =
    let b = c.self.inside in
    let in_bytes =
    rows-within b.nulls.now (place_list b.ends.now) b.bytes.now c.args.self.now c.args.first c.args.last c.start_at-start.result c.place_at-end.result
    c.self.invariant.0.texts.rise c.self.view_is c.requires.order c.requires.within c.start_at-start.ensures c.place_at-end.ensures in
    omega (arith, in_bytes.0, in_bytes.1, ap length c.as_bytes.ensures.value)

pub slice_bounds-result-end : goal.slice_bounds-result-end
slice_bounds-result-end c =
    let b = c.self.inside in
    let in_bytes =
    rows-within b.nulls.now (place_list b.ends.now) b.bytes.now c.args.self.now c.args.first c.args.last c.start_at-start.result c.place_at-end.result
    c.self.invariant.0.texts.rise c.self.view_is c.requires.order c.requires.within c.start_at-start.ensures c.place_at-end.ensures in
    omega (arith, in_bytes.0, in_bytes.1, ap length c.as_bytes.ensures.value)

pub returns : goal.returns
returns c =
    let b = c.self.inside in
    let ends = place_list b.ends.now in
    let h = within-ends b.nulls.now ends b.bytes.now c.args.self.now c.args.last c.self.view_is c.requires.within in
    rw (c.start_at-start.ensures, c.place_at-end.ensures, c.as_bytes.ensures.value)
    (texts-in b.nulls.now ends b.bytes.now c.args.self.now c.args.first c.args.last c.self.invariant.0.texts.rise c.self.view_is h)
