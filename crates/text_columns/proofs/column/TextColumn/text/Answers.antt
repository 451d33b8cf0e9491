use Rattle.std.proofs.Common.{sym, subst, arith}
use Rattle.std.specs.Str.{IsCharBoundary}
use Rattle.text_columns.specs.Places.{place_list}
use Rattle.text_columns.proofs.TextLemmas.{null-at, start-boundary, text-at, within-ends}
use Rattle.text_columns.proofs.column.TextColumn.text.Goals as goal

pub returns-then-is_marked : goal.returns-then-is_marked
returns-then-is_marked c =
    let b = c.self.inside in
    null-at b.nulls.now (place_list b.ends.now) b.bytes.now c.args.self.now c.args.row c.self.view_is c.requires (sym c.if-is_marked.ensures)

pub start_at-start-requires : goal.start_at-start-requires
start_at-start-requires c =
    let b = c.self.inside in
    within-ends b.nulls.now (place_list b.ends.now) b.bytes.now c.args.self.now c.args.row c.self.view_is c.requires

pub place_at-end-requires : goal.place_at-end-requires
place_at-end-requires c =
    let b = c.self.inside in
    within-ends b.nulls.now (place_list b.ends.now) b.bytes.now c.args.self.now c.args.row c.self.view_is c.requires

pub range-requires-clause-start_le_end : goal.range-requires-clause-start_le_end
range-requires-clause-start_le_end c =
    let b = c.self.inside in
    let lt = within-ends b.nulls.now (place_list b.ends.now) b.bytes.now c.args.self.now c.args.row c.self.view_is c.requires in
    omega (arith, c.start_at-start.ensures, c.place_at-end.ensures, (c.self.invariant.0.texts.rise c.args.row lt).0)

pub range-requires-clause-start_boundary : goal.range-requires-clause-start_boundary
range-requires-clause-start_boundary c =
    let b = c.self.inside in
    let lt = within-ends b.nulls.now (place_list b.ends.now) b.bytes.now c.args.self.now c.args.row c.self.view_is c.requires in
    λ _. subst (IsCharBoundary b.bytes.now) (sym c.start_at-start.ensures) (start-boundary b.nulls.now (place_list b.ends.now) b.bytes.now c.args.row c.self.invariant.0.texts lt)

pub range-requires-clause-end_boundary : goal.range-requires-clause-end_boundary
range-requires-clause-end_boundary c =
    let b = c.self.inside in
    let lt = within-ends b.nulls.now (place_list b.ends.now) b.bytes.now c.args.self.now c.args.row c.self.view_is c.requires in
    subst (IsCharBoundary b.bytes.now) (sym c.place_at-end.ensures) (c.self.invariant.0.texts.boundaries c.args.row lt)

pub returns : goal.returns
returns c =
    let b = c.self.inside in
    text-at b.nulls.now (place_list b.ends.now) b.bytes.now c.range.result.now c.args.self.now c.args.row c.start_at-start.result c.place_at-end.result c.self.view_is c.requires (sym c.if-is_marked.ensures)
    c.start_at-start.ensures c.place_at-end.ensures c.range.ensures.value
