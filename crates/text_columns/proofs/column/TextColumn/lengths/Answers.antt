use Rattle.std.proofs.Common.{◌+◌, ◌<◌, false, get_or, length, slice_range, refl, sym, ap, arith}
use Rattle.std.proofs.lemmas.Bool.{eqb-true}
use Rattle.std.proofs.lemmas.List.{nil_from_length}
use Rattle.text_columns.specs.Places.{place_list}
use Rattle.text_columns.specs.Texts.{start_from}
use Rattle.text_columns.proofs.SearchLemmas.{length-slice}
use Rattle.text_columns.proofs.TextLemmas.{length-text_cells, text-at, within-ends}
use Rattle.text_columns.proofs.column.TextColumn.lengths.Goals as goal

pub lengths_of-requires-clause-within : goal.lengths_of-requires-clause-within
lengths_of-requires-clause-within c =
    let b = c.self.inside in
    omega (arith, c.requires, ap length c.self.view_is, length-text_cells b.nulls.now (place_list b.ends.now) b.bytes.now)

pub returns-then-is_empty-clause-each : goal.returns-then-is_empty-clause-each
returns-then-is_empty-clause-each c = λ known i inside.
    let b = c.self.inside in
    let ends = place_list b.ends.now in
    let at = c.args.first + i in
    let within : at < length c.args.self.now = omega (arith, inside, c.requires, c.lengths_of.ensures.long) in
    let row = within-ends b.nulls.now ends b.bytes.now c.args.self.now at c.self.view_is within in
    let none = nil_from_length b.nulls.now (eqb-true (length b.nulls.now) 0 (sym c.if-is_empty.ensures)) in
    let rise = c.self.invariant.0.texts.rise at row in
    let apart = c.lengths_of.ensures.each known in (
      slice_range b.bytes.now (start_from 0 ends at) (get_or ends at 0),
      text-at b.nulls.now ends b.bytes.now _ c.args.self.now at _ _ c.self.view_is within (ap (λ nulls. get_or nulls at false) none) refl refl refl,
      omega (arith, apart.each i inside, rise.0, length-slice b.bytes.now (start_from 0 ends at) (get_or ends at 0) rise.0 rise.1),
    )
