use Rattle.std.proofs.Common.{◌≡◌, ◌<◌, List, Some, option_map, length, length-set, map, slice_get, inl, inr, subst, sym, ap, ◌∙◌, arith}
use Rattle.std.proofs.lemmas.List.{length-map}
use Rattle.std.proofs.lemmas.Option.{same_Some, slice_get-map, slice_get_within}
use Rattle.cell_types.specs.Column.{column_view}
use Rattle.column_blocks.specs.ColumnReader.{ReaderOf, with_cells}
use Rattle.column_blocks.specs.Parts.{part_cells, PartHasValues}
use Rattle.file_cells.proofs.PartLemmas.{no_fault, part_put, values_put}
use Rattle.file_cells.proofs.PlaceLemmas.{slice_get-from_read}
use Rattle.file_cells.proofs.ReaderLemmas.{slice_get-set_other}
use Rattle.file_cells.proofs.parts.read_columns.Goals as goal

pub index_mut-requires : goal.index_mut-requires
index_mut-requires c =
    omega (arith, c.loop-col.invariant.count, c.requires.readers.count, length-map c.args.columns.now column_view, c.loop-col-test.true, c.loop-col.readers.ok.0)

pub read_part-requires : goal.read_part-requires
read_part-requires c =
    let col = c.loop-col.col in
    let columns = c.args.columns.now in
    let column = c.index-columns-col.result in
    let readers : List ReaderOf = c.loop-col.readers.items in
    let reader : ReaderOf = c.index_mut.result.now in
    let at = slice_get-map column_view columns col ∙ ap (option_map column_view) (slice_get-from_read columns col column c.loop-col-test.true c.index-columns-col.is) in
    let within : col < length readers = omega (arith, c.loop-col.invariant.count, c.requires.readers.count, length-map columns column_view, c.loop-col-test.true) in
    let was : slice_get c.args.readers.now.items col ≡ Some reader =
    sym (c.loop-col.invariant.unread col (omega arith)) ∙ slice_get-from_read readers col reader within c.index_mut.ensures.value in
    let has = c.requires.readers.each col (column_view column) reader at was in
    record { column = has.kind; room = has.room; col = omega (arith, c.requires.width, c.loop-col-test.true) }

pub returns-in-Err-clause-fault : goal.returns-in-Err-clause-fault
returns-in-Err-clause-fault c =
    let col = c.loop-col.col in
    let columns = c.args.columns.now in
    let column = c.index-columns-col.result in
    let at = slice_get-map column_view columns col ∙ ap (option_map column_view) (slice_get-from_read columns col column c.loop-col-test.true c.index-columns-col.is) in
    elim c.in-Err.ensures.fault [
      | inl memory ↦ inl memory
      | inr bad ↦ inr (λ all. no_fault (column_view column) col c.args.part.now.rows _ (all col (column_view column) at) bad)
    ]

pub loop-col-preserved : goal.loop-col-preserved
loop-col-preserved c =
    let col = c.loop-col.col in
    let columns = c.args.columns.now in
    let column = c.index-columns-col.result in
    let part = c.args.part.now.rows in
    let readers : List ReaderOf = c.loop-col.readers.items in
    let reader : ReaderOf = c.index_mut.result.now in
    let new : ReaderOf = c.read_part.new.self in
    let at = slice_get-map column_view columns col ∙ ap (option_map column_view) (slice_get-from_read columns col column c.loop-col-test.true c.index-columns-col.is) in
    let within : col < length readers = omega (arith, c.loop-col.invariant.count, c.requires.readers.count, length-map columns column_view, c.loop-col-test.true) in
    let was : slice_get c.args.readers.now.items col ≡ Some reader =
    sym (c.loop-col.invariant.unread col (omega arith)) ∙ slice_get-from_read readers col reader within c.index_mut.ensures.value in
    record {
      count = length-set readers col new ∙ c.loop-col.invariant.count;
      values = values_put (map column_view columns) part col c.loop-col.invariant.values
          (λ other e. subst (λ x. PartHasValues x col part) (same_Some (column_view column) other (sym at ∙ e)) c.in-Ok.ensures.values);
      read = part_put (map column_view columns) part c.args.readers.now.items readers col new within c.loop-col.invariant.read
          (λ other before e f. c.in-Ok.ensures.cells
          ∙ ap (λ r. with_cells r (part_cells (column_view column) col part)) (same_Some reader before (sym was ∙ f))
          ∙ ap (λ x. with_cells before (part_cells x col part)) (same_Some (column_view column) other (sym at ∙ e)));
      unread = λ k past.
          slice_get-set_other readers col k new (λ e. absurd (omega (arith, e, past)))
          ∙ c.loop-col.invariant.unread k (omega (arith, past));
    }

pub returns-clause-values : goal.returns-clause-values
returns-clause-values c col column at =
    c.loop-col.invariant.values col column
    (omega (arith, slice_get_within (map column_view c.args.columns.now) col column at, length-map c.args.columns.now column_view, c.loop-col-test.false)) at

pub returns-clause-readers : goal.returns-clause-readers
returns-clause-readers c = record {
  count = c.loop-col.invariant.count;
  each = λ col column reader at is.
      c.loop-col.invariant.read col column reader
      (omega (arith, slice_get_within (map column_view c.args.columns.now) col column at, length-map c.args.columns.now column_view, c.loop-col-test.false)) at is;
}
