use Rattle.std.proofs.Common.{◌≡◌, ◌+ℤ◌, pos, [], false, true, Some, get_or, refl, sym, ap, ◌∙◌}
use Rattle.std.specs.Vec.{with_item}
use Rattle.std.proofs.lemmas.List.{get_or_read}
use Rattle.std.proofs.lemmas.Result.{on_ok_weaker}
use Rattle.cell_types.specs.Kind.{cell_of}
use Rattle.cell_types.specs.Value.{value_view}
use Rattle.query_meaning.specs.Apply.{value_at}
use Rattle.aggregate_rows.proofs.DistinctLemmas.{marked_again, marked_now, value_joined}
use Rattle.row_codes.proofs.KeptLaws.{value_here}
use Rattle.aggregate_rows.proofs.RowLemmas.{value_there}
use Rattle.aggregate_rows.proofs.distinct.Distinct.join_row.Goals as goal
use Rattle.aggregate_rows.proofs.distinct.Distinct.join_row.Goals.{in-Some, in-None}

pub returns-in_default-clause-joins : goal.returns-in_default-clause-joins
returns-in_default-clause-joins c =
    let old = c.args.self.now in
    let new = record old { values = c.join_value.new.values } in
    let rows = c.args.row.columns.now.rows in
    let v = value_at (get_or rows c.args.row.number []) c.args.place in
    on_ok_weaker c.join_value.result (λ joins. value_joined old new v refl refl refl
    (rw (value_there rows c.args.row.number c.args.place (value_view c.value.result) c.value.ensures) joins)) c.join_value.ensures

pub returns-in_ok-join_value-clause-joins : goal.returns-in_ok-join_value-clause-joins
returns-in_ok-join_value-clause-joins c =
    let old = c.args.self.now in
    let rows = c.args.row.columns.now.rows in
    let row = c.args.row.number in
    let place = c.args.place in
    let mark = c.in-Some-mark_of.mark in
    let v = value_at (get_or rows row []) place in
    let at = rw c.in-Some-mark_of.is at c.mark_of.ensures in
    let is : v ≡ cell_of old.kind (Some (old.span.least +ℤ pos mark)) = elim c.match-marked.branch [
      | in-Some w ↦ value_here old.kind place rows w.in-Some.column.now (rw w.in-Some.is at c.requires.marked) row ∙ ap (cell_of old.kind) (sym w.number-number.ensures ∙ sym w.number-is ∙ at.1)
      | in-None w ↦ absurd (cc)
    ] in
    marked_now c.values_are_ordered.ensures.equal old mark v is (record old { values = c.join_value-then-not-index.new.values; marks = with_item old.marks mark true }) refl refl refl
    (rw (value_there rows row place (value_view c.value-then-not-index.result) c.value-then-not-index.ensures) c.in_ok-join_value.ensures)

pub returns-else-not-index-clause-joins : goal.returns-else-not-index-clause-joins
returns-else-not-index-clause-joins c =
    let old = c.args.self.now in
    let rows = c.args.row.columns.now.rows in
    let row = c.args.row.number in
    let place = c.args.place in
    let mark = c.in-Some-mark_of.mark in
    let v = value_at (get_or rows row []) place in
    let at = rw c.in-Some-mark_of.is at c.mark_of.ensures in
    let is : v ≡ cell_of old.kind (Some (old.span.least +ℤ pos mark)) = elim c.match-marked.branch [
      | in-Some w ↦ value_here old.kind place rows w.in-Some.column.now (rw w.in-Some.is at c.requires.marked) row ∙ ap (cell_of old.kind) (sym w.number-number.ensures ∙ sym w.number-is ∙ at.1)
      | in-None w ↦ absurd (cc)
    ] in
    marked_again c.values_are_ordered.ensures.equal old mark v is (sym (get_or_read old.marks.items mark c.index.result.now at.0 c.index.ensures false) ∙ c.if-not-index.false)
