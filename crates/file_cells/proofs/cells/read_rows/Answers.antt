use Rattle.std.proofs.Common.{◌≡◌, ◌+◌, inl, inr, length, take, drop, map, arith, subst, sym, ap, ◌∙◌}
use Rattle.std.proofs.lemmas.List.{length-take, take_all}
use Rattle.csv_index.specs.Parts.{PartsOf}
use Rattle.csv_fields.specs.Part.{PartOf}
use Rattle.cell_types.specs.Column.{column_view}
use Rattle.file_cells.specs.Rows.{wrong_of}
use Rattle.file_cells.specs.Parts.{ArePartReadOn}
use Rattle.file_cells.proofs.PartLemmas.{has_part, part_more, part_none, part_room, rows_more, rows_right, wrong_front, HasPart}
use Rattle.file_cells.proofs.RowLemmas.{wrong_in_rows-end}
use Rattle.file_cells.proofs.cells.read_rows.Goals.{After-part-part}
use Rattle.file_cells.proofs.cells.read_rows.Goals as goal

-- the part that is next
next_is : (c : After-part-part) → HasPart c.args.file.now.rows c.loop-row.row c.part-part.result.rows c.next.new.self.left
next_is c =
    has_part c.args.file.now.rows c.loop-row.parts.left c.part-part.result.rows c.next.new.self.left c.loop-row.row 128 c.loop-row.invariant.within (omega arith)
    c.loop-row.invariant.left (ap (λ (p : PartOf). p.rows) c.part-part.ensures ∙ ap (λ (p : PartsOf). p.part) c.next.ensures) (ap (λ (p : PartsOf). p.left) c.next.ensures)

pub loop-row-init : goal.loop-row-init
loop-row-init c =
    let first : c.args.first ≡ c.args.first + 0 = omega arith in
    record {
      within = omega arith;
      right = ap (λ n. wrong_of n (map column_view c.args.columns.now) c.args.file.now.rows) first;
      left = c.in_ok-parts.ensures.left;
      width = c.in_ok-parts.ensures.width;
      read = part_none (map column_view c.args.columns.now) c.args.readers.items;
    }

pub read_part-requires-clause-fits : goal.read_part-requires-clause-fits
read_part-requires-clause-fits c =
    let next = next_is (goal.at.read_part-requires-clause-fits c).After-part-part in
    omega (arith, next.size, c.requires.room)

pub read_part-requires-clause-readers : goal.read_part-requires-clause-readers
read_part-requires-clause-readers c =
    let columns = map column_view c.args.columns.now in
    let rows = c.args.file.now.rows in
    let row = c.loop-row.row in
    let next = next_is (goal.at.read_part-requires-clause-readers c).After-part-part in
    part_room columns (take row rows) c.args.readers.items c.loop-row.readers.items (length rows) (length c.part-part.result.rows) c.requires.readers c.loop-row.invariant.read
    (omega (arith, length-take row rows, next.size))

pub returns-in-Err-clause-bad : goal.returns-in-Err-clause-bad
returns-in-Err-clause-bad c =
    let columns = map column_view c.args.columns.now in
    let bad = c.in-Err.bad in
    let next = next_is (goal.at.returns-in-Err-clause-bad c).After-part-part in
    elim c.in-Err.ensures.fault [
      | inl memory ↦ inl memory
      | inr e ↦
          inr (c.loop-row.invariant.right ∙ ap (wrong_of (c.args.first + c.loop-row.row) columns) next.whole
          ∙ wrong_front (c.args.first + c.loop-row.row) columns c.part-part.result.rows c.next.new.self.left (bad.row, bad.col, bad.fault) e)
    ]

pub overflow_add-row : goal.overflow_add-row
overflow_add-row c =
    let next = next_is (goal.at.overflow_add-row c).After-part-part in
    omega (arith, next.size, c.rows-row.ensures, c.requires.room)

pub loop-row-preserved : goal.loop-row-preserved
loop-row-preserved c =
    let raws = c.args.file.now.rows in
    let columns = map column_view c.args.columns.now in
    let first = c.args.first in
    let row = c.loop-row.row in
    let part = c.part-part.result.rows in
    let left = c.next.new.self.left in
    let next = next_is (goal.at.loop-row-preserved c).After-part-part in
    let more = rows_more raws part left row next.whole c.loop-row.invariant.within in
    let count : row + length part ≡ row + c.rows-row.result = ap (λ n. row + n) (sym c.rows-row.ensures) in
    let place : first + row + length part ≡ first + (row + c.rows-row.result) = omega (arith, count) in
    record {
      within = omega (arith, next.size, c.rows-row.ensures);
      right = c.loop-row.invariant.right ∙ ap (wrong_of (first + row) columns) next.whole ∙ rows_right (first + row) columns part left c.in-Ok.ensures.values
          ∙ ap (wrong_of (first + row + length part) columns) next.behind
          ∙ ap (λ n. wrong_of n columns (drop (row + length part) raws)) place ∙ ap (λ n. wrong_of (first + (row + c.rows-row.result)) columns (drop n raws)) count;
      left = next.behind ∙ ap (λ n. drop n raws) count;
      width = ap (λ (p : PartsOf). p.width) c.next.ensures ∙ c.loop-row.invariant.width;
      read = subst (λ rs. ArePartReadOn columns rs c.args.readers.items c.read_part.new.readers.items) (sym more ∙ ap (λ n. take n raws) count)
          (part_more columns (take row raws) part c.args.readers.items c.loop-row.readers.items c.read_part.new.readers.items c.loop-row.invariant.read c.in-Ok.ensures.readers);
    }

pub returns-clause-read : goal.returns-clause-read
returns-clause-read c =
    let columns = map column_view c.args.columns.now in
    let rows = c.args.file.now.rows in
    subst (λ rs. ArePartReadOn columns rs c.args.readers.items c.loop-row.readers.items) (take_all c.loop-row.row rows (omega (arith, c.loop-row-test.false))) c.loop-row.invariant.read
