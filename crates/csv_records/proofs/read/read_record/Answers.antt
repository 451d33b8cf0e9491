use Rattle.std.proofs.Common.{ℕ, List, map, subst, sym}
use Rattle.std.specs.Cow.{cow_slice_items}
use Rattle.csv_records.specs.Exchange.{IsFirstRecord, exchanged}
use Rattle.csv_records.proofs.ReadLemmas.{AreClosed, closed_more, record_read}
use Rattle.csv_records.proofs.read.read_record.Goals as goal

pub loop-cells-preserved : goal.loop-cells-preserved
loop-cells-preserved c =
    let E : List ℕ → List ℕ = λ l. map (exchanged c.args.separator) l in
    let P : List (List ℕ) → Type 0 = λ cells. AreClosed c.args.separator (E c.args.text.now) (E c.in-Some.rest.now) cells in
    subst P (sym c.in_ok-push_cell.ensures)
    (closed_more c.args.separator (E c.args.text.now) (E c.loop-cells.left.now) (cow_slice_items c.in_ok-read.read.cell) (E c.in_ok-read.read.rest.now) (E c.in-Some.rest.now)
    (map cow_slice_items c.loop-cells.cells.items) c.loop-cells.invariant c.in_ok-read.ensures c.in-Some.ensures)

pub returns-in_default : goal.returns-in_default
returns-in_default c =
    let E : List ℕ → List ℕ = λ l. map (exchanged c.args.separator) l in
    let P : List (List ℕ) → Type 0 = λ cells. IsFirstRecord c.args.separator (E c.args.text.now) cells (E c.in-Some-after_end.rest.now) in
    subst P (sym c.in_ok-push_cell.ensures)
    (record_read c.args.separator (E c.args.text.now) (E c.loop-cells.left.now) (cow_slice_items c.in_ok-read.read.cell) (E c.in_ok-read.read.rest.now)
    (E c.in-Some-after_end.rest.now) (map cow_slice_items c.loop-cells.cells.items) c.loop-cells.invariant c.in_ok-read.ensures c.in-Some-after_end.ensures)
