-- The rows are the fields after those of the rows before.
use Rattle.std.proofs.Common.{◌≡◌, ◌+◌, ◌-◌, ◌*◌, ◌≤◌, length, length-set, arith, ap}
use Rattle.csv_index.specs.Index.{Places}
use Rattle.csv_index.proofs.CellLemmas.{cell_fits}
use Rattle.csv_index.proofs.PartPlaces.{first_left, part_room, parts_are, row_ends}
use Rattle.csv_index.proofs.index.Index.parts.Goals as goal

pub overflow_add-before : goal.overflow_add-before
overflow_add-before c =
    let f = cell_fits c.args.self.now c.args.bytes.now c.args.row c.requires.bytes c.requires.row in omega (arith, f.0, f.1, f.2)

pub overflow_mul-before : goal.overflow_mul-before
overflow_mul-before c =
    let f = cell_fits c.args.self.now c.args.bytes.now c.args.row c.requires.bytes c.requires.row in
    let most : (c.args.row + 1) * c.args.self.now.width ≤ length c.args.bytes.now + 1 = omega (arith, f.1, f.2) in
    let here : (c.args.row + 1) * c.self.inside.width ≤ length c.args.bytes.now + 1 = rw (← c.self.view_is) at most in
    omega arith

pub overflow_mul-min : goal.overflow_mul-min
overflow_mul-min c =
    omega (
      arith,
      part_room c.args.self.now c.args.bytes.now 128 c.min.result (c.self.inside.rows - c.args.row) c.self.inside.width c.requires.bytes
          (omega (arith, ap (λ (p : Places). p.rows) c.self.view_is)) (ap (λ (p : Places). p.width) c.self.view_is) c.min.ensures,
    )

pub overflow_add-min : goal.overflow_add-min
overflow_add-min c =
    omega (
      arith,
      part_room c.args.self.now c.args.bytes.now 128 c.min.result (c.self.inside.rows - c.args.row) c.self.inside.width c.requires.bytes
          (omega (arith, ap (λ (p : Places). p.rows) c.self.view_is)) (ap (λ (p : Places). p.width) c.self.view_is) c.min.ensures,
    )

pub invariant_of-result : goal.invariant_of-result
invariant_of-result c =
    let left : c.self.inside.rows - c.args.row ≡ c.args.self.now.rows - c.args.row = ap (λ (p : Places). p.rows - c.args.row) c.self.view_is in
    let width = ap (λ (p : Places). p.width) c.self.view_is in
    let are = row_ends c.args.self.now c.args.bytes.now c.args.row ((c.args.row + 1) * c.self.inside.width - 1) (c.self.inside.rows - c.args.row) c.self.inside.width
    c.end_of.result c.ends_behind.result c.utf8.bytes c.requires.bytes c.requires.row left width (omega arith) c.end_of.ensures c.ends_behind.ensures in
    let items = c.in_ok-places.places.items in
    let size : length items ≡ c.min.result * c.self.inside.width + 1 = omega (arith, c.in_ok-places.ensures.len, c.in_ok-places.places.ok.0) in
    let long = length-set items 0 c.end_of.result in
    record {
      places = omega (arith, size, long);
      room = omega (arith, size, long, ap (λ k. k * c.self.inside.width) c.min.ensures);
      ends = first_left items c.ends_behind.result c.args.bytes.now c.self.inside.width c.end_of.result (omega (arith, size)) are.left_are;
      count = are.count;
    }

pub returns : goal.returns
returns c =
    let left : c.self.inside.rows - c.args.row ≡ c.args.self.now.rows - c.args.row = ap (λ (p : Places). p.rows - c.args.row) c.self.view_is in
    let width = ap (λ (p : Places). p.width) c.self.view_is in
    let are = row_ends c.args.self.now c.args.bytes.now c.args.row ((c.args.row + 1) * c.self.inside.width - 1) (c.self.inside.rows - c.args.row) c.self.inside.width
    c.end_of.result c.ends_behind.result c.utf8.bytes c.requires.bytes c.requires.row left width (omega arith) c.end_of.ensures c.ends_behind.ensures in
    let size : length c.in_ok-places.places.items ≡ c.min.result * c.self.inside.width + 1 = omega (arith, c.in_ok-places.ensures.len, c.in_ok-places.places.ok.0) in
    parts_are c.args.self.now c.args.bytes.now c.in_ok-places.places.items c.ends_behind.result c.args.row (c.self.inside.rows - c.args.row) c.self.inside.width c.end_of.result
    (omega (arith, size)) c.requires.row left width are
