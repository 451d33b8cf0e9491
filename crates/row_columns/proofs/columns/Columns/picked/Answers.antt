use Rattle.std.proofs.Common.{◌<◌, get_or, length, map, ap, arith}
use Rattle.std.specs.List.{All}
use Rattle.std.proofs.lemmas.List.{length-map}
use Rattle.row_columns.specs.Columns.{ColumnsOf}
use Rattle.row_columns.specs.Store.{end_of, stored_row}
use Rattle.row_columns.proofs.RowLemmas.{all_renumbered, rows_picked, rows_renumbered}
use Rattle.row_columns.proofs.columns.Columns.picked.Goals as goal

pub invariant_of-result : goal.invariant_of-result
invariant_of-result c =
    let store = c.self.inside.store in
    let numbers = c.self.inside.numbers in
    let chosen = c.args.numbers.now in
    let within : All (λ place. place < length numbers) chosen =
    λ k d h. omega (arith, c.requires.within k d h, ap (λ (s : ColumnsOf). length s.rows) c.self.view_is, length-map numbers (stored_row store)) in
    record {
      wide = c.in_ok-store.ensures.wide;
      within = rw (c.in_ok-store.ensures.end, c.in_ok-numbers.ensures) (all_renumbered (end_of store) numbers chosen c.self.invariant.within within);
    }

pub returns-clause-rows : goal.returns-clause-rows
returns-clause-rows c =
    let store = c.self.inside.store in
    let new = c.in_ok-store.store in
    let numbers = c.self.inside.numbers in
    let chosen = c.args.numbers.now in
    let places = c.args.places.now in
    let within : All (λ place. place < length numbers) chosen =
    λ k d h. omega (arith, c.requires.within k d h, ap (λ (s : ColumnsOf). length s.rows) c.self.view_is, length-map numbers (stored_row store)) in
    rw (c.in_ok-numbers.ensures, ← c.self.view_is, ← (rows_renumbered (stored_row store) numbers chosen within))
    (rows_picked places store new (map (λ place. get_or numbers place 0) chosen) c.in_ok-store.ensures (all_renumbered (end_of store) numbers chosen c.self.invariant.within within))
