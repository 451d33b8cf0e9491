use Rattle.std.proofs.Common.{◌<◌, length, map, sym, subst, ap, ◌∙◌, arith}
use Rattle.std.specs.List.{All, AllByRecursion}
use Rattle.std.proofs.lemmas.List.{length-map}
use Rattle.row_columns.specs.Columns.{ColumnsOf}
use Rattle.row_columns.specs.Picked.{numbered}
use Rattle.row_columns.specs.Store.{end_of, stored_row}
use Rattle.row_columns.proofs.RowLemmas.{all_renumbered, rows_renumbered}
use Rattle.row_columns.proofs.columns.Columns.put_in_order.Goals as goal

pub invariant_of-self : goal.invariant_of-self
invariant_of-self c =
    let store = c.self.inside.store in
    let numbers = c.self.inside.numbers in
    let places = c.args.numbers.now in
    let within : All (λ place. place < length numbers) places =
    λ k d h. omega (arith, c.requires k d h, ap (λ (s : ColumnsOf). length s.rows) c.self.view_is, length-map numbers (stored_row store)) in
    let made = c.in_ok-self-inside.ensures in
    record {
      wide = c.self.invariant.wide;
      within = subst (AllByRecursion (λ n. n < end_of store)) (sym made) (all_renumbered (end_of store) numbers places c.self.invariant.within within);
    }

pub returns-clause-rows : goal.returns-clause-rows
returns-clause-rows c =
    let store = c.self.inside.store in
    let numbers = c.self.inside.numbers in
    let places = c.args.numbers.now in
    let within : All (λ place. place < length numbers) places =
    λ k d h. omega (arith, c.requires k d h, ap (λ (s : ColumnsOf). length s.rows) c.self.view_is, length-map numbers (stored_row store)) in
    let made = c.in_ok-self-inside.ensures in
    ap (map (stored_row store)) made ∙ rows_renumbered (stored_row store) numbers places within ∙ ap (λ (s : ColumnsOf). numbered places s.rows) c.self.view_is
