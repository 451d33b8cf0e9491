-- The fields after the last of the row above.
use Rattle.std.proofs.Common.{◌≡◌, ℕ, ◌+◌, ◌-◌, ◌*◌, ◌≤◌, ◌<◌, length, drop, add-one, subst, arith, sym, ap, ◌∙◌}
use Rattle.csv_index.specs.Index.{Places}
use Rattle.csv_index.proofs.Boundaries.{boundary_next}
use Rattle.csv_index.proofs.CellLemmas.{cell_fits, start_before, fields_behind}
use Rattle.csv_index.proofs.RowLemmas.{fields-table_in}
use Rattle.csv_index.proofs.index.Index.fields.Goals as goal

pub overflow_add-before : goal.overflow_add-before
overflow_add-before c =
    let f = cell_fits c.args.self.now c.args.bytes.now c.args.row c.requires.bytes c.requires.row in omega (arith, f.0, f.1, f.2)

pub overflow_mul-before : goal.overflow_mul-before
overflow_mul-before c =
    let f = cell_fits c.args.self.now c.args.bytes.now c.args.row c.requires.bytes c.requires.row in
    let most : (c.args.row + 1) * c.args.self.now.width ≤ length c.args.bytes.now + 1 = omega (arith, f.1, f.2) in
    let here : (c.args.row + 1) * c.self.inside.width ≤ length c.args.bytes.now + 1 = rw (← c.self.view_is) at most in
    omega arith

pub overflow_add-result : goal.overflow_add-result
overflow_add-result c =
    omega (arith, (start_before c.args.self.now.start (length c.args.bytes.now) c.args.self.now.ends _ c.end_of.result c.requires.bytes.rise c.end_of.ensures).1)

pub invariant_of-result : goal.invariant_of-result
invariant_of-result c =
    let f = cell_fits c.args.self.now c.args.bytes.now c.args.row c.requires.bytes c.requires.row in
    let same : (c.args.row + 1) * c.args.self.now.width ≡ (c.args.row + 1) * c.self.inside.width = ap (λ (p : Places). (c.args.row + 1) * p.width) (sym c.self.view_is) in
    let number : (c.args.row + 1) * c.args.self.now.width ≡ (c.args.row + 1) * c.self.inside.width - 1 + 1 = omega (arith, f.0, same) in
    let b = fields_behind c.args.self.now c.args.bytes.now c.args.row ((c.args.row + 1) * c.self.inside.width - 1) c.end_of.result c.ends_behind.result c.requires.bytes number c.end_of.ensures c.ends_behind.ensures in
    let before : ℕ = (c.args.row + 1) * c.self.inside.width - 1 in record {
      rise = b.rise;
      text = b.text;
      utf8 = c.utf8.bytes;
      boundary = λ some. boundary_next c.args.self.now.start c.args.self.now.ends c.args.bytes.now before c.end_of.result c.utf8.bytes c.requires.bytes.rise
          c.requires.bytes.ascii c.end_of.ensures (subst (λ l. 0 < length l) (c.ends_behind.ensures ∙ ap (λ k. drop k c.args.self.now.ends) (add-one before)) some);
      ascii = b.ascii;
    }

pub returns : goal.returns
returns c =
    let f = cell_fits c.args.self.now c.args.bytes.now c.args.row c.requires.bytes c.requires.row in
    let same : (c.args.row + 1) * c.args.self.now.width ≡ (c.args.row + 1) * c.self.inside.width = ap (λ (p : Places). (c.args.row + 1) * p.width) (sym c.self.view_is) in
    let number : (c.args.row + 1) * c.args.self.now.width ≡ (c.args.row + 1) * c.self.inside.width - 1 + 1 = omega (arith, f.0, same) in
    (fields_behind c.args.self.now c.args.bytes.now c.args.row ((c.args.row + 1) * c.self.inside.width - 1) c.end_of.result c.ends_behind.result c.requires.bytes number c.end_of.ensures c.ends_behind.ensures).are ∙ fields-table_in c.args.self.now c.args.bytes.now c.args.row c.requires.bytes c.requires.row
