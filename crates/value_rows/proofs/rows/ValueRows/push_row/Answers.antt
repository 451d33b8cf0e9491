use Rattle.std.proofs.Common.{◌≡◌, ◌+◌, ◌*◌, ◌++◌, ◌∷◌, suc, [], get_or, length, take, sym, ap, ◌∙◌, arith}
use Rattle.std.proofs.lemmas.List.{length-append, length-map, length-take-le}
use Rattle.cell_types.specs.Rows.{value_at, values_at}
use Rattle.value_rows.specs.ValueRows.{rows_of, ValueRowsOf}
use Rattle.value_rows.proofs.RowLaws.{rows-cut, rows-more}
use Rattle.value_rows.proofs.rows.ValueRows.push_row.Goals as goal

pub invariant_of-self-2 : goal.invariant_of-self-2
invariant_of-self-2 c =
    let values = c.self.inside.values in
    let width = c.self.inside.width in
    let places = c.args.places.now in
    let row = get_or c.args.block.now.rows c.args.row [] in
    let cut = c.truncate.new.self in
    let wide : width ≡ length places = ap (λ (v : ValueRowsOf). v.width) c.self.view_is ∙ c.requires.width in
    let is : c.in-Some.count ≡ c.self.inside.count + 1 = omega (arith, c.in-Some.ensures) in
    let before : length cut ≡ c.self.inside.count * width = ap length c.truncate.ensures ∙ length-take-le (c.self.inside.count * width) values c.self.invariant in
    rw is (omega (arith, wide, before, ap length c.in_ok-push_taken.ensures.values, length-append cut (values_at places row), length-map places (value_at row)))

pub returns-clause-rows : goal.returns-clause-rows
returns-clause-rows c =
    let values = c.self.inside.values in
    let width = c.self.inside.width in
    let count = c.self.inside.count in
    let places = c.args.places.now in
    let row = get_or c.args.block.now.rows c.args.row [] in
    let new = c.push_taken.new.values in
    let wide : width ≡ length places = ap (λ (v : ValueRowsOf). v.width) c.self.view_is ∙ c.requires.width in
    let is : c.in-Some.count ≡ count + 1 = omega (arith, c.in-Some.ensures) in
    let next : count + 1 ≡ suc count = omega arith in
    let made : new ≡ take (count * width) values ++ values_at places row = c.in_ok-push_taken.ensures.values ∙ ap (λ xs. xs ++ values_at places row) c.truncate.ensures in
    ap (λ n. rows_of width n new) (is ∙ next) ∙ ap (rows_of width (suc count)) made
    ∙ rows-more width count (take (count * width) values) (values_at places row) (length-take-le (count * width) values c.self.invariant) (length-map places (value_at row) ∙ sym wide)
    ∙ ap (λ rs. rs ++ values_at places row ∷ []) (rows-cut width count values c.self.invariant ∙ ap (λ (v : ValueRowsOf). v.rows) c.self.view_is)
