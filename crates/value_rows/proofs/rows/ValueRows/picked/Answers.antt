use Rattle.std.proofs.Common.{◌≡◌, ◌≤◌, ◌+◌, ◌++◌, ◌∷◌, suc, [], get_or, length, map, sym, ap, ◌∙◌, arith}
use Rattle.std.proofs.lemmas.List.{length-append, length-map, map_more, take_all}
use Rattle.cell_types.specs.Rows.{value_at, values_at}
use Rattle.value_rows.specs.ValueRows.{rows_of, ValueRowsOf}
use Rattle.value_rows.proofs.RowLaws.{rows-long, rows-more}
use Rattle.value_rows.proofs.rows.ValueRows.picked.Goals as goal

pub loop-number-preserved : goal.loop-number-preserved
loop-number-preserved c =
    let places = c.args.places.now in
    let i = c.loop-number.number in
    let width = length places in
    let old = c.loop-number.values in
    let new = c.push_picked.new.values in
    let rows = c.args.self.now.rows in
    let row = get_or rows i [] in
    let made : new ≡ old ++ values_at places row = c.in_ok-push_picked.ensures in
    let more : suc i ≡ i + 1 = omega arith in
    record {
      most = omega (arith, c.loop-number-test.true, ap (λ (v : ValueRowsOf). length v.rows) c.self.view_is, rows-long c.self.inside.width c.self.inside.count c.self.inside.values);
      long = omega (arith, ap length made, length-append old (values_at places row), length-map places (value_at row), c.loop-number.invariant.long);
      rows = sym (ap (λ n. rows_of width n new) more) ∙ ap (rows_of width (suc i)) made
          ∙ rows-more width i old (values_at places row) c.loop-number.invariant.long (length-map places (value_at row))
          ∙ ap (λ rs. rs ++ values_at places row ∷ []) c.loop-number.invariant.rows
          ∙ sym (map_more (values_at places) rows i [] (omega (arith, c.loop-number-test.true, ap (λ (v : ValueRowsOf). length v.rows) c.self.view_is, rows-long c.self.inside.width c.self.inside.count c.self.inside.values)));
    }

pub push_picked-requires-clause-row : goal.push_picked-requires-clause-row
push_picked-requires-clause-row c = omega (arith, c.loop-number-test.true, ap (λ (v : ValueRowsOf). length v.rows) c.self.view_is, rows-long c.self.inside.width c.self.inside.count c.self.inside.values)

pub returns-clause-rows : goal.returns-clause-rows
returns-clause-rows c =
    let places = c.args.places.now in
    let rows = c.args.self.now.rows in
    let i = c.loop-number.number in
    let end : i ≡ c.self.inside.count = omega (arith, c.loop-number-test.false, c.loop-number.invariant.most, ap (λ (v : ValueRowsOf). length v.rows) c.self.view_is, rows-long c.self.inside.width c.self.inside.count c.self.inside.values) in
    let whole : length rows ≤ i = omega (arith, c.loop-number-test.false, ap (λ (v : ValueRowsOf). length v.rows) c.self.view_is, rows-long c.self.inside.width c.self.inside.count c.self.inside.values) in
    ap (λ (v : ValueRowsOf). v.rows) c.of.ensures ∙ ap (λ n. rows_of (length places) n c.loop-number.values) (sym end) ∙ c.loop-number.invariant.rows ∙ ap (map (values_at places)) (take_all i rows whole)
