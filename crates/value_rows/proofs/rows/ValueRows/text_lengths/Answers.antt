use Rattle.std.proofs.Common.{◌≡◌, ◌<◌, ◌+◌, ◌*◌, ℕ, [], get_or, length, sym, ap, ◌∙◌, arith}
use Rattle.cell_types.specs.Value.{null}
use Rattle.value_rows.specs.ValueRows.{ValueRowsOf}
use Rattle.value_rows.proofs.RowLaws.{item-at, row-inside, rows-long}
use Rattle.value_rows.proofs.TextLemmas.{some-texts, times-add}
use Rattle.value_rows.proofs.rows.ValueRows.text_lengths.Goals as goal

pub overflow_mul-first : goal.overflow_mul-first
overflow_mul-first c =
    let less : c.args.first < c.self.inside.count = omega (arith, c.requires.some, c.requires.rows, ap (λ (v : ValueRowsOf). length v.rows) c.self.view_is, rows-long c.self.inside.width c.self.inside.count c.self.inside.values) in
    omega (arith, row-inside c.self.inside.width c.self.inside.count c.args.first less, c.self.invariant, c.are_few.ensures)

pub overflow_add-first : goal.overflow_add-first
overflow_add-first c =
    let less : c.args.first < c.self.inside.count = omega (arith, c.requires.some, c.requires.rows, ap (λ (v : ValueRowsOf). length v.rows) c.self.view_is, rows-long c.self.inside.width c.self.inside.count c.self.inside.values) in
    let within : c.args.col < c.self.inside.width = omega (arith, c.requires.col, ap (λ (v : ValueRowsOf). v.width) c.self.view_is) in
    omega (arith, row-inside c.self.inside.width c.self.inside.count c.args.first less, within, c.self.invariant, c.are_few.ensures)

pub text_lengths-requires-clause-within : goal.text_lengths-requires-clause-within
text_lengths-requires-clause-within c = λ i inside.
    let less : c.args.first + i < c.self.inside.count = omega (arith, inside, c.requires.rows, ap (λ (v : ValueRowsOf). length v.rows) c.self.view_is, rows-long c.self.inside.width c.self.inside.count c.self.inside.values) in
    let within : c.args.col < c.self.inside.width = omega (arith, c.requires.col, ap (λ (v : ValueRowsOf). v.width) c.self.view_is) in
    omega (arith, row-inside c.self.inside.width c.self.inside.count (c.args.first + i) less, times-add c.self.inside.width c.args.first i, within, c.self.invariant)

pub returns-clause-texts : goal.returns-clause-texts
returns-clause-texts c =
    let width = c.self.inside.width in
    let values = c.self.inside.values in
    let within : c.args.col < width = omega (arith, c.requires.col, ap (λ (v : ValueRowsOf). v.width) c.self.view_is) in
    let same : (i : ℕ) → i < length c.text_lengths.new.lengths
    → get_or values (c.args.first * width + c.args.col + i * width) null ≡ get_or (get_or c.args.self.now.rows (c.args.first + i) []) c.args.col null =
    λ i inside.
    let less : c.args.first + i < c.self.inside.count =
    omega (arith, inside, c.text_lengths.ensures.long, c.requires.rows, ap (λ (v : ValueRowsOf). length v.rows) c.self.view_is, rows-long width c.self.inside.count values) in
    let at : c.args.first * width + c.args.col + i * width ≡ (c.args.first + i) * width + c.args.col = omega (arith, times-add width c.args.first i) in
    ap (λ n. get_or values n null) at ∙ sym (item-at width c.self.inside.count values (c.args.first + i) c.args.col null less within)
    ∙ ap (λ (v : ValueRowsOf). get_or (get_or v.rows (c.args.first + i) []) c.args.col null) c.self.view_is in
    some-texts _ _ c.text_lengths.new.lengths same _ c.text_lengths.result c.text_lengths.ensures.texts
