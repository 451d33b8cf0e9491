use Rattle.std.proofs.Common.{[], ap, false, ◌∙◌}
use Rattle.cell_types.specs.Kind.{is_of_kind}
use Rattle.cell_types.specs.Value.{boolean, text, value_view}
use Rattle.cell_types.specs.declared.comparison.ComparisonOperator.TheVariants.{GreaterOrEqual, LessThan}
use Rattle.zone_maps.proofs.TestLemmas.{as-test, between-numbers, texts-around}
use Rattle.zone_maps.proofs.kinds.tests_around.Goals as goal

pub returns-in-Number : goal.returns-in-Number
returns-in-Number c =
    let before = c.test in
    let behind = c.test-in-Number in
    λ cell b e. ap (λ k. is_of_kind k cell) c.in-Number.is
    ∙ between-numbers c.numbers_stand_for_cells.ensures c.values_are_ordered.ensures c.in-Number.kind _ _ before.result behind.result before.ensures.op
    (ap value_view before.ensures.literal ∙ c.typed_value.ensures) behind.ensures.op (ap value_view behind.ensures.literal ∙ c.typed_value-in-Number.ensures) cell b e

pub returns-in-Text : goal.returns-in-Text
returns-in-Text c =
    let before = c.test-in-Text in
    let behind = c.test-in-Text-2 in
    λ cell b e. ap (λ k. is_of_kind k cell) c.in-Text.is
    ∙ texts-around cell (as-test before.result LessThan (text []) cell before.ensures.op (ap value_view before.ensures.literal ∙ c.text.ensures) b)
    (as-test behind.result GreaterOrEqual (boolean false) cell behind.ensures.op (ap value_view behind.ensures.literal) e)
