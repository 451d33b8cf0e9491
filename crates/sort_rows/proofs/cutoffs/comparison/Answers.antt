use Rattle.std.proofs.Common.{◌≡◌, None, Some, ap, refl, rules}
use Rattle.cell_types.specs.declared.kind.ColumnKind.TheVariants.{Text, Number}
use Rattle.cell_types.specs.Value.{null, text, value_view}
use Rattle.typed_trees.specs.TypedTree.{null_text, text_literal}
use Rattle.sort_rows.proofs.ColumnTestLemmas.{compared_as, texts_compared}
use Rattle.sort_rows.proofs.cutoffs.comparison.Goals as goal

pub returns-in_ok-from_str-in-Text-Text : goal.returns-in_ok-from_str-in-Text-Text
returns-in_ok-from_str-in-Text-Text c =
    let o = c.args.operator in
    let col = c.args.column.place in
    let t = c.in_ok-from_str-in-Text-Text.field-0.bytes.items in
    let is : value_view c.args.value.now ≡ text t = search rules in
    compared_as c.compare_texts.result o c.args.column Text (value_view c.args.value.now) (text t) _ c.in-Text-Text.is-0 is
    (texts_compared o col (text_literal t) (Some t) (λ row. refl)) c.compare_texts.ensures

pub returns-in-Text-Null : goal.returns-in-Text-Null
returns-in-Text-Null c =
    let o = c.args.operator in
    let col = c.args.column.place in
    compared_as c.compare_texts-in-Text-Null.result o c.args.column Text (value_view c.args.value.now) null _ c.in-Text-Null.is-0 (ap value_view c.in-Text-Null.is-1)
    (texts_compared o col null_text None (λ row. refl)) c.compare_texts-in-Text-Null.ensures

pub returns-in-Some : goal.returns-in-Some
returns-in-Some c =
    let o = c.args.operator in
    let column = c.args.column in
    let value = value_view c.args.value.now in
    compared_as c.compare_numbers.result o column (Number c.in-Number-default.kind) value value _ c.in-Number-default.is-0 refl (c.in-Some.ensures o column.place) c.compare_numbers.ensures
