use Rattle.std.proofs.Common.{◌≡◌, ◌∙◌, ◌++◌, ◌<◌, [], ap, arith, drop, get_or, length, map, refl, rules, set, sym}
use Rattle.std.specs.Prelude.{is_some}
use Rattle.std.proofs.lemmas.List.{get_or_read, length-set}
use Rattle.typed_trees.specs.TypedTree.{typed_view}
use Rattle.order_columns.specs.Items.{expression_value}
use Rattle.order_columns.proofs.KeepLemmas.{all_kept, column_kept, fit_at, keep_faults, values_kept}
use Rattle.order_columns.proofs.item_values.keep_values.Goals as goal

pub loop-place-preserved-then-is_some : goal.loop-place-preserved-then-is_some
loop-place-preserved-then-is_some c =
    let items = c.args.items.now in
    let item = c.index-items-place.result in (
      c.loop-place.invariant.0,
      column_kept items (drop c.args.first c.args.columns.now.rows) c.loop-place.place item (search rules) (sym c.index-items-place.is) c.args.values.now.items
          c.loop-place.values.items (ap is_some (sym c.table_column.ensures) ∙ sym c.is_some.ensures ∙ c.if-is_some.true) c.loop-place.invariant.1,
    )

pub push_values-requires : goal.push_values-requires
push_values-requires c =
    fit_at c.args.items.now c.args.columns.now.rows c.loop-place.place c.index-items-place.result (search rules) (sym c.index-items-place.is) c.requires.fits

pub returns-in_err-push_values-clause-keeps : goal.returns-in_err-push_values-clause-keeps
returns-in_err-push_values-clause-keeps c =
    let given = keep_faults c.args.items.now (drop c.args.first c.args.columns.now.rows) c.loop-place.place c.index-items-place.result c.args.values.now.items
    (set c.loop-place.values.items c.loop-place.place c.push_values.new.values) c.index_mut.result.now
    c.push_values.new.values c.in_err-push_values.field-0.0 (search rules) (sym c.index-items-place.is) c.in_err-push_values.ensures in
    search (rules, given)

pub loop-place-preserved : goal.loop-place-preserved
loop-place-preserved c =
    let items = c.args.items.now in
    let item = c.index-items-place.result in
    let i = c.loop-place.place in
    let more = drop c.args.first c.args.columns.now.rows in
    let old = c.loop-place.values.items in
    let made = c.push_values.new.values in
    let within : i < length old = omega (arith, c.loop-place-test.true, c.loop-place.invariant.0, c.requires.long) in
    let there : c.index_mut.result.now ≡ get_or old i [] = get_or_read old i c.index_mut.result.now within c.index_mut.ensures.value [] in
    let values = c.in_ok-push_values.ensures.0 ∙ ap (λ l. l ++ map (expression_value (typed_view item.expression)) more) there in (
      length-set old i made ∙ c.loop-place.invariant.0,
      values_kept items more i item (search rules) (sym c.index-items-place.is) c.args.values.now.items old _ made
          (ap is_some (sym c.table_column.ensures) ∙ sym c.is_some.ensures ∙ c.if-is_some.false) c.in_ok-push_values.ensures.1 values refl c.loop-place.invariant.1,
    )

pub returns-clause-keeps : goal.returns-clause-keeps
returns-clause-keeps c =
    all_kept c.args.items.now (drop c.args.first c.args.columns.now.rows) c.loop-place.place c.args.values.now.items c.loop-place.values.items
    (search rules) c.loop-place.invariant.1
