-- The steps of a query that was typed for a table fit the rows that come to them.
use Rattle.std.proofs.Common.{◌≡◌, inl, inr, ℕ, zero, ◌+◌, ◌<◌, ◌≤◌, Bool, true, false, cond, Option, Some, None, Ok, List, [], ◌∷◌, ◌++◌, length, map, sym, ap, ◌∙◌, subst, arith}
use Rattle.std.specs.Prelude.{drop, take, option_map, IfSome}
use Rattle.std.specs.List.{All, AllByRecursion, list_all, list_any}
use Rattle.std.specs.Ordering.{is_lt}
use Rattle.std.specs.declared.cmp.Ordering.{Ordering}
use Rattle.std.proofs.lemmas.Option.{same_Some}
use Rattle.std.proofs.lemmas.Bool.{cases_Bool}
use Rattle.std.proofs.lemmas.List.{length-drop, length-map, length-take}
use Rattle.std.proofs.lemmas.List.Elements.{All-drop, All-from_recursion, All-take, All-weaker, recursion_from_All}
use Rattle.cell_types.specs.Value.{CellValue}
use Rattle.csvw_meta.specs.Schema.{SchemaOf}
use Rattle.odata_parse.specs.Tree.{ExprOf, OrderItemOf, SelectItemOf, TransformationOf, order_item}
use Rattle.odata_types.specs.Columns.{InputOf}
use Rattle.odata_types.specs.Result.{◌>>=◌}
use Rattle.odata_types.specs.Schema.{input_of, inputs_of}
use Rattle.typed_trees.specs.TypedTree.{TruthExprOf, TypedExprOf}
use Rattle.odata_types.specs.Typing.{filter_typing, typing}
use Rattle.odata_query.specs.declared.aggregate.TheConstants.{MOST_ROWS}
use Rattle.odata_query.specs.Aggregate.{TypedTransformationOf}
use Rattle.odata_query.specs.Apply.{apply_typing}
use Rattle.odata_query.specs.Key.{optional_key_typing}
use Rattle.odata_query.specs.Query.{QueryOf, TypedOf, item_typing, optional_typing, order_typing, query_typing}
use Rattle.odata_query.specs.Selection.{is_known, optional_selection_typing, selected_from, selects}
use Rattle.row_eval.specs.Bounds.{NumbersFit, TruthFits}
use Rattle.odata_types.specs.Input.{IsInput, IsQueried, IsQueriedItem, IsQueriedTransformation, IsRowOf, IsTableRow}
use Rattle.odata_types.specs.Laws.{TablesAreInputs}
use Rattle.query_meaning.specs.Laws.{BoundsHold}
use Rattle.query_meaning.specs.Apply.{applied, applied_names}
use Rattle.cell_types.proofs.CaseLaws.{cond-None_some}
use Rattle.query_plan.specs.Fitting.{AreFitItems, NodesFit}
use Rattle.query_meaning.specs.Fitting.{AreQueried, AreRowsOf, AreTableRows}
use Rattle.query_meaning.specs.Meaning.{ResultOf, first_rows}
use Rattle.query_meaning.specs.Order.{Item, order_faults, placed, plain_column, rows_cmp, sorted}
use Rattle.query_plan.specs.Plan.{NodeOf, SliceOf, apply_nodes, asked_slice, filter_nodes, filtering, naive_plan, node_result, nodes_result, order_nodes, piece_nodes, select_nodes, slice_nodes, slicing, sorting, table_result}
use Rattle.query_plan.proofs.AggregateLemmas.{Stands}
use Rattle.query_plan.proofs.MeaningLemmas.{apply_result, last_nodes, sorted_length, under}
use Rattle.query_plan.proofs.PlainLemmas.{IsThere, expression_there}
use Rattle.query_plan.proofs.PlanLemmas.{both_fit, turn}
use Rattle.query_plan.proofs.ResultLemmas.{result_input}
use Rattle.query_plan.proofs.StepLemmas.{Gives, SuitAll, apply_suits, filter_gives, gives_rows, rows_all, then_from}
use Rattle.query_plan.proofs.TypingLemmas.{Told, told_any, told_both, told_self, told_then}

-- what steps give
abbrev Lead : List InputOf → List InputOf → List NodeOf → Type 0
Lead inputs outputs nodes = (r last : ResultOf) → Stands inputs r → nodes_result nodes r ≡ Some last → Stands outputs last

none_lead : (inputs : List InputOf) → Lead inputs inputs []
none_lead inputs r last stands e = subst (Stands inputs) (same_Some r last e) stands

one_leads : (inputs outputs : List InputOf) (n : NodeOf) → Gives inputs outputs n → Lead inputs outputs (n ∷ [])
one_leads inputs outputs n gives r last stands e =
    let mid = then_from (nodes_result []) (node_result n r) last e in
    subst (Stands outputs) (same_Some mid.0 last mid.2) (gives r mid.0 stands mid.1)

both_lead : (a b c : List InputOf) (below above : List NodeOf) → Lead a b below → Lead b c above → Lead a c (below ++ above)
both_lead a b c below above first second r last stands e =
    let mid = then_from (nodes_result above) (nodes_result below r) last (sym (turn below above r) ∙ e) in
    second mid.0 last (first r mid.0 stands mid.1) mid.2

-- ---- `$orderby`, `$skip` and `$top`

placed_each : {X : Type 0} (P : X → Type 0) (cmp : X → X → Ordering) (x : X) (ys : List X) → P x → AllByRecursion P ys → AllByRecursion P (placed cmp x ys)
placed_each P cmp x [] h all = (h, all)
placed_each P cmp x (y ∷ ys) h all = elim (cases_Bool (is_lt (cmp y x))) [
  | inl e ↦ rw e (all.0, placed_each P cmp x ys h all.1)
  | inr e ↦ rw e (h, all)
]

sorted_each : {X : Type 0} (P : X → Type 0) (cmp : X → X → Ordering) (xs : List X) → AllByRecursion P xs → AllByRecursion P (sorted cmp xs)
sorted_each P cmp [] all = all
sorted_each P cmp (x ∷ xs) all = placed_each P cmp x (sorted cmp xs) all.0 (sorted_each P cmp xs all.1)

sort_gives : (inputs : List InputOf) (items : List Item) → Gives inputs inputs (sorting items)
sort_gives inputs items = gives_rows inputs inputs (sorting items) (λ r rows stands is.
    let same : sorted (rows_cmp items) r.rows ≡ rows = cond-None_some (list_any (order_faults items) r.rows) (sorted (rows_cmp items) r.rows) rows is in (
      stands.named,
      subst (λ (xs : List (List CellValue)). AllByRecursion (IsRowOf inputs) xs) same
          (sorted_each (IsRowOf inputs) (rows_cmp items) r.rows stands.each),
      subst (λ (xs : List (List CellValue)). length xs ≤ MOST_ROWS) same
          (let few : length r.rows ≤ MOST_ROWS = stands.few in omega (arith, sorted_length (rows_cmp items) r.rows)),
    ))

order_leads : (inputs : List InputOf) (items : List Item) → Lead inputs inputs (order_nodes items)
order_leads inputs [] = none_lead inputs
order_leads inputs (item ∷ items) = one_leads inputs inputs (sorting (item ∷ items)) (sort_gives inputs (item ∷ items))

first_all : (inputs : List InputOf) (top : Option ℕ) (rows : List (List CellValue)) → AllByRecursion (IsRowOf inputs) rows → length rows ≤ MOST_ROWS
    → AllByRecursion (IsRowOf inputs) (first_rows top rows) × (length (first_rows top rows) ≤ MOST_ROWS)
first_all inputs None rows all few = (all, few)
first_all inputs (Some most) rows all few = (
  recursion_from_All (IsRowOf inputs) (take most rows) (All-take (IsRowOf inputs) most rows (All-from_recursion (IsRowOf inputs) rows all)),
  omega (arith, length-take most rows),
)

slice_gives : (inputs : List InputOf) (s : SliceOf) → Gives inputs inputs (slicing s)
slice_gives inputs s = gives_rows inputs inputs (slicing s) (λ r rows stands is.
    let same : first_rows s.top (drop s.skip r.rows) ≡ rows = same_Some (first_rows s.top (drop s.skip r.rows)) rows is in
    let few : length r.rows ≤ MOST_ROWS = stands.few in
    let both = first_all inputs s.top (drop s.skip r.rows)
    (recursion_from_All (IsRowOf inputs) (drop s.skip r.rows) (All-drop (IsRowOf inputs) s.skip r.rows (All-from_recursion (IsRowOf inputs) r.rows stands.each)))
    (omega (arith, length-drop s.skip r.rows)) in (
      stands.named,
      subst (λ (xs : List (List CellValue)). AllByRecursion (IsRowOf inputs) xs) same both.0,
      subst (λ (xs : List (List CellValue)). length xs ≤ MOST_ROWS) same both.1,
    ))

piece_leads : (inputs : List InputOf) (s : SliceOf) (skip : ℕ) (top : Option ℕ) (counts : Bool) → Lead inputs inputs (piece_nodes s skip top counts)
piece_leads inputs s zero None false = none_lead inputs
piece_leads inputs s skip top counts = one_leads inputs inputs (slicing s) (slice_gives inputs s)

piece_fits : (s : SliceOf) (skip : ℕ) (top : Option ℕ) (counts : Bool) (r : ResultOf) → NodesFit (piece_nodes s skip top counts) r
piece_fits s zero None false r = tt
piece_fits s skip top counts r = (tt, λ made e. tt)

-- ---- `$select`

abbrev AreBelow : ℕ → List ℕ → Type 0
AreBelow most places = AllByRecursion (λ place. place < most) places

below_more : (most place : ℕ) (b : Bool) (places : List ℕ) → place < most → AreBelow most places → AreBelow most (cond b (place ∷ places) places)
below_more most place true places h all = (h, all)
below_more most place false places h all = all

selected_below : (most place : ℕ) (cs : List InputOf) (items : List SelectItemOf) → place + length cs ≤ most → AreBelow most (selected_from place cs items)
selected_below most place [] items h = tt
selected_below most place (c ∷ cs) items h =
    below_more most place (list_any (selects c.name) items) (selected_from (place + 1) cs items) (omega arith) (selected_below most (place + 1) cs items (omega arith))

selection_below : (inputs : List InputOf) (items : Option (List SelectItemOf)) → Told (λ select. IfSome select (AreBelow (length inputs))) (optional_selection_typing inputs items)
selection_below inputs None = tt
selection_below inputs (Some items) = elim (cases_Bool (list_all (is_known inputs) items)) [
  | inl e ↦ rw e (selected_below (length inputs) 0 inputs items (omega arith))
  | inr e ↦ rw e tt
]

select_fits : (inputs : List InputOf) (select : Option (List ℕ)) → IfSome select (AreBelow (length inputs)) → (r : ResultOf) → Stands inputs r → NodesFit (select_nodes select) r
select_fits inputs None below r stands = tt
select_fits inputs (Some places) below r stands = (
  subst (λ (most : ℕ). All (λ place. place < most) places) (sym stands.named) (All-from_recursion (λ place. place < length inputs) places below),
  λ made e. tt,
)

-- ---- expressions

module _ (bounds : BoundsHold) (inputs : List InputOf) (input : IsInput inputs) where
  record FilterSuits (f : Option TruthExprOf) : Type 0 where
    leads : Lead inputs inputs (filter_nodes f)
    fits : (r : ResultOf) → Stands inputs r → NodesFit (filter_nodes f) r

  filter_suits : (tree : Option ExprOf) → IfSome tree IsQueried → Told FilterSuits (optional_typing inputs tree)
  filter_suits None queried = record { leads = none_lead inputs; fits = λ r stands. tt }
  filter_suits (Some e) queried =
      told_then (λ (t : TruthExprOf). filter_typing inputs e ≡ Ok t) FilterSuits (filter_typing inputs e) (λ t. Ok (Some t)) (told_self (filter_typing inputs e)) (λ t is. record {
        leads = one_leads inputs inputs (filtering t) (filter_gives inputs t);
        fits = λ r stands. (
          All-from_recursion (TruthFits t) r.rows (rows_all inputs (TruthFits t) (λ row row_is. bounds.filters inputs row e t input row_is queried is) r.rows stands.each),
          λ made k. tt,
        );
      })

  record ItemFits (item : Item) : Type 0 where
    numbers : (row : List CellValue) → IsRowOf inputs row → NumbersFit item.0 row
    column : IsThere inputs item.0

  item_fits : (item : OrderItemOf) → IsQueriedItem item → Told ItemFits (item_typing inputs item)
  item_fits (order_item e descending) queried =
      told_then (λ (t : TypedExprOf). (typing inputs e ≡ Ok t) × IsThere inputs t) ItemFits (typing inputs e) (λ t. Ok (t, descending))
      (told_both (λ t. typing inputs e ≡ Ok t) (IsThere inputs) (typing inputs e) (told_self (typing inputs e)) (expression_there inputs e))
      (λ t is. record { numbers = λ row row_is. bounds.expressions inputs row e t input row_is queried is.0; column = is.1 })

  abbrev ItemsFit : List Item → Type 0
  ItemsFit items = AllByRecursion ItemFits items

  items_fit : (items : List OrderItemOf) → AllByRecursion IsQueriedItem items → Told ItemsFit (order_typing inputs items)
  items_fit [] queried = tt
  items_fit (item ∷ items) queried =
      told_then ItemFits ItemsFit (item_typing inputs item) (λ t. order_typing inputs items >>= λ ts. Ok (t ∷ ts)) (item_fits item queried.0)
      (λ t k. told_then ItemsFit ItemsFit (order_typing inputs items) (λ ts. Ok (t ∷ ts)) (items_fit items queried.1) (λ ts l. (k, l)))

  row_fits : (items : List Item) → ItemsFit items → (row : List CellValue) → IsRowOf inputs row → AllByRecursion (λ item. NumbersFit item.0 row) items
  row_fits [] fits row is = tt
  row_fits (item ∷ items) fits row is = (fits.0.numbers row is, row_fits items fits.1 row is)

  columns_fit : (items : List Item) → ItemsFit items → AllByRecursion (λ item. IsThere inputs item.0) items
  columns_fit [] fits = tt
  columns_fit (item ∷ items) fits = (fits.0.column, columns_fit items fits.1)

  fit_items : (items : List Item) → ItemsFit items → (r : ResultOf) → Stands inputs r → AreFitItems items r
  fit_items items fits r stands = record {
    numbers = All-from_recursion (λ row. All (λ i. NumbersFit i.0 row) items) r.rows (rows_all inputs (λ row. All (λ i. NumbersFit i.0 row) items)
        (λ row is. All-from_recursion (λ i. NumbersFit i.0 row) items (row_fits items fits row is)) r.rows stands.each);
    columns = subst (λ (most : ℕ). All (λ item. IfSome (plain_column item.0) (λ place. place < most)) items) (sym stands.named)
        (All-from_recursion (λ item. IsThere inputs item.0) items (columns_fit items fits));
  }

  order_fits : (items : List Item) → ItemsFit items → (r : ResultOf) → Stands inputs r → NodesFit (order_nodes items) r
  order_fits [] fits r stands = tt
  order_fits (item ∷ items) fits r stands = (fit_items (item ∷ items) fits r stands, λ made e. tt)

  -- the steps after those of `$apply` and `$filter`
  last_fit : (q : TypedOf) → ItemsFit q.order → IfSome q.select (AreBelow (length inputs)) → (b : Bool) (r : ResultOf) → Stands inputs r → NodesFit (last_nodes b q) r
  last_fit q items select true r stands = (All-from_recursion (λ place. place < length r.names) [] tt, λ made e. (tt, λ last k. tt))
  last_fit q items select false r stands =
      both_fit (order_nodes q.order ++ slice_nodes (asked_slice q)) (select_nodes q.select) r
      (both_fit (order_nodes q.order) (slice_nodes (asked_slice q)) r (order_fits q.order items r stands) (λ made e. piece_fits (asked_slice q) q.skip q.top q.count made))
      (λ made e. select_fits inputs q.select select made
      (both_lead inputs inputs inputs (order_nodes q.order) (slice_nodes (asked_slice q)) (order_leads inputs q.order) (piece_leads inputs (asked_slice q) q.skip q.top q.count) r made stands e))

-- ---- the whole

module _ (bounds : BoundsHold) (tables : TablesAreInputs) (schema : SchemaOf) where
  table_stands : (rows : List (List CellValue)) → AreTableRows schema rows → Stands (inputs_of schema) (table_result schema rows)
  table_stands rows are = record {
    named = length-map schema.columns (λ column. column.name) ∙ sym (length-map schema.columns input_of);
    each = recursion_from_All (IsRowOf (inputs_of schema)) rows (All-weaker (IsTableRow schema.columns) (IsRowOf (inputs_of schema)) (tables.rows schema) rows are.each);
    few = are.count;
  }

  abbrev PlanFits : TypedOf → Type 0
  PlanFits q = (r : ResultOf) → Stands (inputs_of schema) r → NodesFit (naive_plan q).nodes r

  plan_fits : (ts : List TransformationOf) (q : TypedOf) (outputs : List InputOf) (input : IsInput outputs) → AllByRecursion IsQueriedTransformation ts
      → SuitAll (inputs_of schema) ts (q.apply, outputs) → FilterSuits bounds outputs input q.filter → ItemsFit bounds outputs input q.order
      → IfSome q.select (AreBelow (length outputs)) → PlanFits q
  plan_fits ts q outputs input queried apply filter order select r stands =
      both_fit (apply_nodes q.apply ++ filter_nodes q.filter) (last_nodes q.counting q) r
      (both_fit (apply_nodes q.apply) (filter_nodes q.filter) r (apply.fits bounds (tables.input schema) queried r stands) (λ mid e. filter.fits mid (apply.gives r mid stands e)))
      (λ made e. last_fit bounds outputs input q order select q.counting made
      (both_lead (inputs_of schema) outputs outputs (apply_nodes q.apply) (filter_nodes q.filter) apply.gives filter.leads r made stands e))

  module _ (query : QueryOf) where
    abbrev AppliesTo : List TypedTransformationOf × List InputOf → Type 0
    AppliesTo applied = (apply_typing (inputs_of schema) query.apply ≡ Ok applied) × SuitAll (inputs_of schema) query.apply applied

    applies : Told AppliesTo (apply_typing (inputs_of schema) query.apply)
    applies =
        told_both (λ applied. apply_typing (inputs_of schema) query.apply ≡ Ok applied) (SuitAll (inputs_of schema) query.apply) (apply_typing (inputs_of schema) query.apply)
        (told_self (apply_typing (inputs_of schema) query.apply)) (apply_suits query.apply (inputs_of schema))

    outputs_are : (applied : List TypedTransformationOf × List InputOf) → apply_typing (inputs_of schema) query.apply ≡ Ok applied → IsInput applied.1
    outputs_are applied e = result_input (inputs_of schema) applied.1 query.apply applied.0 (tables.input schema) e

    told_plan : AreQueried query → Told PlanFits (query_typing schema query)
    told_plan queried =
        told_then (λ (key : Option (List CellValue)). Unit {0}) PlanFits (optional_key_typing (inputs_of schema) schema.key query.key) _
        (told_any (optional_key_typing (inputs_of schema) schema.key query.key))
        (λ key _. told_then AppliesTo PlanFits (apply_typing (inputs_of schema) query.apply) _ applies
        (λ applied k. told_then (FilterSuits bounds applied.1 (outputs_are applied k.0)) PlanFits (optional_typing applied.1 query.filter) _
        (filter_suits bounds applied.1 (outputs_are applied k.0) query.filter queried.filter)
        (λ filter f. told_then (ItemsFit bounds applied.1 (outputs_are applied k.0)) PlanFits (order_typing applied.1 query.order) _
        (items_fit bounds applied.1 (outputs_are applied k.0) query.order (recursion_from_All IsQueriedItem query.order queried.order))
        (λ order o. told_then (λ select. IfSome select (AreBelow (length applied.1))) PlanFits (optional_selection_typing applied.1 query.select) _ (selection_below applied.1 query.select)
        (λ select s. plan_fits query.apply (record {
          key = key;
          counting = query.counting;
          apply = applied.0;
          filter = filter;
          count = query.count;
          order = order;
          skip = query.skip;
          top = query.top;
          select = select;
        }) applied.1 (outputs_are applied k.0) (recursion_from_All IsQueriedTransformation query.apply queried.apply) k.1 f o s)))))

  pub queries_fit : (q : TypedOf) (query : QueryOf) → AreQueried query → query_typing schema query ≡ Ok q → (rows : List (List CellValue)) → AreTableRows schema rows
      → NodesFit (naive_plan q).nodes (table_result schema rows)
  queries_fit q query queried typed rows are = (subst (Told PlanFits) typed (told_plan query queried)) (table_result schema rows) (table_stands rows are)

-- ---- results of `$apply`

pub result_rows : (inputs outputs : List InputOf) (ts : List TransformationOf) (made : List TypedTransformationOf) (rows given : List (List CellValue))
    → apply_typing inputs ts ≡ Ok (made, outputs) → AreRowsOf inputs rows → applied made rows ≡ Some given → AreRowsOf outputs given
result_rows inputs outputs ts made rows given typed are is =
    let names : List (List ℕ) = map (λ c. c.name) inputs in
    let suits : SuitAll inputs ts (made, outputs) = subst (Told (SuitAll inputs ts)) typed (apply_suits ts inputs) in
    let stands : Stands inputs (under names None rows) =
    record { named = length-map inputs (λ c. c.name); each = recursion_from_All (IsRowOf inputs) rows are.each; few = are.count } in
    let last : Stands outputs (under (applied_names made names) None given) =
    suits.gives (under names None rows) (under (applied_names made names) None given) stands
    (apply_result made names None rows ∙ ap (option_map (under (applied_names made names) None)) is) in
    record { each = All-from_recursion (IsRowOf outputs) given last.each; count = last.few }
