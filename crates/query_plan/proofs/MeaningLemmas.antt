-- The plan of a query means what the query does.
use Rattle.std.proofs.Common.{◌≡◌, inl, inr, cond, ℕ, zero, suc, Bool, true, false, Option, Some, None, List, [], ◌∷◌, ◌++◌, length, map, refl, sym, ap, ◌∙◌}
use Rattle.std.specs.Prelude.{drop, option_and_then, option_map}
use Rattle.std.specs.List.{list_any}
use Rattle.std.specs.Ordering.{is_lt}
use Rattle.std.specs.declared.cmp.Ordering.{Ordering}
use Rattle.std.proofs.lemmas.List.{length-map, map-id}
use Rattle.std.proofs.lemmas.Bool.{cases_Bool}
use Rattle.cell_types.specs.Value.{CellValue}
use Rattle.csvw_meta.specs.Schema.{SchemaOf}
use Rattle.typed_trees.specs.TypedTree.{TruthExprOf}
use Rattle.odata_query.specs.Aggregate.{TypedTransformationOf, filter_rows, aggregate_rows, group_rows}
use Rattle.odata_query.specs.Query.{TypedOf}
use Rattle.query_meaning.specs.Apply.{applied, applied_names, transformed, transformed_names, values_at}
use Rattle.query_meaning.specs.Filter.{passing}
use Rattle.query_meaning.specs.Meaning.{ResultOf, asked_count, first_rows, keyed_meaning, filtered_rows, number, skipped_and_topped, result, rows_meaning, selected_names, selected_values, table_names}
use Rattle.query_meaning.specs.Order.{Item, order_faults, ordered, placed, rows_cmp, sorted}
use Rattle.cell_types.proofs.CaseLaws.{cond-None_some}
use Rattle.query_plan.specs.Plan.{MeansQuery, NodeOf, PlanOf, answer_of, apply_nodes, asked_slice, count_nodes, filter_nodes, naive_plan, node_result, nodes_result, order_nodes, leading, piece_nodes, select_nodes, slice_nodes, table_result, transformation_node}
use Rattle.query_meaning.specs.Query.{filtered}
use Rattle.query_plan.specs.Scan.{ScanOf}
use Rattle.query_plan.proofs.PlanLemmas.{turn}
use Rattle.query_plan.proofs.ScanLemmas.{bare_rows}

-- rows under names, with a count
abbrev pub under : List (List ℕ) → Option ℕ → List (List CellValue) → ResultOf
under names count rows = record { names = names; rows = rows; count = count }

-- ---- `$apply` and `$filter`

module _ (t : TypedTransformationOf) (ts : List TypedTransformationOf) where
  applied_after : (names : List (List ℕ)) (count : Option ℕ) (o : Option (List (List CellValue)))
      → ((rows : List (List CellValue)) → nodes_result (apply_nodes ts) (under names count rows) ≡ option_map (under (applied_names ts names) count) (applied ts rows))
      → option_and_then (nodes_result (apply_nodes ts)) (option_map (under names count) o) ≡ option_map (under (applied_names ts names) count) (option_and_then (applied ts) o)
  applied_after names count None each = refl
  applied_after names count (Some rows) each = each rows

transformation_result : (t : TypedTransformationOf) (names : List (List ℕ)) (count : Option ℕ) (rows : List (List CellValue))
    → node_result (transformation_node t) (under names count rows) ≡ option_map (under (transformed_names t names) count) (transformed t rows)
transformation_result (filter_rows e) names count rows = refl
transformation_result (aggregate_rows aggregates) names count rows = refl
transformation_result (group_rows places aggregates) names count rows = refl

pub apply_result : (ts : List TypedTransformationOf) (names : List (List ℕ)) (count : Option ℕ) (rows : List (List CellValue))
    → nodes_result (apply_nodes ts) (under names count rows) ≡ option_map (under (applied_names ts names) count) (applied ts rows)
apply_result [] names count rows = refl
apply_result (t ∷ ts) names count rows =
    ap (option_and_then (nodes_result (apply_nodes ts))) (transformation_result t names count rows)
    ∙ applied_after t ts (transformed_names t names) count (transformed t rows) (apply_result ts (transformed_names t names) count)

alone : (names : List (List ℕ)) (count : Option ℕ) (o : Option (List (List CellValue)))
    → option_and_then (nodes_result []) (option_map (under names count) o) ≡ option_map (under names count) o
alone names count None = refl
alone names count (Some rows) = refl

pub filter_result : (f : Option TruthExprOf) (names : List (List ℕ)) (count : Option ℕ) (rows : List (List CellValue))
    → nodes_result (filter_nodes f) (under names count rows) ≡ option_map (under names count) (filtered f rows)
filter_result None names count rows = refl
filter_result (Some e) names count rows = alone names count (passing e rows)

filter_after : (f : Option TruthExprOf) (names : List (List ℕ)) (count : Option ℕ) (o : Option (List (List CellValue)))
    → option_and_then (nodes_result (filter_nodes f)) (option_map (under names count) o) ≡ option_map (under names count) (option_and_then (filtered f) o)
filter_after f names count None = refl
filter_after f names count (Some rows) = filter_result f names count rows

pub kept_result : (schema : SchemaOf) (q : TypedOf) (rows : List (List CellValue))
    → nodes_result (apply_nodes q.apply ++ filter_nodes q.filter) (table_result schema rows)
    ≡ option_map (under (applied_names q.apply (table_names schema)) None) (filtered_rows q rows)
kept_result schema q rows =
    turn (apply_nodes q.apply) (filter_nodes q.filter) (table_result schema rows)
    ∙ ap (option_and_then (nodes_result (filter_nodes q.filter))) (apply_result q.apply (table_names schema) None rows)
    ∙ filter_after q.filter (applied_names q.apply (table_names schema)) None (applied q.apply rows)

-- ---- `$orderby`

no_fault : (rows : List (List CellValue)) → list_any (order_faults []) rows ≡ false
no_fault [] = refl
no_fault (row ∷ rows) = no_fault rows

front : (row : List CellValue) (rows : List (List CellValue)) → placed (rows_cmp []) row rows ≡ row ∷ rows
front row [] = refl
front row (other ∷ rows) = refl

unsorted : (rows : List (List CellValue)) → sorted (rows_cmp []) rows ≡ rows
unsorted [] = refl
unsorted (row ∷ rows) = ap (placed (rows_cmp []) row) (unsorted rows) ∙ front row rows

pub unordered : (rows : List (List CellValue)) → ordered [] rows ≡ Some rows
unordered rows = rw (no_fault rows) (ap Some (unsorted rows))

pub order_result : (items : List Item) (names : List (List ℕ)) (count : Option ℕ) (rows : List (List CellValue))
    → nodes_result (order_nodes items) (under names count rows) ≡ option_map (under names count) (ordered items rows)
order_result [] names count rows = ap (option_map (under names count)) (sym (unordered rows))
order_result (item ∷ items) names count rows = alone names count (ordered (item ∷ items) rows)

module _ (cmp : List CellValue → List CellValue → Ordering) where
  placed_length : (row : List CellValue) (rows : List (List CellValue)) → length (placed cmp row rows) ≡ suc (length rows)
  placed_length row [] = refl
  placed_length row (other ∷ rows) = elim (cases_Bool (is_lt (cmp other row))) [ inl e ↦ rw e (ap suc (placed_length row rows)) | inr e ↦ rw e refl ]

  pub sorted_length : (rows : List (List CellValue)) → length (sorted cmp rows) ≡ length rows
  sorted_length [] = refl
  sorted_length (row ∷ rows) = placed_length row (sorted cmp rows) ∙ ap suc (sorted_length rows)

-- ---- `$count`, `$skip`, `$top` and `$select`

piece_result : (skip : ℕ) (top : Option ℕ) (counts : Bool) (names : List (List ℕ)) (rows : List (List CellValue))
    → nodes_result (piece_nodes (record { skip = skip; top = top; counts = counts }) skip top counts) (under names None rows)
    ≡ Some (under names (asked_count counts rows) (first_rows top (drop skip rows)))
piece_result zero None false names rows = refl
piece_result zero None true names rows = refl
piece_result zero (Some most) false names rows = refl
piece_result zero (Some most) true names rows = refl
piece_result (suc skip) None false names rows = refl
piece_result (suc skip) None true names rows = refl
piece_result (suc skip) (Some most) false names rows = refl
piece_result (suc skip) (Some most) true names rows = refl

select_result : (select : Option (List ℕ)) (names : List (List ℕ)) (count : Option ℕ) (rows : List (List CellValue))
    → nodes_result (select_nodes select) (under names count rows) ≡ Some (under (selected_names select names) count (map (selected_values select) rows))
select_result None names count rows = ap (λ (xs : List (List CellValue)). Some (under names count xs)) (sym (map-id rows))
select_result (Some places) names count rows = refl

asked_length : (counts : Bool) (xs ys : List (List CellValue)) → length xs ≡ length ys → asked_count counts xs ≡ asked_count counts ys
asked_length true xs ys e = ap Some e
asked_length false xs ys e = refl

pub ordered_length : (items : List Item) (rows given : List (List CellValue)) → ordered items rows ≡ Some given → length given ≡ length rows
ordered_length items rows given e =
    ap length (sym (cond-None_some (list_any (order_faults items) rows) (sorted (rows_cmp items) rows) given e)) ∙ sorted_length (rows_cmp items) rows

-- what a query makes of the rows that are kept, once they are in order
abbrev shown : TypedOf → List (List ℕ) → List (List CellValue) → List (List CellValue) → ResultOf
shown q names rows given = under (selected_names q.select names) (asked_count q.count rows) (map (selected_values q.select) (skipped_and_topped q given))

shown_after : (q : TypedOf) (names : List (List ℕ)) (rows : List (List CellValue)) (o : Option (List (List CellValue)))
    → ((given : List (List CellValue)) → o ≡ Some given → length given ≡ length rows)
    → option_and_then (nodes_result (select_nodes q.select)) (option_and_then (nodes_result (slice_nodes (asked_slice q))) (option_map (under names None) o))
    ≡ option_map (shown q names rows) o
shown_after q names rows None each = refl
shown_after q names rows (Some given) each =
    ap (option_and_then (nodes_result (select_nodes q.select))) (piece_result q.skip q.top q.count names given)
    ∙ select_result q.select names (asked_count q.count given) (skipped_and_topped q given)
    ∙ ap (λ (n : Option ℕ). Some (under (selected_names q.select names) n (map (selected_values q.select) (skipped_and_topped q given))))
    (asked_length q.count given rows (each given refl))

rest_result : (q : TypedOf) (names : List (List ℕ)) (rows : List (List CellValue))
    → nodes_result (order_nodes q.order ++ slice_nodes (asked_slice q) ++ select_nodes q.select) (under names None rows) ≡ option_map (shown q names rows) (ordered q.order rows)
rest_result q names rows =
    turn (order_nodes q.order ++ slice_nodes (asked_slice q)) (select_nodes q.select) (under names None rows)
    ∙ ap (option_and_then (nodes_result (select_nodes q.select))) (turn (order_nodes q.order) (slice_nodes (asked_slice q)) (under names None rows)
    ∙ ap (option_and_then (nodes_result (slice_nodes (asked_slice q)))) (order_result q.order names None rows))
    ∙ shown_after q names rows (ordered q.order rows) (ordered_length q.order rows)

-- ---- the whole

-- the steps after those of `$apply` and `$filter`
abbrev pub last_nodes : Bool → TypedOf → List NodeOf
last_nodes b q = cond b count_nodes (order_nodes q.order ++ slice_nodes (asked_slice q) ++ select_nodes q.select)

counted_after : (names : List (List ℕ)) (o : Option (List (List CellValue)))
    → option_map (answer_of true) (option_and_then (nodes_result count_nodes) (option_map (under names None) o)) ≡ option_map (λ kept. number (length kept)) o
counted_after names None = refl
counted_after names (Some kept) = ap (λ (n : ℕ). Some (number n)) (length-map kept (values_at []))

result_after : (q : TypedOf) (names : List (List ℕ)) (o : Option (List (List CellValue)))
    → option_map (answer_of false) (option_and_then (nodes_result (last_nodes false q)) (option_map (under names None) o))
    ≡ option_map result (option_and_then (λ kept. option_map (shown q names kept) (ordered q.order kept)) o)
result_after q names None = refl
result_after q names (Some kept) = ap (option_map result) (rest_result q names kept)

module _ (schema : SchemaOf) (q : TypedOf) (rows : List (List CellValue)) where
  answers_after : (b : Bool) → option_map (answer_of b) (option_and_then (nodes_result (last_nodes b q)) (option_map (under (applied_names q.apply (table_names schema)) None) (filtered_rows q rows)))
      ≡ rows_meaning b schema q rows
  answers_after true = counted_after (applied_names q.apply (table_names schema)) (filtered_rows q rows)
  answers_after false = result_after q (applied_names q.apply (table_names schema)) (filtered_rows q rows)

  answers : (b : Bool) → option_map (answer_of b) (nodes_result (apply_nodes q.apply ++ filter_nodes q.filter ++ last_nodes b q) (table_result schema rows)) ≡ rows_meaning b schema q rows
  answers b =
      ap (option_map (answer_of b)) (turn (apply_nodes q.apply ++ filter_nodes q.filter) (last_nodes b q) (table_result schema rows)
      ∙ ap (option_and_then (nodes_result (last_nodes b q))) (kept_result schema q rows))
      ∙ answers_after b

pub means : (q : TypedOf) → q.key ≡ None → MeansQuery (naive_plan q) q
means q e schema rows =
    ap (λ (read : List (List CellValue)). option_map (answer_of q.counting) (nodes_result (naive_plan q).nodes (table_result schema read))) (bare_rows (leading (naive_plan q).nodes) rows)
    ∙ answers schema q rows q.counting ∙ ap (λ (key : Option (List CellValue)). keyed_meaning key schema q rows) (sym e)

-- a plan is its scan and its steps
pub plan_is : (scan : ScanOf) (nodes : List NodeOf) (plan : PlanOf) → scan ≡ plan.scan → nodes ≡ plan.nodes → record { scan = scan; nodes = nodes } ≡ plan
plan_is scan nodes plan e f = ap (λ (s : ScanOf). record { scan = s; nodes = nodes }) e ∙ ap (λ (ns : List NodeOf). record plan { nodes = ns }) f
