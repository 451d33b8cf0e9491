-- The conditions of a query that was typed compare columns as what they are.
use Rattle.std.proofs.Common.{◌≡◌, ℕ, Bool, true, false, zero, Ok, Option, Some, None, List, [], ◌∷◌, ◌++◌, append_assoc, refl, sym, ap, ◌∙◌, subst}
use Rattle.std.specs.Prelude.{IfSome}
use Rattle.std.specs.List.{AllByRecursion}
use Rattle.std.proofs.lemmas.List.Elements.{All-from_recursion}
use Rattle.odata_parse.specs.Tree.{ExprOf}
use Rattle.odata_types.specs.Columns.{InputOf}
use Rattle.odata_types.specs.Result.{◌>>=◌}
use Rattle.typed_trees.specs.TypedTree.{TruthExprOf}
use Rattle.odata_types.specs.Typing.{filter_typing}
use Rattle.cell_types.specs.Value.{CellValue}
use Rattle.csvw_meta.specs.Schema.{SchemaOf}
use Rattle.odata_parse.specs.Tree.{TransformationOf, aggregate, filter_by, group_by}
use Rattle.odata_types.specs.Schema.{inputs_of}
use Rattle.odata_query.specs.Aggregate.{TypedTransformationOf, filter_rows}
use Rattle.odata_query.specs.Apply.{apply_typing, grouped_places, items_typing, optional_items, transformation_typing}
use Rattle.odata_query.specs.Key.{optional_key_typing}
use Rattle.odata_query.specs.Query.{QueryOf, TypedOf, optional_typing, order_typing, query_typing}
use Rattle.odata_query.specs.Selection.{optional_selection_typing}
use Rattle.query_meaning.specs.Order.{Item}
use Rattle.query_plan.specs.Plan.{NodeOf, SliceOf, apply_nodes, asked_slice, filter_nodes, leading, naive_plan, order_nodes, piece_nodes, select_nodes, slice_nodes, transformation_node}
use Rattle.query_plan.specs.Types.{IsTypedPlan, IsTruthOver}
use Rattle.query_plan.proofs.MeaningLemmas.{last_nodes}
use Rattle.query_plan.proofs.TypingLemmas.{Told, told_any, told_then}
use Rattle.query_plan.proofs.TypedLemmas.{filter_over}

abbrev AllOver : List InputOf → List TruthExprOf → Type 0
AllOver inputs es = AllByRecursion (IsTruthOver inputs) es

-- what holds of the filters that steps after `$apply` begin with holds of those of the whole
abbrev Leads : List InputOf → List TypedTransformationOf × List InputOf → Type 0
Leads inputs made = (ns : List NodeOf) → AllOver made.1 (leading ns) → AllOver inputs (leading (apply_nodes made.0 ++ ns))

abbrev FirstLeads : List InputOf → TypedTransformationOf × List InputOf → Type 0
FirstLeads inputs made = (ns : List NodeOf) → AllOver made.1 (leading ns) → AllOver inputs (leading (transformation_node made.0 ∷ ns))

transformation_leads : (inputs : List InputOf) (t : TransformationOf) → Told (FirstLeads inputs) (transformation_typing inputs t)
transformation_leads inputs (filter_by e) =
    told_then (IsTruthOver inputs) (FirstLeads inputs) (filter_typing inputs e) (λ t. Ok (filter_rows t, inputs)) (filter_over inputs e) (λ t h ns all. (h, all))
transformation_leads inputs (aggregate items) =
    told_then (λ xs. Unit {0}) (FirstLeads inputs) (items_typing inputs [] items) _ (told_any (items_typing inputs [] items)) (λ xs h ns all. tt)
transformation_leads inputs (group_by names items) =
    told_then (λ places. Unit {0}) (FirstLeads inputs) (grouped_places inputs names) _ (told_any (grouped_places inputs names))
    (λ places h. told_then (λ xs. Unit {0}) (FirstLeads inputs) (optional_items inputs items) _ (told_any (optional_items inputs items)) (λ xs k ns all. tt))

apply_leads : (ts : List TransformationOf) (inputs : List InputOf) → Told (Leads inputs) (apply_typing inputs ts)
apply_leads [] inputs = λ ns all. all
apply_leads (t ∷ ts) inputs =
    told_then (FirstLeads inputs) (Leads inputs) (transformation_typing inputs t) (λ x. apply_typing x.1 ts >>= λ xs. Ok (x.0 ∷ xs.0, xs.1)) (transformation_leads inputs t)
    (λ x first. told_then (Leads x.1) (Leads inputs) (apply_typing x.1 ts) (λ xs. Ok (x.0 ∷ xs.0, xs.1)) (apply_leads ts x.1)
    (λ xs rest ns all. first (apply_nodes xs.0 ++ ns) (rest ns all)))

abbrev OptionalOver : List InputOf → Option TruthExprOf → Type 0
OptionalOver inputs f = IfSome f (IsTruthOver inputs)

optional_over : (inputs : List InputOf) (tree : Option ExprOf) → Told (OptionalOver inputs) (optional_typing inputs tree)
optional_over inputs None = tt
optional_over inputs (Some e) = told_then (IsTruthOver inputs) (OptionalOver inputs) (filter_typing inputs e) (λ t. Ok (Some t)) (filter_over inputs e) (λ t h. h)

none_order : (items : List Item) (ns : List NodeOf) → leading ns ≡ [] → leading (order_nodes items ++ ns) ≡ []
none_order [] ns e = e
none_order (item ∷ items) ns e = refl

none_piece : (s : SliceOf) (skip : ℕ) (top : Option ℕ) (counts : Bool) (ns : List NodeOf) → leading ns ≡ [] → leading (piece_nodes s skip top counts ++ ns) ≡ []
none_piece s zero None false ns e = e
none_piece s skip top counts ns e = refl

none_select : (select : Option (List ℕ)) → leading (select_nodes select) ≡ []
none_select None = refl
none_select (Some places) = refl

pub none_last : (b : Bool) (q : TypedOf) → leading (last_nodes b q) ≡ []
none_last true q = refl
none_last false q =
    ap leading (append_assoc (order_nodes q.order) (slice_nodes (asked_slice q)) (select_nodes q.select))
    ∙ none_order q.order (slice_nodes (asked_slice q) ++ select_nodes q.select) (none_piece (asked_slice q) q.skip q.top q.count (select_nodes q.select) (none_select q.select))

filter_leads : (inputs : List InputOf) (f : Option TruthExprOf) (ns : List NodeOf) → OptionalOver inputs f → leading ns ≡ [] → AllOver inputs (leading (filter_nodes f ++ ns))
filter_leads inputs None ns h e = subst (AllOver inputs) (sym e) tt
filter_leads inputs (Some t) ns h e = (h, subst (AllOver inputs) (sym e) tt)

module _ (schema : SchemaOf) where
  abbrev PlanOver : TypedOf → Type 0
  PlanOver q = AllOver (inputs_of schema) (leading (naive_plan q).nodes)

  told_over : (query : QueryOf) → Told PlanOver (query_typing schema query)
  told_over query =
      told_then (λ (key : Option (List CellValue)). Unit {0}) PlanOver (optional_key_typing (inputs_of schema) schema.key query.key) _
      (told_any (optional_key_typing (inputs_of schema) schema.key query.key))
      (λ key _. told_then (Leads (inputs_of schema)) PlanOver (apply_typing (inputs_of schema) query.apply) _ (apply_leads query.apply (inputs_of schema))
      (λ applied leads. told_then (OptionalOver applied.1) PlanOver (optional_typing applied.1 query.filter) _ (optional_over applied.1 query.filter)
      (λ filter f. told_then (λ order. Unit {0}) PlanOver (order_typing applied.1 query.order) _ (told_any (order_typing applied.1 query.order))
      (λ order _. told_then (λ select. Unit {0}) PlanOver (optional_selection_typing applied.1 query.select) _ (told_any (optional_selection_typing applied.1 query.select))
      (λ select _. let q : TypedOf = record {
        key = key;
        counting = query.counting;
        apply = applied.0;
        filter = filter;
        count = query.count;
        order = order;
        skip = query.skip;
        top = query.top;
        select = select;
      } in
      let last = last_nodes query.counting q in
      subst (λ (ns : List NodeOf). AllOver (inputs_of schema) (leading ns)) (sym (append_assoc (apply_nodes applied.0) (filter_nodes filter) last))
      (leads (filter_nodes filter ++ last) (filter_leads applied.1 filter last f (none_last query.counting q))))))))

  pub queries_typed : (q : TypedOf) (query : QueryOf) → query_typing schema query ≡ Ok q → IsTypedPlan schema (naive_plan q)
  queries_typed q query typed = All-from_recursion (IsTruthOver (inputs_of schema)) (leading (naive_plan q).nodes) (subst (Told PlanOver) typed (told_over query))
