-- A plan that reads fewer blocks means the same.
use Rattle.std.proofs.Common.{◌≡◌, ℕ, Bool, true, false, cond, eqb, Option, None, List, [], ◌∷◌, length, refl, sym, ap, ◌∙◌, subst, arith, eqb-true}
use Rattle.std.specs.Prelude.{filter, is_none, not}
use Rattle.std.specs.List.{AllByRecursion, filter_map, list_any}
use Rattle.std.proofs.lemmas.Bool.{and_parts, not-true}
use Rattle.std.proofs.lemmas.List.Elements.{filter_agree, recursion_from_All}
use Rattle.cell_types.specs.Value.{CellValue}
use Rattle.csvw_meta.specs.Schema.{SchemaOf}
use Rattle.typed_trees.specs.CanFault.{truth_can_fault}
use Rattle.typed_trees.specs.TypedTree.{TruthExprOf}
use Rattle.odata_types.specs.Schema.{inputs_of}
use Rattle.row_eval.specs.Laws.{FaultsAreForeseen}
use Rattle.cell_types.proofs.CaseLaws.{is_none-None}
use Rattle.query_plan.specs.Laws.{TestsArePassed, UnadmittedBlocksPassNone}
use Rattle.query_plan.specs.Tests.{test_of}
use Rattle.query_plan.specs.Types.{IsTruthOver, IsTypedPlan}
use Rattle.query_plan.proofs.TestedLemmas.{over_split, same_admitted}
use Rattle.query_meaning.specs.Meaning.{ResultOf, table_names}
use Rattle.query_plan.specs.Plan.{NodeOf, PlanOf, leading, nodes_result, table_result}
use Rattle.query_plan.specs.Fitting.{IsFitFor}
use Rattle.query_meaning.specs.Fitting.{AreTableRows}
use Rattle.query_plan.specs.Push.{early_stop, may_be_pushed, pushed, pushed_down, rewritten, split_nodes}
use Rattle.query_plan.specs.Rewrite.{MeansTheSame, best_nodes, best_plan}
use Rattle.query_plan.specs.Scan.{ScanOf, TestOf, admitted_blocks, bare, block_numbers, is_bare, read_blocks, rows_of_blocks, up_to}
use Rattle.query_meaning.specs.Filter.{passes_each}
use Rattle.query_plan.proofs.BestLemmas.{best_fit, best_result}
use Rattle.query_plan.proofs.RewriteLemmas.{leading_best, same_steps}
use Rattle.query_plan.proofs.SplitFitLemmas.{split_fit}
use Rattle.query_plan.proofs.PushLemmas.{behind, behind-split, behind_filters, faults-split, leading-split, passes-split}
use Rattle.query_plan.proofs.ScanLemmas.{all_rows, bare_rows}
use Rattle.query_plan.proofs.StopLemmas.{same_up_to}

abbrev Row : Type 0
Row = List CellValue

-- ---- a bare scan

is_nil : {X : Type 0} (xs : List X) → eqb (length xs) 0 ≡ true → xs ≡ []
is_nil [] h = refl
is_nil (x ∷ xs) h = absurd (omega (arith, eqb-true (length (x ∷ xs)) 0 h))

pub bare_is : (scan : ScanOf) → is_bare scan ≡ true → scan ≡ bare
bare_is scan h =
    ap (λ (ts : List TestOf). record scan { tests = ts }) (is_nil scan.tests (and_parts (eqb (length scan.tests) 0) (is_none scan.stop) h).0)
    ∙ ap (λ (o : Option ℕ). record bare { stop = o }) (is_none-None scan.stop (and_parts (eqb (length scan.tests) 0) (is_none scan.stop) h).1)

-- ---- the steps, split

module _ (laws : FaultsAreForeseen) (schema : SchemaOf) (p : PlanOf) (safe : list_any truth_can_fault (leading p.nodes) ≡ false)
    (unadmitted : UnadmittedBlocksPassNone) (passed : TestsArePassed) (typed : IsTypedPlan schema p) where
  abbrev es : List TruthExprOf
  es = leading p.nodes

  abbrev split : List TruthExprOf
  split = leading (split_nodes p.nodes)

  abbrev made_of : List Row → Option ResultOf
  made_of rows = nodes_result (behind p.nodes) (table_result schema rows)

  split_safe : list_any truth_can_fault split ≡ false
  split_safe = ap (list_any truth_can_fault) (leading-split p.nodes) ∙ faults-split es ∙ safe

  split_same : (row : Row) → passes_each split row ≡ passes_each es row
  split_same row = ap (λ (xs : List TruthExprOf). passes_each xs row) (leading-split p.nodes) ∙ passes-split row es

  -- on rows, what the steps make of those that pass
  whole : (rows : List Row) → nodes_result p.nodes (table_result schema rows) ≡ made_of (filter (passes_each es) rows)
  whole rows = behind_filters laws p.nodes (table_names schema) None rows safe

  split_whole : (rows : List Row) → nodes_result (split_nodes p.nodes) (table_result schema rows) ≡ made_of (filter (passes_each split) rows)
  split_whole rows =
      behind_filters laws (split_nodes p.nodes) (table_names schema) None rows split_safe
      ∙ ap (λ (ns : List NodeOf). nodes_result ns (table_result schema (filter (passes_each split) rows))) (behind-split p.nodes)

  split_over : AllByRecursion (IsTruthOver (inputs_of schema)) split
  split_over = subst (AllByRecursion (IsTruthOver (inputs_of schema))) (sym (leading-split p.nodes)) (over_split (inputs_of schema) es (recursion_from_All (IsTruthOver (inputs_of schema)) es typed))

  -- on the rows of the blocks that are read
  pub stopped : (rows : List Row) → AreTableRows schema rows → nodes_result (split_nodes p.nodes) (table_result schema (rows_of_blocks rows (read_blocks (pushed_down p).scan split rows)))
      ≡ nodes_result p.nodes (table_result schema rows)
  stopped rows are =
      let admitted = admitted_blocks (filter_map test_of split) rows in
      split_whole (rows_of_blocks rows (up_to (early_stop p.nodes) split rows admitted))
      ∙ same_up_to p.nodes (table_names schema) split rows (early_stop p.nodes) admitted refl
      ∙ ap made_of (same_admitted unadmitted passed schema split split_over rows are (block_numbers rows)
      ∙ ap (filter (passes_each split)) (all_rows rows) ∙ filter_agree (passes_each split) (passes_each es) split_same rows)
      ∙ sym (whole rows)

-- ---- the whole

-- the laws of lower crates
pub record PushLaws : Type 0 where
  pub faults : FaultsAreForeseen
  pub unadmitted : UnadmittedBlocksPassNone
  pub passed : TestsArePassed

pushed_when : PushLaws → (schema : SchemaOf) (p : PlanOf) → IsTypedPlan schema p → (b : Bool) → may_be_pushed p ≡ b → MeansTheSame schema p (cond b (pushed_down p) p)
pushed_when laws schema p typed false e rows are = refl
pushed_when laws schema p typed true e rows are =
    let is = bare_is p.scan (and_parts (is_bare p.scan) (not (list_any truth_can_fault (leading p.nodes))) e).0 in
    let safe = not-true (list_any truth_can_fault (leading p.nodes)) (and_parts (is_bare p.scan) (not (list_any truth_can_fault (leading p.nodes))) e).1 in
    stopped laws.faults schema p safe laws.unadmitted laws.passed typed rows are
    ∙ ap (λ (xs : List Row). nodes_result p.nodes (table_result schema xs)) (sym (bare_rows (leading p.nodes) rows))
    ∙ ap (λ (scan : ScanOf). nodes_result p.nodes (table_result schema (rows_of_blocks rows (read_blocks scan (leading p.nodes) rows)))) (sym is)

pub pushed_means : PushLaws → (schema : SchemaOf) (p : PlanOf) → IsTypedPlan schema p → MeansTheSame schema p (pushed p)
pushed_means laws schema p typed = pushed_when laws schema p typed (may_be_pushed p) refl

fits_when : FaultsAreForeseen → (schema : SchemaOf) (p : PlanOf) (b : Bool) → may_be_pushed p ≡ b → IsFitFor schema p → IsFitFor schema (cond b (pushed_down p) p)
fits_when laws schema p false e fit = fit
fits_when laws schema p true e fit = λ rows are.
    let safe = not-true (list_any truth_can_fault (leading p.nodes)) (and_parts (is_bare p.scan) (not (list_any truth_can_fault (leading p.nodes))) e).1 in
    split_fit laws p.nodes (table_names schema) None rows safe (fit rows are)

best_same : (schema : SchemaOf) (p : PlanOf) → MeansTheSame schema p (best_plan p)
best_same schema p = same_steps schema p (best_nodes p.nodes) (leading_best p.nodes) (λ rows. best_result p.nodes (table_result schema rows))

pub rewritten_means : PushLaws → (schema : SchemaOf) (p : PlanOf) → IsTypedPlan schema p → MeansTheSame schema p (rewritten p)
rewritten_means laws schema p typed rows are = best_same schema (pushed p) rows are ∙ pushed_means laws schema p typed rows are

pub rewritten_fits : FaultsAreForeseen → (schema : SchemaOf) (p : PlanOf) → IsFitFor schema p → IsFitFor schema (rewritten p)
rewritten_fits laws schema p fit = λ rows are.
    let first = fits_when laws schema p (may_be_pushed p) refl fit in
    best_fit (pushed p).nodes (table_result schema rows) (first rows are)

pub is_best : (p : PlanOf) (best : List NodeOf) → best ≡ best_nodes p.nodes → record p { nodes = best } ≡ best_plan p
is_best p best e = ap (λ (ns : List NodeOf). record p { nodes = ns }) e
