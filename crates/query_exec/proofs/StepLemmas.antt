-- Steps on rows.
use Rattle.std.proofs.Common.{◌≡◌, ℕ, ◌+◌, ◌<◌, ◌≤◌, Option, Some, None, List, [], ◌∷◌, length, map, drop, get_or, refl, ap, ◌∙◌, arith}
use Rattle.std.specs.Global.{Global}
use Rattle.std.specs.Prelude.{Err, option_map}
use Rattle.std.proofs.lemmas.List.{drop_all, drop_more, length-map}
use Rattle.cell_types.specs.Value.{CellValue}
use Rattle.row_eval.specs.declared.fault.EvalFault.{EvalFault}
use Rattle.row_eval.specs.declared.fault.EvalFault.TheVariants.{DivisionByZero, NoMemory}
use Rattle.query_plan.specs.Fitting.{IsFitNode, NodesFit}
use Rattle.query_meaning.specs.Meaning.{ResultOf}
use Rattle.query_plan.specs.Plan.{NodeOf, node_count, node_names, node_result, node_rows, node_view, nodes_result, sorting}
use Rattle.query_plan.specs.declared.plan.Node.{Node}
use Rattle.query_meaning.specs.Order.{Item, ordered}
use Rattle.row_columns.specs.Picked.{numbered}
use Rattle.row_selection.specs.Numbers.{numbers_from}
use Rattle.row_columns.proofs.NumberedLaws.{all_numbered}
use Rattle.sort_rows.specs.Numbers.{GivesOrder}
use Rattle.sort_rows.specs.Runs.{FinishesOrder}
use Rattle.result_rows.specs.Rows.{OrderedOf}
use Rattle.result_rows.specs.Selected.{selected_rows}
use Rattle.query_exec.specs.Steps.{GivesInOrder, IsInOrder}
use Rattle.query_exec.proofs.ConditionLemmas.{mapped_of}

-- ---- a step on rows by all of their numbers

pub step_gives : (node : NodeOf) (r made : ResultOf) (numbers : List ℕ) → node_rows node (numbered (numbers_from 0 (length r.rows)) r.rows) ≡ Some (numbered numbers r.rows)
    → made ≡ record { names = node_names node r.names; rows = numbered numbers r.rows; count = node_count node r } → node_result node r ≡ Some made
step_gives node r made numbers gives is = rw (is, rw (all_numbered r.rows) at gives) refl

pub step_fails : (node : NodeOf) (r : ResultOf) (fault : EvalFault) (rows : List (List CellValue)) (numbers : List ℕ) → rows ≡ r.rows → numbers ≡ numbers_from 0 (length r.rows)
    → GivesOrder {A = Global} (node_rows node) rows numbers (Err fault) → GivesInOrder (node_result node r) (Err fault)
step_fails node r DivisionByZero rows numbers same all none = rw (rw (same, all, all_numbered r.rows) at none) refl
step_fails node r NoMemory rows numbers same all none = tt

-- rows as they stand are in order
pub stored_in_order : (made : Option ResultOf) (rows : ResultOf) (given : OrderedOf) → made ≡ Some rows → given ≡ record { stored = rows; rows = rows; taken = 0 } → IsInOrder made given
stored_in_order made rows given makes is = rw is (record { rows_are = makes; untaken = refl })

-- ---- an order

pub order_gives : (items : List Item) (r : ResultOf) (given : OrderedOf) → option_map (selected_rows None) (ordered items r.rows) ≡ Some given.rows.rows
    → given.rows.names ≡ r.names → given.rows.count ≡ r.count → given.taken ≡ 0 → IsInOrder (node_result (sorting items) r) given
order_gives items r given makes names count untaken =
    let made = mapped_of (selected_rows None) (ordered items r.rows) given.rows.rows makes in
    record { rows_are = rw (made.1, made.2, ← names, ← count) refl; untaken = untaken }

pub order_fails : (items : List Item) (r : ResultOf) (fault : EvalFault) (rows : List (List CellValue)) → rows ≡ r.rows → FinishesOrder items rows (Err fault)
    → GivesInOrder (node_result (sorting items) r) (Err fault)
order_fails items r DivisionByZero rows same none = rw (rw same at none) refl
order_fails items r NoMemory rows same none = tt

-- ---- steps in turn

-- what is left to do on what there is gives what all steps gave, and fits; where there are no steps, nothing was done
pub record GoesThrough (nodes : List Node) (i : ℕ) (first now : OrderedOf) : Type 0 where
  pub fits : NodesFit (map node_view (drop i nodes)) now.rows
  pub same : nodes_result (map node_view nodes) first.rows ≡ nodes_result (map node_view (drop i nodes)) now.rows
  pub untaken : now.taken ≡ 0
  pub none : map node_view nodes ≡ [] → now ≡ first

pub begins : (nodes : List Node) (first : OrderedOf) → first.taken ≡ 0 → NodesFit (map node_view nodes) first.rows → GoesThrough nodes 0 first first
begins nodes first untaken fits = record { fits = fits; same = refl; untaken = untaken; none = λ e. refl }

module _ (nodes : List Node) (i : ℕ) (node : Node) (first now : OrderedOf) (inside : i < length nodes) (at : get_or nodes i node ≡ node) (so_far : GoesThrough nodes i first now) where
  left : map node_view (drop i nodes) ≡ node_view node ∷ map node_view (drop (i + 1) nodes)
  left = rw (drop_more nodes i node inside, at) refl

  fits_left : NodesFit (node_view node ∷ map node_view (drop (i + 1) nodes)) now.rows
  fits_left = rw left at so_far.fits

  same_left : nodes_result (map node_view nodes) first.rows ≡ nodes_result (node_view node ∷ map node_view (drop (i + 1) nodes)) now.rows
  same_left = rw left at so_far.same

  pub step_fits : IsFitNode (node_view node) now.rows
  step_fits = fits_left.0

  some : map node_view nodes ≡ [] → ⊥
  some e = omega (arith, inside, length-map nodes node_view, ap length e)

  pub step_made : (next : OrderedOf) → IsInOrder (node_result (node_view node) now.rows) next → GoesThrough nodes (i + 1) first next
  step_made next makes = record {
    fits = fits_left.1 next.rows makes.rows_are;
    same = same_left ∙ rw makes.rows_are refl;
    untaken = makes.untaken;
    none = λ e. absurd (some e);
  }

  pub step_faults : (fault : EvalFault) → GivesInOrder (node_result (node_view node) now.rows) (Err fault) → GivesInOrder (nodes_result (map node_view nodes) first.rows) (Err fault)
  step_faults DivisionByZero e = same_left ∙ rw e refl
  step_faults NoMemory e = tt

pub all_through : (nodes : List Node) (i : ℕ) (first now : OrderedOf) → length nodes ≤ i → GoesThrough nodes i first now → IsInOrder (nodes_result (map node_view nodes) first.rows) now
all_through nodes i first now over so_far = record {
  rows_are = rw (drop_all i nodes over) at so_far.same;
  untaken = so_far.untaken;
}
