-- What the filters that a plan begins with say of the blocks that it needs.
use Rattle.std.specs.Prelude.{ℕ, ◌&&◌, not, Bool, List, [], ◌∷◌, ◌++◌, Option, None, if◌then◌else◌, map}
use Rattle.std.specs.List.{filter_map, list_any}
use Rattle.typed_trees.specs.CanFault.{truth_can_fault}
use Rattle.typed_trees.specs.TypedTree.{TruthExprOf, conjunction}
use Rattle.query_plan.specs.Plan.{NodeOf, PlanOf, filtering, leading, slicing}
use Rattle.query_plan.specs.Rewrite.{best_plan}
pub use Rattle.query_plan.specs.Rewrite.{room_of}
use Rattle.query_plan.specs.Scan.{is_bare}
use Rattle.query_plan.specs.Tests.{test_of}

-- ---- conditions joined by `and`, to any depth

abbrev pub conjuncts : TruthExprOf → List TruthExprOf
conjuncts (conjunction a b) = conjuncts a ++ conjuncts b
conjuncts e = e ∷ []

-- the filters that come first, each split into its conjuncts
abbrev pub split_nodes : List NodeOf → List NodeOf
split_nodes [] = []
split_nodes (filtering e ∷ ns) = map filtering (conjuncts e) ++ split_nodes ns
split_nodes (n ∷ ns) = n ∷ ns

-- ---- the stop

-- how many rows that pass the filters that come first are looked for, where the step after them is a piece that counts nothing
abbrev pub early_stop : List NodeOf → Option ℕ
early_stop [] = None
early_stop (filtering e ∷ ns) = early_stop ns
early_stop (slicing s ∷ ns) = room_of s.skip s.top s.counts
early_stop (n ∷ ns) = None

-- ---- the whole

-- the scan reads every block, and none of the filters that come first can divide by zero
abbrev pub may_be_pushed : PlanOf → Bool
may_be_pushed p = is_bare p.scan && not (list_any truth_can_fault (leading p.nodes))

-- these filters are split, and the scan has the tests among them, and the stop
abbrev pub pushed_down : PlanOf → PlanOf
pushed_down p = record {
  scan = record { tests = filter_map test_of (leading (split_nodes p.nodes)); stop = early_stop p.nodes };
  nodes = split_nodes p.nodes;
}

abbrev pub pushed : PlanOf → PlanOf
pushed p = if may_be_pushed p then pushed_down p else p

-- a plan that reads fewer blocks, and keeps few rows of a sort
abbrev pub rewritten : PlanOf → PlanOf
rewritten p = best_plan (pushed p)
