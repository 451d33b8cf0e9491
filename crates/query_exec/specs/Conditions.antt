-- The conditions that a plan begins with: of the rows of a table those go on that pass each of them in turn.
use Rattle.std.specs.Prelude.{List, map}
use Rattle.typed_trees.specs.TypedTree.{TruthExprOf}
use Rattle.query_plan.specs.Plan.{NodeOf, filtering}

-- the steps that they are
abbrev pub condition_nodes : List TruthExprOf → List NodeOf
condition_nodes es = map filtering es
