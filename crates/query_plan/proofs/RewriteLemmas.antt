-- Other steps on the same rows.
use Rattle.std.proofs.Common.{◌≡◌, ℕ, Option, Some, None, List, [], ◌∷◌, refl, ap, ◌∙◌}
use Rattle.cell_types.specs.Value.{CellValue}
use Rattle.csvw_meta.specs.Schema.{SchemaOf}
use Rattle.typed_trees.specs.TypedTree.{TruthExprOf}
use Rattle.query_meaning.specs.Order.{Item}
use Rattle.query_plan.specs.Plan.{NodeOf, PlanOf, filtering, leading, needed, nodes_result, sorting, table_result}
use Rattle.query_plan.specs.Rewrite.{MeansTheSame, best_nodes, chosen, rows_needed}
use Rattle.query_plan.specs.Scan.{read_blocks, rows_of_blocks}

-- steps that begin with the same filters, and have the same result on the rows of a table
pub same_steps : (schema : SchemaOf) (p : PlanOf) (nodes : List NodeOf) → leading nodes ≡ leading p.nodes
    → ((rows : List (List CellValue)) → nodes_result nodes (table_result schema rows) ≡ nodes_result p.nodes (table_result schema rows))
    → MeansTheSame schema p (record p { nodes = nodes })
same_steps schema p nodes e each rows are =
    ap (λ (conditions : List TruthExprOf). nodes_result nodes (table_result schema (rows_of_blocks rows (read_blocks p.scan conditions rows)))) e
    ∙ each (rows_of_blocks rows (needed p rows))

-- ---- the filters that steps begin with

leading_chosen : (items : List Item) (most : Option ℕ) (ns : List NodeOf) → leading (chosen (sorting items) most ∷ ns) ≡ []
leading_chosen items None ns = refl
leading_chosen items (Some most) ns = refl

pub leading_best : (ns : List NodeOf) → leading (best_nodes ns) ≡ leading ns
leading_best [] = refl
leading_best (n ∷ []) = refl
leading_best (filtering e ∷ m ∷ ns) = ap (λ (es : List TruthExprOf). e ∷ es) (leading_best (m ∷ ns))
leading_best (sorting items ∷ m ∷ ns) = leading_chosen items (rows_needed m) (best_nodes (m ∷ ns))
leading_best (n ∷ m ∷ ns) = refl
