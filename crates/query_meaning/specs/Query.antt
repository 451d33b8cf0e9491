-- The rows that `$filter` keeps (OData 4.01 URL Conventions, section 5.1.2).
use Rattle.std.specs.Prelude.{List, Option, Some, None}
use Rattle.cell_types.specs.Value.{CellValue}
use Rattle.typed_trees.specs.TypedTree.{TruthExprOf}
use Rattle.query_meaning.specs.Filter.{passing}

-- all rows, where there is no filter
abbrev pub filtered : Option TruthExprOf → List (List CellValue) → Option (List (List CellValue))
filtered None rows = Some rows
filtered (Some e) rows = passing e rows
