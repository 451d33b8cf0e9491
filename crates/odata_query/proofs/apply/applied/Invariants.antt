-- The transformations left are after those so far.
use Rattle.std.proofs.Common.{◌≡◌, ◌++◌, map, drop}
use Rattle.std.specs.Prelude.{Ok}
use Rattle.odata_parse.specs.Tree as tree
use Rattle.odata_types.specs.Columns.{inputs_view}
use Rattle.odata_types.specs.Result.{◌>>=◌}
use Rattle.odata_query.specs.Aggregate.{typed_transformation_view}
use Rattle.odata_query.specs.Apply.{apply_typing}
use Rattle.odata_query.proofs.apply.applied.Given as goal

abbrev pub invariant-loop-transformation : goal.invariant-loop-transformation
invariant-loop-transformation l = apply_typing (inputs_view l.fn.columns.items) (map tree.transformation_view l.transformations)
    ≡ (apply_typing (inputs_view l.columns.items) (map tree.transformation_view (drop l.transformation-index l.transformations)) >>= λ others.
    Ok (map typed_transformation_view l.made.items ++ others.0, others.1))
