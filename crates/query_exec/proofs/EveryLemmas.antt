-- Rows of which all go on.
use Rattle.std.proofs.Common.{◌≡◌, ℕ, None, Option, List, [], false, length, refl, ◌∙◌}
use Rattle.cell_types.specs.Value.{CellValue}
use Rattle.typed_trees.specs.TypedTree.{TruthExprOf}
use Rattle.block_filter.specs.declared.block.Passed.{Passed}
use Rattle.block_filter.specs.Passing.{ArePassing}
use Rattle.row_selection.specs.Numbers.{numbers_from}
use Rattle.query_exec.proofs.CountLemmas.{passed_count}
use Rattle.row_columns.proofs.NumberedLaws.{all_numbered, all_within}

-- so they pass no conditions
pub every_found : (rows : List (List CellValue)) (most : Option ℕ) (es : List TruthExprOf) (len : ℕ) (found : Passed) → most ≡ None → es ≡ [] → len ≡ length rows
    → found.rows ≡ numbers_from 0 len → found.count ≡ len → found.faulted ≡ false → ArePassing es most rows found
every_found rows most es len found unlimited none long all count still =
    rw (unlimited, none) (record {
      passed = rw (still, all, long, all_numbered rows) refl;
      within = rw (all, long) (all_within (length rows));
      count = count ∙ long ∙ passed_count [] rows rows refl;
    })
