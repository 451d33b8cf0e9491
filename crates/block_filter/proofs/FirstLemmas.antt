-- The first of the rows that pass.
use Rattle.std.proofs.Common.{◌≡◌, ℕ, ◌<◌, ◌≤◌, Bool, Option, List, length, take, sym, ◌∙◌, arith}
use Rattle.std.specs.Prelude.{count_by, option_map}
use Rattle.std.specs.List.{All}
use Rattle.std.proofs.lemmas.List.Sums.{count_by-le-length}
use Rattle.cell_types.specs.Value.{CellValue}
use Rattle.typed_trees.specs.TypedTree.{TruthExprOf}
use Rattle.query_meaning.specs.Meaning.{first_rows}
use Rattle.row_selection.specs.Marks.{marked_numbers}
use Rattle.block_filter.specs.declared.block.Passed.{Passed}
use Rattle.block_filter.specs.declared.passing.Narrowed.{Narrowed}
use Rattle.block_filter.specs.Marks.{is_marked, marked}
use Rattle.block_filter.specs.Passing.{unless_faulted, IsNarrowedBy, ArePassing}
use Rattle.block_filter.proofs.PassingLemmas.{marked_count, numbered_first}

first_some : (most : Option ℕ) (faulted : Bool) (rows : List (List CellValue)) → option_map (first_rows most) (unless_faulted faulted rows) ≡ unless_faulted faulted (first_rows most rows)
first_some most faulted rows = grind arith

pub first_marked : (es : List TruthExprOf) (rows : List (List CellValue)) (most : Option ℕ) (limit : ℕ) (left : Narrowed) (found : Passed) → IsNarrowedBy es rows left
    → ((xs : List (List CellValue)) → length xs ≤ length rows → take limit xs ≡ first_rows most xs)
    → found.rows ≡ take limit (marked_numbers 0 left.wanted.items) → All (λ n. n < length left.wanted.items) found.rows
    → found.count ≡ count_by is_marked left.wanted.items → found.faulted ≡ left.faulted → ArePassing es most rows found
first_marked es rows most limit left found are limited numbers within count faulted =
    let xs = marked left.wanted.items rows in
    let counted = marked_count left.wanted.items rows are.long in
    let few : length xs ≤ length rows = omega (arith, counted, count_by-le-length is_marked left.wanted.items, are.long) in
    record {
      passed = rw (are.passed, faulted, numbered_first left.wanted.items rows limit found.rows are.long numbers, limited xs few) (first_some most left.faulted xs);
      within = rw are.long at within;
      count = count ∙ sym counted ∙ sym are.count;
    }
