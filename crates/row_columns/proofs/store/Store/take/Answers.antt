use Rattle.std.proofs.Common.{◌≡◌, ◌+◌, ◌*◌, ◌++◌, ℕ, List, [], get_or, length, map, sym, subst, ap, ◌∙◌, arith}
use Rattle.std.specs.Prelude.{replicate}
use Rattle.std.specs.List.{AllByRecursion}
use Rattle.std.proofs.lemmas.List.{length-map, length-replicate}
use Rattle.block_summary.specs.declared.block.TheConstants.{BLOCK_ROWS}
use Rattle.cell_types.specs.Value.{CellValue}
use Rattle.row_columns.specs.declared.store.Store.TheVariants.{Blocks, Values}
use Rattle.row_columns.specs.Kinds.{any, of_kind}
use Rattle.row_columns.specs.Numbers.{numbers_from}
use Rattle.row_columns.specs.Picked.{numbered, values_at}
use Rattle.row_columns.specs.Store.{IsStoredWide}
use Rattle.row_columns.proofs.NumberLemmas.{from-start}
use Rattle.row_columns.proofs.RowLemmas.{blocks_taken, values_taken}
use Rattle.row_columns.proofs.StoreLemmas.{rows_wide}
use Rattle.row_columns.proofs.store.Store.take.Goals as goal

pub returns-in_ok-push-in-Blocks-clause-taken : goal.returns-in_ok-push-in-Blocks-clause-taken
returns-in_ok-push-in-Blocks-clause-taken c =
    let arm = c.in-Blocks in
    let places = c.args.places.now in
    let numbers = c.args.rows in
    let rows = c.args.block.now.rows in
    let piece = c.in_ok-of_places-in-Blocks.field-0 in
    let wide : IsStoredWide (Blocks arm.field-0 arm.pieces) = rw arm.is at c.requires.wide in
    let width : length (map of_kind arm.field-0.items) ≡ length places = rw arm.is at c.requires.width in
    let long : length piece ≡ length arm.field-0.items = c.in_ok-of_places-in-Blocks.ensures.wide ∙ sym width ∙ length-map arm.field-0.items of_kind in
    let count : c.len-start.result ≡ length arm.pieces.items = omega (arith, c.len-start.ensures, arm.pieces.ok.0) in
    rw arm.is (blocks_taken places numbers (map (λ n. c.len-start.result * BLOCK_ROWS + n) numbers) arm.field-0 arm.pieces c.push.new.self piece rows c.in_ok-push-in-Blocks.ensures.items long wide
    c.rows_are_few.ensures c.in_ok-of_places-in-Blocks.ensures.rows c.requires.within (ap (λ k. map (λ n. k * BLOCK_ROWS + n) numbers) count))

pub returns-else-len-gt-NUMBERS-clause-taken : goal.returns-else-len-gt-NUMBERS-clause-taken
returns-else-len-gt-NUMBERS-clause-taken c =
    let arm = c.in-Values in
    let places = c.args.places.now in
    let found = numbered c.args.rows c.args.block.now.rows in
    let taken = map (values_at places) found in
    let new = c.take.new.self in
    let start = c.len-start-in-Values.result in
    let count = c.len-in-Values-2.result in
    let wide : IsStoredWide (Values arm.values) = rw arm.is at c.requires.wide in
    let kinds : length (replicate arm.values.width any) ≡ length places = rw arm.is at c.requires.width in
    let width : arm.values.width ≡ length places = sym (length-replicate arm.values.width any) ∙ kinds in
    let long = subst (λ k. AllByRecursion (λ (r : List CellValue). length r ≡ k) taken) (sym width) (rows_wide places found) in
    let numbers : c.as_slice.result.now ≡ c.args.rows = c.as_slice.ensures.value ∙ c.in_ok-numbers-in-Values.ensures in
    let came : new.rows ≡ arm.values.rows ++ taken =
    c.in_ok-take-in-Values.ensures.rows ∙ ap (λ (ns : List ℕ). arm.values.rows ++ map (values_at places) (numbered ns c.args.block.now.rows)) numbers in
    let first : start ≡ length arm.values.rows = c.len-start-in-Values.ensures in
    let many : count ≡ length taken =
    omega (arith, c.len-in-Values-2.ensures, c.in_ok-numbers-in-Values.numbers.ok.0, ap (λ (ns : List ℕ). length ns) c.in_ok-numbers-in-Values.ensures, length-map found (values_at places), length-map c.args.rows (λ n. get_or c.args.block.now.rows n [])) in
    let made : map (λ row. start + row) c.all.result ≡ numbers_from (length arm.values.rows) (length taken) =
    ap (map (λ row. start + row)) c.all.ensures ∙ from-start start count ∙ ap (λ a. numbers_from a count) first ∙ ap (numbers_from (length arm.values.rows)) many in
    rw arm.is (values_taken arm.values new taken (map (λ row. start + row) c.all.result) c.take.ensures.width came long wide made)
