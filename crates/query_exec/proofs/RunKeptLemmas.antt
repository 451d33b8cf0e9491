-- What a run keeps of the rows that passed.
use Rattle.std.proofs.Common.{◌≡◌, ℕ, List, Option, Some, None, length, min, take, sym, ap, ◌∙◌, arith}
use Rattle.std.specs.Prelude.{option_map}
use Rattle.std.proofs.lemmas.List.{length-take}
use Rattle.std.proofs.lemmas.List.Sorted.{length_permutation}
use Rattle.std.proofs.lemmas.Option.{same_Some}
use Rattle.cell_types.specs.Value.{CellValue}
use Rattle.row_eval.specs.Laws.{FaultsAreForeseen}
use Rattle.query_meaning.specs.Laws.{RowsAreInOrder}
use Rattle.query_meaning.specs.Order.{rows_cmp, sorted}
use Rattle.sort_rows.specs.Best.{best_rows}
use Rattle.aggregate_rows.specs.Gathered.{group_keys}
use Rattle.query_exec.specs.declared.run_kept.RunKept.TheVariants.{Groups}
use Rattle.query_exec.specs.declared.top_n.TopNSink.{TopNSink}
use Rattle.query_exec.specs.RunKept.{groups_keep}
use Rattle.query_exec.specs.Sink.{sink_items, HasBest}
use Rattle.query_exec.proofs.TopNLemmas.{safe_never_faults}

-- of the rows that are kept for the first of an order as many are among the first as of all
pub as_many_best : FaultsAreForeseen → RowsAreInOrder → (sink : TopNSink) (rows : List (List CellValue)) → HasBest sink rows
    → min sink.most (length sink.kept.columns.rows) ≡ min sink.most (length rows)
as_many_best faults law sink rows has =
    let items = sink_items sink in
    let best : (xs : List (List CellValue)) → best_rows items sink.most xs ≡ Some (take sink.most (sorted (rows_cmp items) xs)) =
    λ xs. ap (option_map (take sink.most)) (safe_never_faults faults items has.safe xs) in
    let long : (xs : List (List CellValue)) → length (take sink.most (sorted (rows_cmp items) xs)) ≡ min sink.most (length xs) =
    λ xs. (
    let whole : length (sorted (rows_cmp items) xs) ≡ length xs = omega (arith, length_permutation xs (sorted (rows_cmp items) xs) (law.rows items xs)) in
    length-take sink.most (sorted (rows_cmp items) xs) ∙ ap (min sink.most) whole
    ) in
    let same = same_Some _ _ (sym (best sink.kept.columns.rows) ∙ has.first ∙ best rows) in
    sym (long sink.kept.columns.rows) ∙ ap length same ∙ long rows

-- that many groups are kept
pub groups_kept : (places : Option (List ℕ)) (rows : List (List CellValue)) (count : ℕ) → count ≡ length (group_keys places rows) → Groups count ≡ groups_keep places rows
groups_kept None rows count e = ap Groups e
groups_kept (Some places) rows count e = ap Groups e
