use Rattle.std.proofs.Common.{◌≡◌, ◌++◌, ◌∷◌, List, [], get_or, length, take, sym, ap, ◌∙◌, append_assoc, arith}
use Rattle.std.proofs.lemmas.List.{length_push, map_more}
use Rattle.cell_types.specs.Rows.{value_at, values_at}
use Rattle.cell_types.specs.Value.{CellValue, value_view}
use Rattle.value_rows.proofs.RowLaws.{cell-is}
use Rattle.value_rows.proofs.rows.push_taken.Goals as goal

pub loop-place-preserved : goal.loop-place-preserved
loop-place-preserved c =
    let places = c.args.places.now in
    let i = c.loop-place.place-index in
    let row : List CellValue = get_or c.args.block.now.rows c.args.row [] in
    let old = c.args.values.now in
    let values = c.loop-place.values in
    let v = value_view c.in_ok-value.field-0 in
    let is : v ≡ value_at row (get_or places i 0) = cell-is c.args.block.now.rows c.args.row (get_or places i 0) v c.in_ok-value.ensures.value in
    record {
      longer = omega (arith, c.loop-place.invariant.longer, ap length c.in_ok-push.ensures.pushed, length_push values v);
      values = c.in_ok-push.ensures.pushed ∙ ap (λ vs. vs ++ v ∷ []) c.loop-place.invariant.values
          ∙ append_assoc old (values_at (take i places) row) (v ∷ [])
          ∙ ap (λ vs. old ++ vs) (ap (λ v. values_at (take i places) row ++ v ∷ []) is ∙ sym (map_more (value_at row) places i 0 c.loop-place-test.true));
    }
