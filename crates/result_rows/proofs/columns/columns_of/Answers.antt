use Rattle.std.proofs.Common.{◌≡◌, ◌∙◌, ◌<◌, List, ℕ, [], Option, ap, length, map, string_bytes, subst, sym}
use Rattle.std.specs.Prelude.{slice_index_or}
use Rattle.std.specs.List.{All}
use Rattle.std.proofs.lemmas.List.{length-map}
use Rattle.cell_types.specs.Value.{CellValue}
use Rattle.query_meaning.specs.Meaning.{ResultOf}
use Rattle.row_columns.specs.Picked.{numbered, values_at}
use Rattle.row_selection.specs.Numbers.{numbers_from}
use Rattle.row_columns.proofs.NumberedLaws.{all_numbered, all_within}
use Rattle.result_rows.proofs.columns.columns_of.Goals as goal

pub picked-requires-clause-places : goal.picked-requires-clause-places
picked-requires-clause-places c = subst (λ n. All (λ place. place < n) c.args.places.now) (sym c.columns.ensures.width) c.requires

pub picked-requires-clause-within : goal.picked-requires-clause-within
picked-requires-clause-within c = rw (c.columns.ensures.rows, c.as_slice.ensures.value, c.in_ok-all.ensures, c.len.ensures) (all_within (length c.args.rows.now.rows))

pub picked_names-requires : goal.picked_names-requires
picked_names-requires c =
    let long : length c.args.rows.now.names ≡ length c.names.result.now = sym (ap length c.names.ensures) ∙ length-map c.names.result.now string_bytes in
    subst (λ n. All (λ place. place < n) c.args.places.now) long c.requires

pub returns : goal.returns
returns c =
    let r = c.args.rows.now in
    let places = c.args.places.now in
    let named : List (List ℕ) → List (List CellValue) → Option ℕ → ResultOf = λ ns rs k. record { names = ns; rows = rs; count = k } in
    let names : map string_bytes c.in_ok-names.names.items ≡ map (λ place. slice_index_or r.names place []) places =
    c.in_ok-names.ensures ∙ ap (λ ns. map (λ place. slice_index_or ns place []) places) c.names.ensures in
    let picked : c.in_ok-columns.columns.rows ≡ map (values_at places) (numbered (numbers_from 0 (length r.rows)) r.rows) =
    rw (c.columns.ensures.rows, c.as_slice.ensures.value, c.in_ok-all.ensures, c.len.ensures) at c.in_ok-columns.ensures.rows in
    let rows = picked ∙ ap (map (values_at places)) (all_numbered r.rows) in
    let ns = map (λ place. slice_index_or r.names place []) places in
    c.new.ensures ∙ ap (λ xs. named xs c.in_ok-columns.columns.rows c.count.result) names ∙ ap (λ rs. named ns rs c.count.result) rows
    ∙ ap (λ k. named ns (map (values_at places) r.rows) k) c.count.ensures
