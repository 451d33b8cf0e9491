-- The first rows of an order that never divides by zero.
use Rattle.std.proofs.Common.{◌≡◌, ℕ, ◌<◌, true, false, cond, Option, Some, None, List, [], ◌∷◌, ◌++◌, append-nil, get_or, length, take, refl, sym, ap, ◌∙◌, arith}
use Rattle.std.specs.Prelude.{is_some, not, option_map}
use Rattle.std.specs.List.{All, list_any}
use Rattle.std.proofs.lemmas.Bool.{and_parts, not-true}
use Rattle.std.proofs.lemmas.List.{get_or-map, length-map}
use Rattle.std.proofs.lemmas.List.Elements.{All-append, All-drop}
use Rattle.std.proofs.Math.Seq.{drop-append_seam}
use Rattle.block_filter.specs.declared.block.Passed.{Passed}
use Rattle.cell_types.specs.Value.{CellValue}
use Rattle.cell_types.specs.declared.kind.NumberKind.TheVariants as numbers
use Rattle.typed_trees.specs.TypedTree as typed
use Rattle.typed_trees.specs.declared.tree.TruthExpr.{TruthExpr}
use Rattle.typed_trees.specs.TypedTree.{TypedExprOf}
use Rattle.row_eval.specs.Bounds.{NumbersFit}
use Rattle.row_eval.specs.Laws.{FaultsAreForeseen}
use Rattle.table_store.specs.Table.{TableOf}
use Rattle.typed_trees.specs.CanFault.{can_fault}
use Rattle.query_meaning.specs.Meaning.{ResultOf}
use Rattle.query_meaning.specs.Order.{Item, are_plain, order_faults, plain_column, rows_cmp, sorted}
use Rattle.row_columns.specs.Picked.{numbered}
use Rattle.row_selection.specs.Numbers.{numbers_from}
use Rattle.sort_rows.specs.Best.{best_rows, BestInPieces}
use Rattle.sort_rows.specs.Cutoffs.{NeverFault}
use Rattle.query_exec.specs.declared.sink.Sink.TheVariants as sink
use Rattle.query_exec.specs.declared.top_n.TopNSink.{TopNSink}
use Rattle.query_exec.specs.Steps.{without_count}
use Rattle.query_exec.specs.Items.{none_can_fault, ItemsFit}
use Rattle.result_rows.specs.Kept.{kept_names, kept_places, HasKept, HasReduced}
use Rattle.result_rows.specs.declared.kept.Kept.{Kept}
use Rattle.result_rows.specs.Selected.{selected_rows}
use Rattle.query_exec.specs.Sink.{sink_items, MayPush, PushesOn, SinkGives}
use Rattle.query_exec.specs.Cutoffs.{HasCutoff}
use Rattle.query_exec.specs.TopN.{AreBestOf, AreFirst, AreTimely, HasCutRows}
use Rattle.row_columns.proofs.NumberedLaws.{all_numbered}

-- ---- items that never divide by zero

safe_row : FaultsAreForeseen → (items : List Item) (row : List CellValue) → none_can_fault items ≡ true → order_faults items row ≡ false
safe_row law [] row h = refl
safe_row law (item ∷ items) row h =
    let parts = and_parts (not (can_fault item.0)) (none_can_fault items) h in
    grind (arith, law.expressions item.0 row (not-true (can_fault item.0) parts.0), safe_row law items row parts.1)

none_faults : FaultsAreForeseen → (items : List Item) (rows : List (List CellValue)) → none_can_fault items ≡ true → list_any (order_faults items) rows ≡ false
none_faults law items [] h = refl
none_faults law items (row ∷ rows) h = rw (safe_row law items row h) (none_faults law items rows h)

-- the rows have an order by them
pub safe_never_faults : FaultsAreForeseen → (items : List Item) → none_can_fault items ≡ true → NeverFault items
safe_never_faults law items safe rows = ap (λ b. cond b None (Some (sorted (rows_cmp items) rows))) (none_faults law items rows safe)

safe_best : FaultsAreForeseen → (items : List Item) (most : ℕ) (rows : List (List CellValue)) → none_can_fault items ≡ true
    → best_rows items most rows ≡ Some (take most (sorted (rows_cmp items) rows))
safe_best law items most rows h = ap (option_map (take most)) (safe_never_faults law items h rows)

pub never_faults : FaultsAreForeseen → (items : List Item) (most : ℕ) (rows : List (List CellValue)) → none_can_fault items ≡ true → best_rows items most rows ≡ None → ⊥
never_faults law items most rows safe e = let is = sym (safe_best law items most rows safe) ∙ e in cc

pub plain_is_safe : (items : List Item) → are_plain items ≡ true → none_can_fault items ≡ true
plain_is_safe [] plain = refl
plain_is_safe (item ∷ items) plain =
    let parts = and_parts (is_some (plain_column item.0)) (are_plain items) plain in rw (column_is_safe item.0 parts.0) (plain_is_safe items parts.1)
  where
    column_is_safe : (e : TypedExprOf) → is_some (plain_column e) ≡ true → can_fault e ≡ false
    column_is_safe (typed.integer (typed.number_column numbers.Integer place) bound) h = refl
    column_is_safe (typed.text (typed.text_column place)) h = refl
    column_is_safe (typed.truth (typed.truth_column place)) h = refl
    column_is_safe (typed.date (typed.date_column place)) h = refl
    column_is_safe (typed.decimal (typed.number_column numbers.Decimal place) bound) h = refl
    column_is_safe e h = absurd (cc)

-- of rows that the items fit, those with some numbers
pub numbered_fit : (P : List CellValue → Type 0) (rows : List (List CellValue)) (numbers : List ℕ) → All P rows → All (λ n. n < length rows) numbers → All P (numbered numbers rows)
numbered_fit P rows numbers fit within = λ k d h.
    let inside : k < length numbers = omega (arith, length-map numbers (λ n. get_or rows n [])) in
    rw (get_or-map (λ n. get_or rows n []) numbers k 0 d inside) (fit (get_or numbers k 0) [] (within k 0 inside))

-- after rows of which the first are the same the first are the same
best_behind : FaultsAreForeseen → BestInPieces → (items : List Item) (most : ℕ) (xs ys more : List (List CellValue)) → none_can_fault items ≡ true → best_rows items most xs ≡ best_rows items most ys
    → best_rows items most (xs ++ more) ≡ best_rows items most (ys ++ more)
best_behind faults law items most xs ys more safe e =
    let best = safe_best faults items most ys safe in
    sym (law.front items most xs more _ (e ∙ best)) ∙ law.front items most ys more _ best

-- ---- the rows that are kept

-- the first of them in their place
pub best_cut : BestInPieces → (items : List Item) (most : ℕ) (rows best : List (List CellValue)) → best_rows items most rows ≡ Some best
    → best_rows items most best ≡ best_rows items most rows
best_cut law items most rows best is =
    ap (best_rows items most) (sym (append-nil best)) ∙ law.front items most rows [] best is ∙ ap (best_rows items most) (append-nil rows)

pub best_of : (s : TopNSink) (all numbers : List ℕ) → all ≡ numbers_from 0 (length s.kept.columns.rows) → All (λ n. n < length s.kept.columns.rows) numbers
    → best_rows (sink_items s) s.most (numbered all s.kept.columns.rows) ≡ Some (numbered numbers s.kept.columns.rows) → AreBestOf s numbers
best_of s all numbers are within made = record {
  within = within;
  rows = rw (are, all_numbered s.kept.columns.rows) at made;
}

pub first_are_kept : (s : TopNSink) (kept : Kept) (numbers : List ℕ) → AreBestOf s numbers → HasReduced s.kept kept numbers → AreFirst (record s { kept = kept })
first_are_kept s kept numbers best has = record { rows = s.kept.columns.rows; best = rw has.rows best.rows }

pub cut_to : BestInPieces → (s : TopNSink) (kept : Kept) (cutoff : Option TruthExpr) (numbers : List ℕ) → ItemsFit (sink_items s) s.kept.columns.rows → AreBestOf s numbers → HasReduced s.kept kept numbers
    → HasCutoff (record s { kept = kept; cutoff = cutoff }) → HasCutRows s (record s { kept = kept; cutoff = cutoff })
cut_to law s kept cutoff numbers fit best has late = record {
  items = refl;
  most = refl;
  columns = has.same;
  fit = rw has.rows (numbered_fit (λ row. All (λ item. NumbersFit item.0 row) (sink_items s)) s.kept.columns.rows numbers fit best.within);
  cutoff = late;
  first = rw has.rows (best_cut law (sink_items s) s.most s.kept.columns.rows (numbered numbers s.kept.columns.rows) best.rows);
}

-- what the items compute on rows of a block that may be among the first fits, after rows where it does
pub block_fits : (old : TopNSink) (mid : Kept) (block : TableOf) (found : Passed) (numbers : List ℕ) → MayPush (sink.TopN old) block found
    → AreTimely old block.rows found.rows numbers → HasKept old.kept mid (selected_rows (kept_places old.kept) (numbered numbers block.rows))
    → ItemsFit (sink_items old) mid.columns.rows
block_fits old mid block found numbers may timely kept =
    let P : List CellValue → Type 0 = λ row. All (λ item. NumbersFit item.0 row) (sink_items old) in
    let more = selected_rows (kept_places old.kept) may.passing in
    let new : ItemsFit (sink_items old) more = rw (drop-append_seam may.before more) at (All-drop P (length may.before) (may.before ++ more) may.fits.0.numbers) in
    rw kept.rows (All-append P old.kept.columns.rows (selected_rows (kept_places old.kept) (numbered numbers block.rows)) may.pushed.fit (timely.fit (rw may.are_found.first new)))

-- rows of a block that may be among the first join them, and then rows that are not are let go
pub top_n_pushed : FaultsAreForeseen → BestInPieces → (old new : TopNSink) (mid : Kept) (rows : List (List CellValue)) (found : Passed) (numbers : List ℕ) → none_can_fault (sink_items old) ≡ true
    → AreTimely old rows found.rows numbers → HasKept old.kept mid (selected_rows (kept_places old.kept) (numbered numbers rows))
    → HasCutRows (record old { kept = mid }) new → PushesOn (sink.TopN old) (sink.TopN new) rows found
top_n_pushed faults law old new mid rows found numbers safe timely kept cut = record {
  nodes = rw (cut.items, cut.most) refl;
  columns = record {
    places = cut.columns.places ∙ kept.same.places;
    names = cut.columns.names ∙ kept.same.names;
    kinds = cut.columns.kinds ∙ kept.same.kinds;
  };
  pushed = λ before passing are has.
      let best = best_rows (sink_items old) old.most in
      let picked = kept_places old.kept in
      let front = old.kept.columns.rows in
      let more = selected_rows picked passing in
      let same : best new.kept.columns.rows ≡ best (before ++ more) =
      cut.first ∙ ap best kept.rows ∙ timely.first ∙ rw are.first (best_behind faults law (sink_items old) old.most front before more safe has.first) in
      record {
        safe = rw cut.items safe;
        fit = rw cut.items cut.fit;
        cutoff = cut.cutoff;
        first = rw (cut.items, cut.most) same;
      };
}

-- the first of those that are kept are the first of all
pub top_n_finishes : (s : TopNSink) (numbers : List ℕ) (given : ResultOf) → AreBestOf s numbers
    → given ≡ without_count (kept_names s.kept) (numbered numbers s.kept.columns.rows) → SinkGives (sink.TopN s) given
top_n_finishes s numbers given are is = record { gives = λ rows best. rw (is, sym best.first ∙ are.rows) refl }
