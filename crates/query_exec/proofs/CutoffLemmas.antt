-- Rows of a block that come too late after those that a sink keeps.
use Rattle.std.proofs.Common.{◌≡◌, inl, inr, ℕ, ◌<◌, ◌≤◌, ◌-◌, Bool, false, Option, Some, None, List, [], ◌∷◌, ◌++◌, append-nil, append_assoc, filter, get_or, length, refl, sym, ap, ◌∙◌, arith}
use Rattle.std.specs.Prelude.{Err, IfOk, IfSome, Ok, Result}
use Rattle.std.specs.declared.alloc.AllocError.{AllocError}
use Rattle.std.specs.List.{All, AllByRecursion}
use Rattle.std.proofs.lemmas.Bool.{cases_Bool}
use Rattle.std.proofs.lemmas.List.{get_or-map, length-map}
use Rattle.std.proofs.lemmas.List.Elements.{All-filter, All-from_recursion, recursion_from_All}
use Rattle.std.proofs.lemmas.Option.{get_or_from_slice_get, slice_get_within, IfSome_then}
use Rattle.cell_types.specs.Value.{CellValue, null}
use Rattle.typed_trees.specs.declared.tree.TruthExpr.{TruthExpr}
use Rattle.typed_trees.specs.TypedTree.{TruthExprOf, truth_view}
use Rattle.row_eval.specs.Bounds.{NumbersFit}
use Rattle.row_eval.specs.Logic.{truth_of}
use Rattle.query_meaning.specs.Filter.{is_true, passes}
use Rattle.query_meaning.specs.Order.{Item}
use Rattle.row_columns.specs.Picked.{numbered}
use Rattle.sort_rows.specs.Best.{best_rows}
use Rattle.sort_rows.specs.Cutoffs.{first_value, is_near, may_precede, ComesLate, HasCalendarDays, IsTest, NeverFault, RowsAreCutOff}
use Rattle.result_rows.specs.declared.kept.Kept.{Kept}
use Rattle.query_exec.specs.declared.top_n.TopNSink.{TopNSink}
use Rattle.query_exec.specs.Cutoffs.{selected_row, CutsOff, HasCutoff, IsFirstColumn, IsSourceOf}
use Rattle.result_rows.specs.Kept.{kept_places, HasKept}
use Rattle.result_rows.specs.Selected.{selected_rows}
use Rattle.query_exec.specs.Sink.{sink_items}
use Rattle.query_exec.specs.TopN.{AreFirst, AreTimely}
use Rattle.result_rows.proofs.SelectedLemmas.{as_many_rows}
use Rattle.query_exec.proofs.ConditionLemmas.{selected_none}
use Rattle.query_exec.proofs.DayLemmas.{days_at}

-- ---- the first column

-- a kept cell is that of its column in the block
source_cell : (places : Option (List ℕ)) (place col : ℕ) (row : List CellValue) → IsSourceOf places place col → get_or row col null ≡ get_or (selected_row places row) place null
source_cell None place col row is = ap (λ p. get_or row p null) is
source_cell (Some places) place col row is =
    rw (get_or-map (λ p. get_or row p null) places place 0 null (slice_get_within places place col is), get_or_from_slice_get places place col 0 is) refl

true_as : (b : Bool) → is_true (Some (truth_of b)) ≡ b
true_as b = grind arith

-- the condition cuts off, where the kept rows are the first, as many as are asked for
pub cuts_off : RowsAreCutOff → (items : List Item) (most col : ℕ) (kept : Kept) (rows : List (List CellValue)) (e : TruthExprOf) → NeverFault items → best_rows items most rows ≡ Some kept.columns.rows
    → 0 < most → most ≤ length kept.columns.rows → IsFirstColumn items kept col → IsTest items col (may_precede items (first_value items (get_or kept.columns.rows (most - 1) []))) e
    → CutsOff items most kept e
cuts_off law items most col kept rows e never best some enough first tests =
    let test = may_precede items (first_value items (get_or kept.columns.rows (most - 1) [])) in
    record {
      fits = tests.fits;
      late = λ row days out.
          let picked = selected_row (kept_places kept) row in
          let is = tests.outcome first.place row picked first.first (source_cell (kept_places kept) first.place col row first.source) days in
          law.late items most rows kept.columns.rows picked never best some enough (sym (true_as (test picked)) ∙ (rw is at out));
    }

pub cutoff_made : RowsAreCutOff → (s : TopNSink) (col : ℕ) (r : Result (Option TruthExpr) AllocError) → NeverFault (sink_items s) → AreFirst s → 0 < s.most → s.most ≤ length s.kept.columns.rows
    → IsFirstColumn (sink_items s) s.kept col
    → IfOk r (λ made. IfSome made (λ e. IsTest (sink_items s) col (may_precede (sink_items s) (first_value (sink_items s) (get_or s.kept.columns.rows (s.most - 1) []))) (truth_view e)))
    → IfOk r (λ made. IfSome made (λ e. CutsOff (sink_items s) s.most s.kept (truth_view e)))
cutoff_made law s col (Ok None) never first some enough column h = tt
cutoff_made law s col (Ok (Some e)) never first some enough column h =
    cuts_off law (sink_items s) s.most col s.kept first.rows (truth_view e) never first.best some enough column h
cutoff_made law s col (Err fault) never first some enough column h = h

-- ---- more rows are kept

late_after_more : (items : List Item) (most : ℕ) (front more : List (List CellValue)) (row : List CellValue) → ComesLate items most front row → ComesLate items most (front ++ more) row
late_after_more items most front more row late between others = rw (append_assoc front more between) (late (more ++ between) others)

pub cuts_off_more : (items : List Item) (most : ℕ) (old new : Kept) (more : List (List CellValue)) (e : TruthExprOf) → HasKept old new more → CutsOff items most old e → CutsOff items most new e
cuts_off_more items most old new more e kept cuts = record {
  fits = cuts.fits;
  late = λ row days out. rw (kept.same.places, kept.rows) (late_after_more items most old.columns.rows more (selected_row (kept_places old) row) (cuts.late row days out));
}

pub cutoff_more : (s : TopNSink) (new : Kept) (more : List (List CellValue)) → HasKept s.kept new more → HasCutoff s → HasCutoff (record s { kept = new })
cutoff_more s new more kept has = IfSome_then s.cutoff has (λ e cuts. cuts_off_more (sink_items s) s.most s.kept new more (truth_view e) kept cuts)

-- ---- rows of a block

rows_listed : (places : Option (List ℕ)) (rows : List (List CellValue)) (n : ℕ) (ns : List ℕ)
    → selected_rows places (numbered (n ∷ ns) rows) ≡ selected_row places (get_or rows n []) ∷ selected_rows places (numbered ns rows)
rows_listed None rows n ns = refl
rows_listed (Some places) rows n ns = refl

one_between : (front between : List (List CellValue)) (row : List CellValue) (others : List (List CellValue)) → front ++ between ++ row ∷ others ≡ front ++ (between ++ row ∷ []) ++ others
one_between front between row others =
    sym (append_assoc (front ++ between) (row ∷ []) others) ∙ ap (λ rs. rs ++ others) (append_assoc front between (row ∷ []))

module _ (places : Option (List ℕ)) (rows : List (List CellValue)) (p : ℕ → Bool) where
  abbrev listed : List ℕ → List (List CellValue)
  listed ns = selected_rows places (numbered ns rows)

  late_left_out : (items : List Item) (most : ℕ) (front : List (List CellValue)) → ((n : ℕ) → p n ≡ false → ComesLate items most front (selected_row places (get_or rows n [])))
      → (between : List (List CellValue)) (ns : List ℕ) → best_rows items most (front ++ between ++ listed (filter p ns)) ≡ best_rows items most (front ++ between ++ listed ns)
  late_left_out items most front late between [] = refl
  late_left_out items most front late between (n ∷ ns) =
      let row = selected_row places (get_or rows n []) in
      elim (cases_Bool (p n)) [
        | inl e ↦ rw (e, rows_listed places rows n (filter p ns), rows_listed places rows n ns, one_between front between row (listed (filter p ns)), one_between front between row (listed ns))
            (late_left_out items most front late (between ++ row ∷ []) ns)
        | inr e ↦ rw (e, rows_listed places rows n ns) (late_left_out items most front late between ns ∙ sym (late n e between (listed ns)))
      ]

  some_fit : (P : List CellValue → Type 0) (ns : List ℕ) → AllByRecursion P (listed ns) → AllByRecursion P (listed (filter p ns))
  some_fit P [] all = all
  some_fit P (n ∷ ns) all =
      let parts = rw (rows_listed places rows n ns) at all in
      elim (cases_Bool (p n)) [
        | inl e ↦ rw (e, rows_listed places rows n (filter p ns)) (parts.0, some_fit P ns parts.1)
        | inr e ↦ rw e (some_fit P ns parts.1)
      ]

-- rows that pass a test are enough, if the first are the same
module _ (s : TopNSink) (rows : List (List CellValue)) (p : ℕ → Bool) (numbers made : List ℕ) (within : All (λ n. n < length rows) numbers) (is : made ≡ filter p numbers) where
  passed_are_timely : best_rows (sink_items s) s.most (s.kept.columns.rows ++ listed (kept_places s.kept) rows p (filter p numbers))
      ≡ best_rows (sink_items s) s.most (s.kept.columns.rows ++ listed (kept_places s.kept) rows p numbers) → AreTimely s rows numbers made
  passed_are_timely first =
      let P : List CellValue → Type 0 = λ row. All (λ item. NumbersFit item.0 row) (sink_items s) in
      let places = kept_places s.kept in
      rw is (record {
        within = All-filter p (λ n. n < length rows) numbers within;
        first = first;
        fit = λ all.
            All-from_recursion P (listed places rows p (filter p numbers)) (some_fit places rows p P numbers (recursion_from_All P (listed places rows p numbers) all));
      })

-- the rows on which the condition is true are enough
pub passing_are_timely : (s : TopNSink) (e : TruthExprOf) (rows : List (List CellValue)) (numbers made : List ℕ) → CutsOff (sink_items s) s.most s.kept e → All HasCalendarDays rows
    → All (λ n. n < length rows) numbers
    → made ≡ filter (λ n. passes e (get_or rows n [])) numbers → AreTimely s rows numbers made
passing_are_timely s e rows numbers made cuts days within is =
    let front = s.kept.columns.rows in
    passed_are_timely s rows (λ n. passes e (get_or rows n [])) numbers made within is
    (rw append-nil at (late_left_out (kept_places s.kept) rows (λ n. passes e (get_or rows n [])) (sink_items s) s.most front (λ n out. cuts.late (get_or rows n []) (days_at rows days n) out) [] numbers))

-- ---- rows that are near

module _ (places : Option (List ℕ)) (rows : List (List CellValue)) (p : ℕ → Bool) (q : List CellValue → Bool)
    (alike : (n : ℕ) → p n ≡ q (selected_row places (get_or rows n []))) where
  listed_filtered : (ns : List ℕ) → listed places rows p (filter p ns) ≡ filter q (listed places rows p ns)
  listed_filtered [] = rw (selected_none places) refl
  listed_filtered (n ∷ ns) = elim (cases_Bool (p n)) [
    | inl e ↦ rw (e, rows_listed places rows n (filter p ns), rows_listed places rows n ns, ← (alike n), e, listed_filtered ns) refl
    | inr e ↦ rw (e, rows_listed places rows n ns, ← (alike n), e) (listed_filtered ns)
  ]

-- the rows that are near are enough, if they are as many as are asked for
pub near_are_timely : RowsAreCutOff → (s : TopNSink) (e : TruthExprOf) (col : ℕ) (bound : CellValue) (rows : List (List CellValue)) (numbers made : List ℕ) → NeverFault (sink_items s)
    → IsFirstColumn (sink_items s) s.kept col → IsTest (sink_items s) col (is_near (sink_items s) bound) e → All HasCalendarDays rows → All (λ n. n < length rows) numbers
    → made ≡ filter (λ n. passes e (get_or rows n [])) numbers → s.most ≤ length made → AreTimely s rows numbers made
near_are_timely law s e col bound rows numbers made never first tests days within is enough =
    let p : ℕ → Bool = λ n. passes e (get_or rows n []) in
    let q : List CellValue → Bool = is_near (sink_items s) bound in
    let places = kept_places s.kept in
    let alike : (n : ℕ) → p n ≡ q (selected_row places (get_or rows n [])) = λ n.
    let row = get_or rows n [] in
    ap is_true (tests.outcome first.place row (selected_row places row) first.first (source_cell places first.place col row first.source) (days_at rows days n)) ∙ true_as (q (selected_row places row)) in
    let all = selected_rows places (numbered numbers rows) in
    let same : selected_rows places (numbered (filter p numbers) rows) ≡ filter q all = listed_filtered places rows p q alike numbers in
    let long : length made ≡ length (filter q all) =
    rw (is, ← same, as_many_rows places (numbered (filter p numbers) rows)) (sym (length-map (filter p numbers) (λ n. get_or rows n []))) in
    passed_are_timely s rows p numbers made within is
    (rw same (law.near (sink_items s) s.most s.kept.columns.rows all bound never (omega (arith, enough, long))))

-- fewer rows in turn
pub timely_in_turn : (s : TopNSink) (rows : List (List CellValue)) (old mid new : List ℕ) → AreTimely s rows old mid → AreTimely s rows mid new → AreTimely s rows old new
timely_in_turn s rows old mid new a b = record { within = b.within; first = b.first ∙ a.first; fit = λ fits. b.fit (a.fit fits) }
