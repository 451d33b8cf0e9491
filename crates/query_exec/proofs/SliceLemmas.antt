-- A piece of rows that come block by block.
use Rattle.std.proofs.Common.{◌≡◌, ℕ, zero, suc, ◌+◌, ◌-◌, ◌^◌, ◌<◌, nat_lt, Bool, true, false, cond, Option, Some, None, List, [], ◌++◌, drop, length, take, refl, sym, ap, ◌∙◌, arith}
use Rattle.std.specs.Prelude.{min}
use Rattle.std.specs.Bool.{then_some}
use Rattle.std.specs.Option.{option_or, unwrap_or}
use Rattle.std.proofs.lemmas.Bool.{cases_lt, ltb-false}
use Rattle.std.proofs.Math.Seq.{drop-append-add, drop-nil, take-append-add, take-nil}
use Rattle.std.proofs.lemmas.Grind.{common_steps}
use Rattle.std.proofs.lemmas.List.{drop-append-le, drop-take, drop_all, length-append, length-drop, length-take, take_all}
use Rattle.cell_types.specs.Value.{CellValue}
use Rattle.row_columns.specs.Picked.{numbered}
use Rattle.block_filter.specs.declared.block.Passed.{Passed}
use Rattle.query_meaning.specs.Meaning.{first_rows}
use Rattle.query_plan.specs.Plan.{SliceOf, node_result, slicing}
use Rattle.query_plan.specs.Push.{room_of}
use Rattle.result_rows.specs.Rows.{RowsOf}
use Rattle.query_exec.specs.declared.sink.Sink.TheVariants as sink
use Rattle.query_exec.specs.declared.slice.SliceSink.{SliceSink}
use Rattle.result_rows.specs.Kept.{kept_names, kept_places, HasKept}
use Rattle.result_rows.specs.Selected.{selected_rows}
use Rattle.query_exec.specs.Sink.{first_result, room_behind, spare_of, AreFound, HasPiece, PushesOn, SinkGives}
use Rattle.result_rows.proofs.SelectedLemmas.{as_many_rows, selected_drop, selected_first}

-- ---- a piece of rows and of others after them

drop_parts : (n : ℕ) (xs ys : List (List CellValue)) → drop n (xs ++ ys) ≡ drop n xs ++ drop (n - length xs) ys
drop_parts n xs ys = grind (arith, cases_lt n (length xs), drop-append-le n xs ys, drop-append-add xs ys (n - length xs), drop_all n xs)

take_parts : (n : ℕ) (xs ys : List (List CellValue)) → take n (xs ++ ys) ≡ take n xs ++ take (n - length xs) ys
take_parts n xs ys = grind (arith, common_steps, cases_lt n (length xs), take-append-add xs ys (n - length xs))

-- the first rows after others
both_parts : (skip top : ℕ) (xs ys : List (List CellValue))
    → take top (drop skip (xs ++ ys)) ≡ take top (drop skip xs) ++ drop (skip - length xs) (take ((skip + top) - length xs) ys)
both_parts skip top xs ys =
    let front : skip - length (take (skip + top) xs) ≡ skip - length xs = omega (arith, length-take (skip + top) xs) in
    sym (drop-take skip top (xs ++ ys)) ∙ rw (take_parts (skip + top) xs ys, drop_parts skip (take (skip + top) xs) (take ((skip + top) - length xs) ys), drop-take skip top xs, front) refl

-- if a piece is of the first rows, and there are fewer, it is of all
sized : (skip top : ℕ) (b : Bool) (xs ys : List (List CellValue)) → nat_lt (skip + top) (2 ^ 64) ≡ b → length (xs ++ ys) < 2 ^ 64
    → take top (drop skip (xs ++ ys)) ≡ take top (drop skip xs) ++ drop (skip - length xs) (first_rows (room_behind (cond b (Some (skip + top)) None) (length xs)) ys)
sized skip top true xs ys is few = both_parts skip top xs ys
sized skip top false xs ys is few =
    let over = ltb-false (skip + top) (2 ^ 64) is in
    take_all top (drop skip (xs ++ ys)) (omega (arith, over, few, length-drop skip (xs ++ ys))) ∙ drop_parts skip xs ys
    ∙ ap (λ rows. rows ++ drop (skip - length xs) ys) (sym (take_all top (drop skip xs) (omega (arith, over, few, length-append xs ys, length-drop skip xs))))

piece_behind : (skip : ℕ) (top : Option ℕ) (xs ys : List (List CellValue)) → length (xs ++ ys) < 2 ^ 64
    → first_rows top (drop skip (xs ++ ys)) ≡ first_rows top (drop skip xs) ++ drop (skip - length xs) (first_rows (room_behind (room_of skip top false) (length xs)) ys)
piece_behind skip None xs ys few = drop_parts skip xs ys
piece_behind skip (Some zero) xs ys few =
    let none : 0 - length xs ≡ 0 = omega arith in rw none (sym (drop-nil (skip - length xs)))
piece_behind skip (Some (suc top)) xs ys few = sized skip (suc top) (nat_lt (skip + suc top) (2 ^ 64)) xs ys refl few

-- a piece of the first rows is a beginning of the piece of all
pub piece_begins : (skip : ℕ) (top : Option ℕ) (xs ys : List (List CellValue))
    → (rest : List (List CellValue)) × (first_rows top (drop skip (xs ++ ys)) ≡ first_rows top (drop skip xs) ++ rest)
piece_begins skip None xs ys = (drop (skip - length xs) ys, drop_parts skip xs ys)
piece_begins skip (Some n) xs ys =
    let behind = drop (skip - length xs) ys in
    (take (n - length (drop skip xs)) behind, ap (take n) (drop_parts skip xs ys) ∙ take_parts n (drop skip xs) behind)

-- ---- a piece of the first rows

first_are : (most : Option ℕ) (rows : List (List CellValue)) → first_rows most rows ≡ take (min (unwrap_or most (length rows)) (length rows)) rows
first_are most rows = grind (arith, common_steps)

drop_first : (skip first : ℕ) (rows : List (List CellValue)) → drop skip (take first rows) ≡ take (first - skip) (drop skip rows)
drop_first skip first rows = grind (arith, common_steps, cases_lt first skip, drop-take skip (first - skip) rows)

first_left : (top : Option ℕ) (left : ℕ) (rows : List (List CellValue)) → first_rows top (take left rows) ≡ take (min (unwrap_or top left) left) rows
first_left top left rows = grind (arith, common_steps)

pub asked : (b : Bool) (count : ℕ) → then_some b count ≡ cond b (Some count) None
asked b count = grind arith

asked_or : (b : Bool) (first : ℕ) (count : Option ℕ) → option_or (then_some b first) count ≡ cond b (Some first) count
asked_or b first count = grind arith

pub piece_is : (r : RowsOf) (most : Option ℕ) (s : SliceOf) (first left top : ℕ) (made : RowsOf) → first ≡ min (unwrap_or most (length r.rows)) (length r.rows)
    → left ≡ first - s.skip → top ≡ min (unwrap_or s.top left) left
    → made ≡ record { names = r.names; rows = take top (drop s.skip r.rows); count = option_or (then_some s.counts first) r.count }
    → node_result (slicing s) (first_result most r) ≡ Some made
piece_is r most s first left top made first_is left_is top_is is =
    let rows = r.rows in
    let front : first_rows most rows ≡ take first rows = rw first_is (first_are most rows) in
    let long : length (take first rows) ≡ first = omega (arith, length-take first rows, first_is) in
    let piece : first_rows s.top (drop s.skip (take first rows)) ≡ take top (drop s.skip rows) =
    rw (drop_first s.skip first rows, top_is, ← left_is) (first_left s.top left (drop s.skip rows)) in
    rw (is, front, piece, long, asked_or s.counts first r.count) refl

-- ---- rows that are pushed

pub slice_count : (old : SliceSink) (rows before passing : List (List CellValue)) (found : Passed) → AreFound (spare_of (sink.Slice old)) rows found passing → HasPiece old before
    → length (before ++ selected_rows (kept_places old.kept) passing) < 2 ^ 64 → old.count + found.count < 2 ^ 64
slice_count old rows before passing found are has few =
    omega (arith, has.count, are.count, few, length-append before (selected_rows (kept_places old.kept) passing), as_many_rows (kept_places old.kept) passing)

-- those of the rows that were found that are in the piece join those that are kept, and all are counted
pub slice_pushed : (old new : SliceSink) (rows : List (List CellValue)) (found : Passed) (numbers : List ℕ) → new.slice ≡ old.slice → new.count ≡ old.count + found.count
    → old.count + found.count < 2 ^ 64 → numbered numbers rows ≡ drop (old.slice.skip - old.count) (numbered found.rows rows)
    → HasKept old.kept new.kept (selected_rows (kept_places old.kept) (numbered numbers rows)) → PushesOn (sink.Slice old) (sink.Slice new) rows found
slice_pushed old new rows found numbers slice_is count_is few behind kept = record {
  nodes = rw slice_is refl;
  columns = kept.same;
  pushed = λ before passing are has.
      let skip = old.slice.skip in
      let top = old.slice.top in
      let picked = kept_places old.kept in
      let more = selected_rows picked passing in
      let room = room_of skip top false in
      let counted : old.count + found.count ≡ length (before ++ more) = omega (arith, has.count, are.count, length-append before more, as_many_rows picked passing) in
      let fits : length (before ++ more) < 2 ^ 64 = omega (arith, counted, few) in
      let new_rows : selected_rows picked (numbered numbers rows) ≡ drop (skip - length before) (first_rows (room_behind room (length before)) more) =
      rw (behind, are.first, selected_drop picked (skip - old.count) (first_rows (room_behind room old.count) passing), selected_first picked (room_behind room old.count) passing, has.count) refl in
      record {
        piece = rw (kept.rows, has.piece, new_rows, slice_is) (sym (piece_behind skip top before more fits));
        count = count_is ∙ counted;
      };
}

first_none : (skip : ℕ) (top : Option ℕ) → first_rows top (drop skip []) ≡ []
first_none skip None = drop-nil skip
first_none skip (Some n) = ap (take n) (drop-nil skip) ∙ take-nil n

-- before any is
pub no_piece : (s : SliceSink) → s.count ≡ 0 → s.kept.columns.rows ≡ [] → HasPiece s []
no_piece s count none = record {
  piece = none ∙ sym (first_none s.slice.skip s.slice.top);
  count = count;
}

-- ---- the end

pub slice_gives : (s : SliceSink) (given : RowsOf)
    → given ≡ record { names = kept_names s.kept; rows = s.kept.columns.rows; count = cond s.slice.counts (Some s.count) None } → SinkGives (sink.Slice s) given
slice_gives s given is = record { gives = λ rows has. rw (is, has.piece, has.count) refl }
