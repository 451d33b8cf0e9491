-- Rows by number.
use Rattle.std.proofs.Common.{◌≡◌, ℕ, suc, ◌+◌, ◌*◌, ◌/◌, ◌%◌, ◌<◌, ◌≤◌, List, [], ◌∷◌, ◌++◌, Vec, Global, length, map, get_or, refl, ap, ◌∙◌, arith, append_assoc}
use Rattle.std.specs.Prelude.{replicate}
use Rattle.std.specs.List.{All, AllByRecursion}
use Rattle.std.proofs.Math.Seq.{get_or-append_seam}
use Rattle.std.proofs.lemmas.List.{get_or-map, get_or_append_left, get_or_push, length-append, length_push, map-append}
use Rattle.std.proofs.lemmas.List.Elements.{All-from_recursion}
use Rattle.block_summary.specs.declared.block.TheConstants.{BLOCK_ROWS}
use Rattle.cell_types.specs.declared.kind.ColumnKind.{ColumnKind}
use Rattle.cell_types.proofs.ListLaws.{AllByRecursion-weaker}
use Rattle.cell_types.specs.Column.{ColumnOf}
use Rattle.cell_types.specs.Value.{CellValue, null}
use Rattle.table_store.specs.Fits.{IsTableRow}
use Rattle.column_blocks.specs.ColumnCells.{ColumnCells}
use Rattle.row_columns.specs.declared.store.Store.{Store}
use Rattle.row_columns.specs.Numbers.{numbers_from}
use Rattle.row_columns.specs.Picked.{numbered, values_at}
use Rattle.row_columns.specs.Piece.{piece_row}
use Rattle.row_columns.specs.declared.store.Store.TheVariants.{Blocks, Values}
use Rattle.row_columns.specs.Store.{end_of, numbered_row, stored_kinds, stored_row, IsPicked, IsStoredWide, HasTakenRows}
use Rattle.row_columns.specs.Kinds.{any}
use Rattle.value_rows.specs.ValueRows.{ValueRowsOf}
use Rattle.row_columns.proofs.NumberLemmas.{all_from}
use Rattle.row_columns.proofs.StoreLemmas.{stored_wide}

module _ {X : Type 0} where
  -- the same on each number below an end
  pub map_below : (f g : ℕ → X) (end : ℕ) (numbers : List ℕ) → ((n : ℕ) → n < end → f n ≡ g n) → AllByRecursion (λ n. n < end) numbers → map f numbers ≡ map g numbers
  map_below f g end [] same all = refl
  map_below f g end (n ∷ numbers) same all = rw (same n all.0, map_below f g end numbers same all.1) refl

  -- those that come after others have the numbers from their length on
  pub map_from : (xs ys : List X) (d : X) → map (λ n. get_or (xs ++ ys) n d) (numbers_from (length xs) (length ys)) ≡ ys
  map_from xs [] d = refl
  map_from xs (y ∷ ys) d =
      let size : length (xs ++ y ∷ []) ≡ suc (length xs) = omega (arith, length_push xs y) in
      rw (get_or-append_seam xs y ys d) (ap (λ zs. y ∷ zs) (rw (size, append_assoc xs (y ∷ []) ys) at (map_from (xs ++ y ∷ []) ys d)))

  all_append : (P : X → Type 0) (a b : List X) → AllByRecursion P a → AllByRecursion P b → AllByRecursion P (a ++ b)
  all_append P [] b pa pb = pb
  all_append P (x ∷ a) b pa pb = (pa.0, all_append P a b pa.1 pb)

pub all_below : (end more : ℕ) (numbers : List ℕ) → end ≤ more → AllByRecursion (λ n. n < end) numbers → AllByRecursion (λ n. n < more) numbers
all_below end more numbers h = AllByRecursion-weaker (λ n. n < end) (λ n. n < more) (λ n less. omega (arith, h, less)) numbers

-- ---- numbers of numbers

pub all_renumbered : (end : ℕ) (numbers places : List ℕ) → AllByRecursion (λ n. n < end) numbers → All (λ place. place < length numbers) places
    → AllByRecursion (λ n. n < end) (map (λ place. get_or numbers place 0) places)
all_renumbered end numbers [] all within = tt
all_renumbered end numbers (place ∷ places) all within = (
  All-from_recursion (λ n. n < end) numbers all place 0 (within 0 0 (omega arith)),
  all_renumbered end numbers places all (λ k d h. within (suc k) d (omega (arith, h))),
)

pub rows_renumbered : (row : ℕ → List CellValue) (numbers places : List ℕ) → All (λ place. place < length numbers) places
    → map row (map (λ place. get_or numbers place 0) places) ≡ numbered places (map row numbers)
rows_renumbered row numbers [] within = refl
rows_renumbered row numbers (place ∷ places) within =
    rw (get_or-map row numbers place 0 [] (within 0 0 (omega arith)), rows_renumbered row numbers places (λ k d h. within (suc k) d (omega arith))) refl

-- some columns of them
pub rows_picked : (places : List ℕ) (old new : Store) (numbers : List ℕ) → IsPicked places old new → AllByRecursion (λ n. n < end_of old) numbers
    → map (stored_row new) numbers ≡ map (values_at places) (map (stored_row old) numbers)
rows_picked places old new [] picked all = refl
rows_picked places old new (n ∷ numbers) picked all =
    rw (picked.rows n all.0, rows_picked places old new numbers picked all.1) refl

-- ---- one row

pub row_wide : (store : Store) (numbers : List ℕ) → IsStoredWide store → AllByRecursion (λ n. n < end_of store) numbers
    → AllByRecursion (λ (row : List CellValue). length row ≡ length (stored_kinds store)) (map (stored_row store) numbers)
row_wide store [] wide all = tt
row_wide store (n ∷ numbers) wide all = (stored_wide store n wide all.0, row_wide store numbers wide all.1)

-- ---- rows of one piece more

pub old_row : (pieces : List (List ColumnCells)) (piece : List ColumnCells) (number : ℕ) → number / BLOCK_ROWS < length pieces
    → numbered_row (pieces ++ piece ∷ []) number ≡ numbered_row pieces number
old_row pieces piece number h =
    ap (λ (p : List ColumnCells). piece_row p (number % BLOCK_ROWS)) (get_or_append_left pieces (piece ∷ []) [] (number / BLOCK_ROWS) h)

pub new_row : (pieces : List (List ColumnCells)) (piece : List ColumnCells) (row : ℕ) → row < BLOCK_ROWS
    → numbered_row (pieces ++ piece ∷ []) (length pieces * BLOCK_ROWS + row) ≡ piece_row piece row
new_row pieces piece row h =
    let number = length pieces * BLOCK_ROWS + row in
    let block : number / BLOCK_ROWS ≡ length pieces = omega (arith, h) in
    let own : number % BLOCK_ROWS ≡ row = omega (arith, h) in
    rw (block, own, get_or_push pieces piece [] (length pieces) refl) refl

pub new_rows : (pieces : List (List ColumnCells)) (piece : List ColumnCells) (rows : List (List CellValue)) (places numbers : List ℕ) → length rows ≤ BLOCK_ROWS
    → ((row : ℕ) → row < length rows → piece_row piece row ≡ values_at places (get_or rows row [])) → All (λ n. n < length rows) numbers
    → map (numbered_row (pieces ++ piece ∷ [])) (map (λ n. length pieces * BLOCK_ROWS + n) numbers) ≡ map (values_at places) (numbered numbers rows)
new_rows pieces piece rows places [] most is within = refl
new_rows pieces piece rows places (n ∷ numbers) most is within =
    let here : n < length rows = within 0 n (omega arith) in
    rw (new_row pieces piece n (omega (arith, here, most)) ∙ is n here, new_rows pieces piece rows places numbers most is (λ k d h. within (suc k) d (omega arith))) refl

pub new_within : (count : ℕ) (rows : List (List CellValue)) (numbers : List ℕ) → length rows ≤ BLOCK_ROWS → All (λ n. n < length rows) numbers
    → AllByRecursion (λ n. n < (count + 1) * BLOCK_ROWS) (map (λ n. count * BLOCK_ROWS + n) numbers)
new_within count rows [] most within = tt
new_within count rows (n ∷ numbers) most within =
    let here : n < length rows = within 0 n (omega arith) in
    (omega (arith, here, most), new_within count rows numbers most (λ k d h. within (suc k) d (omega (arith, h))))

-- ---- all places of a row

pub all_places : (before row : List CellValue) → map (λ place. get_or (before ++ row) place null) (numbers_from (length before) (length row)) ≡ row
all_places before row = map_from before row null

pub table_rows_picked : (rows : List (List CellValue)) (width : ℕ) → AllByRecursion (λ (row : List CellValue). length row ≡ width) rows → map (values_at (numbers_from 0 width)) rows ≡ rows
table_rows_picked [] width wide = refl
table_rows_picked (row ∷ rows) width wide =
    rw (rw wide.0 at (all_places [] row), table_rows_picked rows width wide.1) refl

-- ---- the rows of a table

table_row_long : (columns : List ColumnOf) (row : List CellValue) → IsTableRow columns row → length row ≡ length columns
table_row_long [] [] h = refl
table_row_long (c ∷ columns) (v ∷ row) h = omega (arith, table_row_long columns row h.2)
table_row_long columns row h = absurd h

pub numbered_wide : (columns : List ColumnOf) (rows : List (List CellValue)) (numbers : List ℕ) → All (IsTableRow columns) rows → All (λ n. n < length rows) numbers
    → AllByRecursion (λ (row : List CellValue). length row ≡ length columns) (numbered numbers rows)
numbered_wide columns rows [] all within = tt
numbered_wide columns rows (n ∷ numbers) all within = (
  table_row_long columns (get_or rows n []) (all n [] (within 0 0 (omega arith))),
  numbered_wide columns rows numbers all (λ k d h. within (suc k) d (omega (arith, h))),
)

-- ---- rows are taken

pub blocks_taken : (places numbers made : List ℕ) (kinds : Vec ColumnKind Global) (pieces new : Vec (List ColumnCells) Global) (piece : List ColumnCells) (rows : List (List CellValue))
    → new.items ≡ pieces.items ++ piece ∷ [] → length piece ≡ length kinds.items → IsStoredWide (Blocks kinds pieces) → length rows ≤ BLOCK_ROWS
    → ((row : ℕ) → row < length rows → piece_row piece row ≡ values_at places (get_or rows row [])) → All (λ n. n < length rows) numbers
    → made ≡ map (λ n. length pieces.items * BLOCK_ROWS + n) numbers
    → HasTakenRows (Blocks kinds pieces) (Blocks kinds new) (map (values_at places) (numbered numbers rows)) made
blocks_taken places numbers made kinds pieces new piece rows e long wide most is within made_is =
    let size : length new.items ≡ length pieces.items + 1 = ap (λ (ps : List (List ColumnCells)). length ps) e ∙ length_push pieces.items piece in
    record {
      kinds = refl;
      wide = rw e (all_append (λ (p : List ColumnCells). length p ≡ length kinds.items) pieces.items (piece ∷ []) wide (long, tt));
      end = omega (arith, size);
      stay = λ n h. rw e (old_row pieces.items piece n (omega (arith, h)));
      within = rw (made_is, size) (new_within (length pieces.items) rows numbers most within);
      come = ap (map (numbered_row new.items)) made_is ∙ rw e (new_rows pieces.items piece rows places numbers most is within);
    }

pub values_taken : (rows new : ValueRowsOf) (taken : List (List CellValue)) (made : List ℕ) → new.width ≡ rows.width → new.rows ≡ rows.rows ++ taken
    → AllByRecursion (λ (r : List CellValue). length r ≡ rows.width) taken → IsStoredWide (Values rows) → made ≡ numbers_from (length rows.rows) (length taken)
    → HasTakenRows (Values rows) (Values new) taken made
values_taken rows new taken made width e long wide made_is =
    let size : length new.rows ≡ length rows.rows + length taken = ap (λ (rs : List (List CellValue)). length rs) e ∙ length-append rows.rows taken in
    record {
      kinds = ap (λ n. replicate n any) width;
      wide = rw (width, e) (all_append (λ (r : List CellValue). length r ≡ rows.width) rows.rows taken wide long);
      end = omega (arith, size);
      stay = λ n h. rw e (get_or_append_left rows.rows taken [] n h);
      within = rw made_is (all_from (length rows.rows) (length taken) (length new.rows) (omega (arith, size)));
      come = rw (made_is, e) (map_from rows.rows taken []);
    }

-- the rows that stayed, and those that came
pub rows_with : (old new : Store) (numbers made : List ℕ) (rows : List (List CellValue)) → HasTakenRows old new rows made → AllByRecursion (λ n. n < end_of old) numbers
    → map (stored_row new) (numbers ++ made) ≡ map (stored_row old) numbers ++ rows
rows_with old new numbers made rows taken all =
    rw (map-append (stored_row new) numbers made, map_below (stored_row new) (stored_row old) (end_of old) numbers taken.stay all, taken.come) refl

pub within_with : (old new : Store) (numbers made : List ℕ) (rows : List (List CellValue)) → HasTakenRows old new rows made → AllByRecursion (λ n. n < end_of old) numbers
    → AllByRecursion (λ n. n < end_of new) (numbers ++ made)
within_with old new numbers made rows taken all =
    all_append (λ n. n < end_of new) numbers made (all_below (end_of old) (end_of new) numbers taken.end all) taken.within
