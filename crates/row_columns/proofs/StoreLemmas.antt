-- Where rows stand.
use Rattle.std.proofs.Common.{◌≡◌, ◌==◌, false, ℕ, zero, suc, ◌+◌, ◌*◌, ◌/◌, ◌%◌, ◌<◌, List, [], ◌∷◌, ◌++◌, Vec, Global, length, map, take, get_or, refl, sym, ap, ◌∙◌, arith}
use Rattle.std.specs.Prelude.{replicate}
use Rattle.std.specs.List.{AllByRecursion}
use Rattle.std.proofs.lemmas.Bool.{false≢true}
use Rattle.std.proofs.lemmas.List.{get_or-map, get_or_read, length-map, length-replicate, map_more, map_push}
use Rattle.std.proofs.lemmas.List.Elements.{All-from_recursion}
use Rattle.cell_types.specs.Kind.{kind_of}
use Rattle.block_summary.specs.declared.block.TheConstants.{BLOCK_ROWS}
use Rattle.cell_types.specs.declared.kind.ColumnKind.{ColumnKind}
use Rattle.cell_types.specs.Column.{column_view}
use Rattle.cell_types.specs.Datatype.{datatype_view}
use Rattle.cell_types.specs.Value.{CellValue, null}
use Rattle.cell_types.specs.declared.column.Column.{Column}
use Rattle.column_blocks.specs.ColumnCells.{ColumnCells}
use Rattle.row_columns.specs.declared.store.Store.{Store}
use Rattle.row_columns.specs.declared.store.Store.TheVariants.{Blocks, Values}
use Rattle.row_columns.specs.Kinds.{any, kinds_of, of_kind, KindOf}
use Rattle.row_columns.specs.Picked.{kinds_at, values_at}
use Rattle.row_columns.specs.Piece.{piece_at, piece_row}
use Rattle.row_columns.specs.Store.{end_of, numbered_row, stored_kinds, stored_row, IsPicked, IsStoredWide}
use Rattle.value_rows.specs.ValueRows.{ValueRowsOf}
use Rattle.row_columns.proofs.PieceLemmas.{picked_row}

-- ---- the kinds of columns

-- one of those with places more
pub kind_at_more : (columns : List Column) (places : List ℕ) (i : ℕ) (column : Column) (made : List ColumnKind) (kind : ColumnKind) → i < length places
    → get_or places i 0 < length columns → column ≡ get_or columns (get_or places i 0) column → kind ≡ kind_of (datatype_view column.datatype)
    → map of_kind made ≡ kinds_at (take i places) (kinds_of (map column_view columns))
    → map of_kind (made ++ kind ∷ []) ≡ kinds_at (take (i + 1) places) (kinds_of (map column_view columns))
kind_at_more columns places i column made kind h within at is so_far =
    let kinds = kinds_of (map column_view columns) in
    let place = get_or places i 0 in
    let own : Column → KindOf = λ (c : Column). of_kind (kind_of (datatype_view c.datatype)) in
    let here : of_kind kind ≡ get_or kinds place any =
    ap of_kind is ∙ ap own at ∙ sym (get_or-map own columns place column any within) ∙ ap (λ ks. get_or ks place any) (both columns) in
    rw (map_push of_kind made kind, so_far, here, map_more (λ place. get_or kinds place any) places i 0 h) refl
  where
    both : (cs : List Column) → map (λ (c : Column). of_kind (kind_of (datatype_view c.datatype))) cs ≡ kinds_of (map column_view cs)
    both [] = refl
    both (c ∷ cs) = rw (both cs) refl

-- ---- a row

pub row_of_piece : (pieces : List (List ColumnCells)) (number : ℕ) (piece : List ColumnCells) → number / BLOCK_ROWS < length pieces → piece ≡ get_or pieces (number / BLOCK_ROWS) piece
    → piece_row piece (number % BLOCK_ROWS) ≡ numbered_row pieces number
row_of_piece pieces number piece h at =
    ap (λ (p : List ColumnCells). piece_row p (number % BLOCK_ROWS)) (get_or_read pieces (number / BLOCK_ROWS) piece h at [])

pub piece_wide : (pieces : List (List ColumnCells)) (width number : ℕ) (piece : List ColumnCells) → AllByRecursion (λ (p : List ColumnCells). length p ≡ width) pieces
    → number < length pieces → piece ≡ get_or pieces number piece → length piece ≡ width
piece_wide pieces width number piece wide h at =
    ap (λ (p : List ColumnCells). length p) at ∙ All-from_recursion (λ (p : List ColumnCells). length p ≡ width) pieces wide number piece h

-- a value of a row
module _ (store : Store) (number col : ℕ) (less : number < end_of store) where
  pub value_of_piece : (kinds : Vec ColumnKind Global) (pieces : Vec (List ColumnCells) Global) → store ≡ Blocks kinds pieces → (piece : List ColumnCells)
      → piece ≡ get_or pieces.items (number / BLOCK_ROWS) piece → get_or (piece_row piece (number % BLOCK_ROWS)) col null ≡ get_or (stored_row store number) col null
  value_of_piece kinds pieces is piece at =
      let here : number < end_of (Blocks kinds pieces) = rw is at less in rw (is, row_of_piece pieces.items number piece (omega (arith, here)) at) refl

pub kinds_long : (store : Store) (rows : ValueRowsOf) → store ≡ Values rows → length (stored_kinds store) ≡ rows.width
kinds_long store rows is = ap (λ (s : Store). length (stored_kinds s)) is ∙ length-replicate rows.width any

pub some_there : (n : ℕ) → (n == 0) ≡ false → 0 < n
some_there zero e = absurd (false≢true (sym e))
some_there (suc n) e = omega arith

-- each row is as wide as there are columns
pub stored_wide : (store : Store) (number : ℕ) → IsStoredWide store → number < end_of store → length (stored_row store number) ≡ length (stored_kinds store)
stored_wide (Blocks kinds pieces) number wide h =
    let inside : number / BLOCK_ROWS < length pieces.items = omega (arith, h) in
    let piece = get_or pieces.items (number / BLOCK_ROWS) [] in
    length-map piece (λ (c : ColumnCells). get_or c.cells (number % BLOCK_ROWS) null)
    ∙ All-from_recursion (λ (p : List ColumnCells). length p ≡ length kinds.items) pieces.items wide (number / BLOCK_ROWS) [] inside
    ∙ sym (length-map kinds.items of_kind)
stored_wide (Values rows) number wide h = All-from_recursion (λ (r : List CellValue). length r ≡ rows.width) rows.rows wide number [] h ∙ sym (length-replicate rows.width any)

-- ---- some columns

any_at : (width place : ℕ) → get_or (replicate width any) place any ≡ any
any_at zero place = refl
any_at (suc width) zero = refl
any_at (suc width) (suc place) = any_at width place

any_kinds : (width : ℕ) (places : List ℕ) → replicate (length places) any ≡ kinds_at places (replicate width any)
any_kinds width [] = refl
any_kinds width (place ∷ places) = rw (any_at width place, any_kinds width places) refl

pieces_wide : (width : ℕ) (places : List ℕ) (pieces : List (List ColumnCells)) → length places ≡ width → AllByRecursion (λ (p : List ColumnCells). length p ≡ width) (map (piece_at places) pieces)
pieces_wide width places [] e = tt
pieces_wide width places (piece ∷ pieces) e = (length-map places _ ∙ e, pieces_wide width places pieces e)

pub rows_wide : (places : List ℕ) (rows : List (List CellValue)) → AllByRecursion (λ (r : List CellValue). length r ≡ length places) (map (values_at places) rows)
rows_wide places [] = tt
rows_wide places (row ∷ rows) = (length-map places _, rows_wide places rows)

pub blocks_picked : (places : List ℕ) (kinds made : Vec ColumnKind Global) (pieces new : Vec (List ColumnCells) Global)
    → map of_kind made.items ≡ kinds_at places (map of_kind kinds.items) → new.items ≡ map (piece_at places) pieces.items
    → IsPicked places (Blocks kinds pieces) (Blocks made new)
blocks_picked places kinds made pieces new kinds_are is = record {
  kinds = kinds_are;
  end = ap (λ (ps : List (List ColumnCells)). length ps * BLOCK_ROWS) is ∙ ap (λ n. n * BLOCK_ROWS) (length-map pieces.items (piece_at places));
  wide = rw is (pieces_wide (length made.items) places pieces.items (sym (length-map places _) ∙ sym (ap length kinds_are) ∙ length-map made.items of_kind));
  rows = λ number h. row number (omega (arith, h));
}
  where
    row : (number : ℕ) → number / BLOCK_ROWS < length pieces.items → numbered_row new.items number ≡ values_at places (numbered_row pieces.items number)
    row number h =
        rw (is, get_or-map (piece_at places) pieces.items (number / BLOCK_ROWS) [] [] h) (picked_row places (get_or pieces.items (number / BLOCK_ROWS) []) (number % BLOCK_ROWS))

pub values_picked : (places : List ℕ) (rows new : ValueRowsOf) → new.width ≡ length places → new.rows ≡ map (values_at places) rows.rows → IsPicked places (Values rows) (Values new)
values_picked places rows new width is = record {
  kinds = ap (λ n. replicate n any) width ∙ any_kinds rows.width places;
  end = ap length is ∙ length-map rows.rows (values_at places);
  wide = rw (is, width) (rows_wide places rows.rows);
  rows = λ number h. rw is (get_or-map (values_at places) rows.rows number [] [] h);
}
