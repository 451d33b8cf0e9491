-- The cells of some columns of a block.
use Rattle.std.proofs.Common.{◌≡◌, ℕ, zero, suc, ◌+◌, ◌<◌, List, [], ◌∷◌, ◌++◌, Option, None, Some, length, take, get_or, option_map, slice_get, refl, sym, ap, subst, arith}
use Rattle.std.specs.List.{All, AllByRecursion, AllZip}
use Rattle.std.proofs.lemmas.List.{get_or-map, get_or_read, take_more}
use Rattle.std.proofs.lemmas.Option.{same_Some}
use Rattle.std.proofs.lemmas.Slice.Zip.{all_zipped_more}
use Rattle.std.proofs.Math.ListN.{get_or-map as get_or-map_default}
use Rattle.block_summary.specs.Ranges.{column_of}
use Rattle.cell_types.specs.declared.kind.ColumnKind.TheVariants.{Text, Number}
use Rattle.cell_types.specs.Kind.{kind_of}
use Rattle.cell_types.specs.declared.kind.ColumnKind.{ColumnKind}
use Rattle.cell_types.specs.declared.kind.NumberKind.{NumberKind}
use Rattle.cell_types.specs.Column.{ColumnOf}
use Rattle.cell_types.specs.Datatype as datatype
use Rattle.cell_types.specs.Datatype.{DatatypeOf}
use Rattle.cell_types.specs.Laws.{IsOfColumn, IsOfDatatype}
use Rattle.cell_types.specs.Value.{CellValue, null, text}
use Rattle.table_store.specs.Block.{typed_cells_of}
use Rattle.table_store.specs.Fits.{HasTableRows, IsTableRow}
use Rattle.table_store.specs.Table.{TableOf}
use Rattle.column_blocks.specs.ColumnCells.{ColumnCells}
use Rattle.column_blocks.specs.TypedColumn.{cells_of_texts, typed_cells}
use Rattle.row_columns.specs.Picked.{values_at}
use Rattle.row_columns.specs.Piece.{no_cells, piece_at, piece_row, HasTextsAlone, HaveTextsAlone}
use Rattle.row_columns.specs.Text.{IsNoText}

-- ---- columns of a block that are shared

abbrev pub IsShared : TableOf → ℕ → ColumnCells → Type 0
IsShared block place column = Some column ≡ typed_cells_of block place

abbrev pub AreShared : TableOf → List ℕ → List ColumnCells → Type 0
AreShared block places columns = AllZip (IsShared block) places columns

pub shared_more : (block : TableOf) (places : List ℕ) (i : ℕ) (columns next : List ColumnCells) (column : ColumnCells) → i < length places
    → IsShared block (get_or places i 0) column → next ≡ columns ++ column ∷ [] → AreShared block (take i places) columns → AreShared block (take (i + 1) places) next
shared_more block places i columns next column h is e so_far =
    rw (e, take_more places i 0 h) (all_zipped_more (IsShared block) (take i places) columns (get_or places i 0) column so_far is)

-- each has the cells of its column
typed_of : (o : Option ColumnOf) (cells : List CellValue) (column : ColumnCells) → Some column ≡ option_map (λ (c : ColumnOf). typed_cells c cells) o → column.cells ≡ cells
typed_of None cells column e = absurd (cc)
typed_of (Some c) cells column e = ap (λ (k : ColumnCells). k.cells) (same_Some column (typed_cells c cells) e)

pub shared_cells : (block : TableOf) (place : ℕ) (column : ColumnCells) → IsShared block place column → column.cells ≡ column_of block.rows place
shared_cells block place column is = typed_of (slice_get block.schema.columns place) (column_of block.rows place) column is

-- so a row of them has the values of the row of the block
pub shared_row : (block : TableOf) (places : List ℕ) (columns : List ColumnCells) (row : ℕ) → AreShared block places columns
    → piece_row columns row ≡ values_at places (get_or block.rows row [])
shared_row block [] [] row are = refl
shared_row block (p ∷ places) (c ∷ columns) row are =
    rw (shared_cells block p c are.0, get_or-map_default (λ (vs : List CellValue). get_or vs p null) block.rows row [], shared_row block places columns row are.1) refl
shared_row block places columns row are = absurd are

-- ---- no numbers are texts

no_text_of : (d : DatatypeOf) (kind : NumberKind) (t : List ℕ) → Number kind ≡ kind_of d → IsOfDatatype d (text t) → ⊥
no_text_of datatype.text kind t e h = cc
no_text_of d kind t e h = h

no_text : (c : ColumnOf) (kind : NumberKind) (v : CellValue) → Number kind ≡ kind_of c.datatype → IsOfColumn c v → IsNoText v
no_text c kind (text t) e h = absurd (no_text_of c.datatype kind t e h)
no_text c kind v e h = tt

value_there : (columns : List ColumnOf) (place : ℕ) (c : ColumnOf) (row : List CellValue) → slice_get columns place ≡ Some c → IsTableRow columns row → IsOfColumn c (get_or row place null)
value_there [] place c row at h = absurd (cc)
value_there (d ∷ columns) place c [] at h = absurd h
value_there (d ∷ columns) zero c (v ∷ row) at h = subst (λ e. IsOfColumn e v) (same_Some d c at) h.0
value_there (d ∷ columns) (suc place) c (v ∷ row) at h = value_there columns place c row at h.2

cells_alone : (columns : List ColumnOf) (place : ℕ) (c : ColumnOf) (rows : List (List CellValue)) → slice_get columns place ≡ Some c → All (IsTableRow columns) rows
    → ((v : CellValue) → IsOfColumn c v → IsNoText v) → AllByRecursion IsNoText (column_of rows place)
cells_alone columns place c [] at all alone = tt
cells_alone columns place c (row ∷ rows) at all alone = (
  alone (get_or row place null) (value_there columns place c row at (all 0 [] (omega arith))),
  cells_alone columns place c rows at (λ k d h. all (suc k) d (omega (arith, h))) alone,
)

texts_by : (kind : ColumnKind) (cells : List CellValue) → ((t : NumberKind) → kind ≡ Number t → AllByRecursion IsNoText cells) → HasTextsAlone kind cells
texts_by Text cells alone = tt
texts_by (Number t) cells alone = alone t refl

column_alone : (o : Option ColumnOf) (columns : List ColumnOf) (place : ℕ) (rows : List (List CellValue)) (column : ColumnCells) → slice_get columns place ≡ o → All (IsTableRow columns) rows
    → Some column ≡ option_map (λ (c : ColumnOf). typed_cells c (column_of rows place)) o → HasTextsAlone column.kind column.cells
column_alone None columns place rows column at all e = absurd (cc)
column_alone (Some c) columns place rows column at all e =
    rw (same_Some column (typed_cells c (column_of rows place)) e) (texts_by (kind_of c.datatype) (column_of rows place) (λ t is. cells_alone columns place c rows at all (λ v. no_text c t v (sym is))))

pub shared_alone : (block : TableOf) (places : List ℕ) (columns : List ColumnCells) → HasTableRows block → AreShared block places columns → HaveTextsAlone columns
shared_alone block [] [] fit are = tt
shared_alone block (p ∷ places) (c ∷ columns) fit are =
    (column_alone (slice_get block.schema.columns p) block.schema.columns p block.rows c refl fit.each are.0, shared_alone block places columns fit are.1)
shared_alone block places columns fit are = absurd are

-- ---- the texts of a column

pub text_cells : (kind : ColumnKind) (cells texts : List CellValue) → cells_of_texts kind cells ≡ Some texts → texts ≡ cells
text_cells Text cells texts e = sym (same_Some cells texts e)
text_cells (Number t) cells texts e = absurd (cc)

-- ---- a column of a piece

pub cell_of_piece : (piece : List ColumnCells) (col row : ℕ) (column : ColumnCells) → col < length piece → column ≡ get_or piece col column
    → get_or column.cells row null ≡ get_or (piece_row piece row) col null
cell_of_piece piece col row column h is =
    rw (get_or-map (λ (c : ColumnCells). get_or c.cells row null) piece col no_cells null h, ← (get_or_read piece col column h is no_cells)) refl

-- some columns of others have texts alone where these have
pub picked_alone : (places : List ℕ) (piece : List ColumnCells) → HaveTextsAlone piece → HaveTextsAlone (piece_at places piece)
picked_alone [] piece all = tt
picked_alone (p ∷ places) piece all = (alone_or_none piece p all, picked_alone places piece all)
  where
    alone_or_none : (cs : List ColumnCells) (q : ℕ) → HaveTextsAlone cs → HasTextsAlone (get_or cs q no_cells).kind (get_or cs q no_cells).cells
    alone_or_none [] q h = tt
    alone_or_none (c ∷ cs) zero h = h.0
    alone_or_none (c ∷ cs) (suc q) h = alone_or_none cs q h.1

-- and a row of them has those values of the row
pub picked_row : (places : List ℕ) (piece : List ColumnCells) (row : ℕ) → piece_row (piece_at places piece) row ≡ values_at places (piece_row piece row)
picked_row [] piece row = refl
picked_row (p ∷ places) piece row =
    rw (get_or-map_default (λ (c : ColumnCells). get_or c.cells row null) piece p no_cells, picked_row places piece row) refl
