-- The columns of a block.
use Rattle.std.proofs.Common.{◌≡◌, inl, inr, ℕ, suc, ◌+◌, ◌<◌, Option, Some, None, List, [], ◌∷◌, ◌++◌, length, get_or, refl, sym, ap, ◌∙◌, arith}
use Rattle.std.proofs.lemmas.Bool.{cases_eq, cases_order}
use Rattle.std.proofs.lemmas.List.{get_or_past, get_or_push, get_or_append_left, get_or-map, length_push}
use Rattle.std.proofs.lemmas.Option.{get_or_from_slice_get, slice_get_within, slice_get-get_or}
use Rattle.block_eval.specs.declared.columns.BlockColumn.{BlockColumn}
use Rattle.block_summary.specs.Ranges.{column_of}
use Rattle.cell_types.specs.Column.{ColumnOf}
use Rattle.cell_types.specs.Value.{CellValue, null}
use Rattle.table_store.specs.Block.{packed_cells, text_cells}
use Rattle.table_store.specs.Fits.{HasTableRows, IsTableRow}
use Rattle.table_store.specs.Table.{TableOf}
use Rattle.block_filter.specs.Lanes.{AreColumnsOf, AreTextsOf, AreValuesOf, IsColumnOf}

-- ---- the columns of a block

-- the first columns
pub record AreFirstColumns (rows : List (List CellValue)) (columns : List BlockColumn) (i : ℕ) : Type 0 where
  pub long : length columns ≡ i
  pub each : (place : ℕ) (column : BlockColumn) → place < i → IsColumnOf rows place (get_or columns place column)

pub one_column_more : (rows : List (List CellValue)) (columns : List BlockColumn) (i : ℕ) (column : BlockColumn) → IsColumnOf rows i column → AreFirstColumns rows columns i
    → AreFirstColumns rows (columns ++ column ∷ []) (i + 1)
one_column_more rows columns i column is so_far = record {
  long = length_push columns column ∙ ap (λ k. k + 1) so_far.long;
  each = λ place d within. elim (cases_eq place i) [
    | inl same ↦ rw (same, get_or_push columns column d i so_far.long) is
    | inr other ↦ rw (get_or_append_left columns (column ∷ []) d place (omega (arith, so_far.long))) (so_far.each place d (omega arith))
  ];
}

pub columns_are : (rows : List (List CellValue)) (columns : List BlockColumn) (i : ℕ) → AreFirstColumns rows columns i → AreColumnsOf rows columns
columns_are rows columns i is row h = record {
  each = λ place column at.
      rw (← (get_or_from_slice_get columns place column column at)) (is.each place column (omega (arith, slice_get_within columns place column at, is.long)) row h);
}

-- ---- the texts of a block

pub row_wide : (columns : List ColumnOf) (row : List CellValue) → IsTableRow columns row → length row ≡ length columns
row_wide [] [] h = refl
row_wide (c ∷ columns) (v ∷ row) h = ap suc (row_wide columns row h.2)
row_wide columns row h = absurd h

pub values_stand : (block : TableOf) (col : ℕ) (values : List CellValue) → HasTableRows block → col < length block.schema.columns → values ≡ column_of block.rows col
    → AreValuesOf block.rows col (Some values)
values_stand block col values fit h are row within =
    let cells = get_or block.rows row [] in
    let cell : List CellValue → CellValue = λ vs. get_or vs col null in
    let wide = row_wide block.schema.columns cells (fit.each row [] within) in
    slice_get-get_or cells col null (omega (arith, h, wide))
    ∙ ap (λ v. Some v) (sym (ap (λ vs. get_or vs row null) are ∙ get_or-map cell block.rows row [] null within))

pub texts_stand : (block : TableOf) (col : ℕ) (texts : Option (List CellValue)) → HasTableRows block → col < length block.schema.columns → texts ≡ text_cells block col
    → AreValuesOf block.rows col texts
texts_stand block col None fit h are = tt
texts_stand block col (Some values) fit h are = values_stand block col values fit h (grind (arith, are))

pub packed_stand : (block : TableOf) (col : ℕ) (packed : Option (List CellValue)) → HasTableRows block → col < length block.schema.columns → packed ≡ packed_cells block col
    → AreValuesOf block.rows col packed
packed_stand block col None fit h are = tt
packed_stand block col (Some values) fit h are = values_stand block col values fit h (grind (arith, are))

-- the columns of texts so far
pub record AreTextsTo (rows : List (List CellValue)) (texts : List (Option (List CellValue))) (i : ℕ) : Type 0 where
  pub long : length texts ≡ i
  pub each : AreTextsOf rows texts

pub one_of_texts : (rows : List (List CellValue)) (texts : List (Option (List CellValue))) (i : ℕ) (new : Option (List CellValue)) → AreValuesOf rows i new → AreTextsTo rows texts i
    → AreTextsTo rows (texts ++ new ∷ []) (i + 1)
one_of_texts rows texts i new is so_far = record {
  long = length_push texts new ∙ ap (λ k. k + 1) so_far.long;
  each = λ place. elim (cases_order place i) [
    | inl same ↦ rw (same, get_or_push texts new None i so_far.long) is
    | inr (inl before) ↦ rw (get_or_append_left texts (new ∷ []) None place (omega (arith, so_far.long))) (so_far.each place)
    | inr (inr after) ↦ rw (get_or_past (texts ++ new ∷ []) place None (omega (arith, length_push texts new, so_far.long))) tt
  ];
}
