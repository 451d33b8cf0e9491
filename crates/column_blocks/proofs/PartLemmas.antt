-- The cells of a column of rows, read one row after another.
use Rattle.std.proofs.Common.{◌≡◌, ◌⊎◌, inl, inr, ◌==◌, Bool, true, false, ℕ, zero, suc, ◌+◌, List, [], ◌∷◌, ◌++◌, append_assoc, length, take, Some, Ok, Err, IfSome, refl, ap, sym, subst, ◌∙◌, arith}
use Rattle.std.proofs.lemmas.Bool.{eqb-true, ne_eqb}
use Rattle.std.proofs.lemmas.List.{length-map}
use Rattle.std.specs.List.{slice_get}
use Rattle.cell_types.specs.declared.fault.CellFault.{CellFault}
use Rattle.cell_types.specs.declared.fault.CellFault.TheVariants.{NoMemory}
use Rattle.cell_types.specs.Cell.{value_of}
use Rattle.cell_types.specs.Column.{ColumnOf}
use Rattle.cell_types.specs.Datatype as datatype
use Rattle.cell_types.specs.Datatype.{DatatypeOf}
use Rattle.cell_types.specs.Value.{CellValue, null}
use Rattle.cell_types.specs.WhiteSpace.{normal_text, words}
use Rattle.csv_fields.specs.Rows.{cell_at}
use Rattle.csv_grammar.specs.Raw.{RawField, raw_content}
use Rattle.csv_fields.specs.Values.{value_in, value_or_null, HasValue}
use Rattle.column_blocks.specs.Parts.{field_cell, part_cells, EmptyIsNull, HasCellFault, PartHasValues}
use Rattle.text_columns.specs.Buffer.{content_cell}

-- a field that is read as a value has it
pub has_value : (column : ColumnOf) (raw : RawField) (value : CellValue) → value_in (column, raw) ≡ Ok value
    → HasValue column raw × (value_or_null (value_in (column, raw)) ≡ value)
has_value column raw value e =
    let same : value_or_null (value_in (column, raw)) ≡ value = ap value_or_null e in
    (e ∙ ap (λ v. Ok v) (sym same), same)

pub length-part_cells : (column : ColumnOf) (col : ℕ) (rows : List (List RawField)) → length (part_cells column col rows) ≡ length rows
length-part_cells column col rows = length-map rows (λ fields. field_cell column (slice_get fields col))

-- why the field of a row has no value
pub told : (column : ColumnOf) (col row : ℕ) (rows : List (List RawField)) (raw : RawField) (fault : CellFault) → cell_at rows row col ≡ Some raw
    → (fault ≡ NoMemory) ⊎ (value_in (column, raw) ≡ Err fault) → (fault ≡ NoMemory) ⊎ HasCellFault column col rows fault
told column col row rows raw fault at (inl memory) = inl memory
told column col row rows raw fault at (inr why) = inr (record { row = row; field = raw; at = at; why = why })

-- the cell of the next row
pub cells_more : (column : ColumnOf) (col row : ℕ) (rows : List (List RawField)) (raw : RawField) → cell_at rows row col ≡ Some raw
    → part_cells column col (take (row + 1) rows) ≡ part_cells column col (take row rows) ++ value_or_null (value_in (column, raw)) ∷ []
cells_more column col row [] raw e = absurd (cc)
cells_more column col zero (fields ∷ rows) raw e = ap (λ field. field_cell column field ∷ []) e
cells_more column col (suc row) (fields ∷ rows) raw e =
    let more : suc row + 1 ≡ suc (row + 1) = omega arith in
    rw more (ap (λ cells. field_cell column (slice_get fields col) ∷ cells) (cells_more column col row rows raw e))

-- it has a value, as those before it
pub values_more : (column : ColumnOf) (col row : ℕ) (rows : List (List RawField)) (raw : RawField) → cell_at rows row col ≡ Some raw
    → HasValue column raw → PartHasValues column col (take row rows) → PartHasValues column col (take (row + 1) rows)
values_more column col row [] raw e has before = absurd (cc)
values_more column col zero (fields ∷ rows) raw e has before = (subst (λ field. IfSome field (HasValue column)) (sym e) has, tt)
values_more column col (suc row) (fields ∷ rows) raw e has before =
    let more : suc row + 1 ≡ suc (row + 1) = omega arith in
    rw more (before.0, values_more column col row rows raw e has before.1)

-- one cell more at the end
pub one_more : (cells read more : List CellValue) (cell : CellValue) → more ≡ read ++ cell ∷ [] → (cells ++ read) ++ cell ∷ [] ≡ cells ++ more
one_more cells read more cell e = append_assoc cells read (cell ∷ []) ∙ ap (λ rest. cells ++ rest) (sym e)

-- where the empty text alone is null, each text has a value
text_value : (column : ColumnOf) (bytes : List ℕ) → column.datatype ≡ datatype.text → EmptyIsNull column → value_of column bytes ≡ Ok (content_cell true bytes)
text_value column [] kind plain = rw (kind, plain.default, plain.nulls, plain.required) refl
text_value column (byte ∷ bytes) kind plain =
    let some : suc (length bytes) == 0 ≡ false = ne_eqb (suc (length bytes)) 0 (λ e. absurd (omega (arith, e))) in
    rw (kind, plain.nulls, some) refl

pub plain_value : (column : ColumnOf) (raw : RawField) → column.datatype ≡ datatype.text → EmptyIsNull column → value_in (column, raw) ≡ Ok (content_cell true (raw_content raw))
plain_value column raw kind plain = text_value column (raw_content raw) kind plain

-- and so it has in a column of numbers
empty-null : (column : ColumnOf) → EmptyIsNull column → value_of column [] ≡ Ok null
unfolding normal_text words
empty-null column plain = by column.datatype refl
  where
    by : (d : DatatypeOf) → column.datatype ≡ d → value_of column [] ≡ Ok null
    by datatype.integer kind = rw (kind, plain.default, plain.nulls, plain.required) refl
    by datatype.text kind = rw (kind, plain.default, plain.nulls, plain.required) refl
    by (datatype.boolean ts fs) kind = rw (kind, plain.default, plain.nulls, plain.required) refl
    by (datatype.date form) kind = rw (kind, plain.default, plain.nulls, plain.required) refl
    by datatype.decimal kind = rw (kind, plain.default, plain.nulls, plain.required) refl

raw-empty : (raw : RawField) → raw.bytes ≡ [] → raw_content raw ≡ []
raw-empty raw e = by raw.quoted refl
  where
    by : (q : Bool) → raw.quoted ≡ q → raw_content raw ≡ []
    by true is = rw (is, e) refl
    by false is = rw (is, e) refl

pub no_bytes : (bytes : List ℕ) → length bytes == 0 ≡ true → bytes ≡ []
no_bytes [] none = refl
no_bytes (byte ∷ bytes) none = absurd (omega (arith, eqb-true (suc (length bytes)) 0 none))

pub empty_value : (column : ColumnOf) (raw : RawField) → EmptyIsNull column → raw.bytes ≡ [] → value_in (column, raw) ≡ Ok null
empty_value column raw plain e = ap (value_of column) (raw-empty raw e) ∙ empty-null column plain
