-- The keys of the rows so far, and of one row more.
use Rattle.std.proofs.Common.{◌≡◌, ◌≢◌, ℕ, ◌+◌, ◌<◌, ◌≤◌, Bool, true, false, not, cond, List, [], ◌∷◌, ◌++◌, length, take, map, get_or, Option, Some, None, IsTrue, ◌↔◌, refl, sym, ap, ◌∙◌, arith}
use Rattle.std.specs.Cmp.Lexicographic.{pointwise_decides}
use Rattle.std.specs.List.{list_any, range_with_len}
use Rattle.std.specs.Option.{is_some, option_or}
use Rattle.std.proofs.lemmas.Bool.{false_from_ne_true}
use Rattle.std.proofs.lemmas.List.{get_or-map, get_or-take, length-map, length-take, take_more}
use Rattle.std.proofs.lemmas.List.Folds.{list_any_at}
use Rattle.std.proofs.lemmas.List.FromFn.{get_or-map-range_with_len, length-map-range_with_len, length-range_with_len}
use Rattle.std.proofs.lemmas.Option.{slice_get-get_or}
use Rattle.column_blocks.specs.ColumnCells.{ColumnCells}
use Rattle.cell_types.specs.Value.{CellValue, null, value_eq}
use Rattle.key_index.specs.Key.{key_eq, has_null, null_row, repeated_row, row_key, row_of}
use Rattle.key_index.specs.Keys.{typed_keys, typed_row, IsRowWithKey}
use Rattle.key_index.proofs.AreKeysLemmas.{are_keys}
use Rattle.key_index.proofs.KeyLemmas.{list_any-nowhere, position-here, position-more, position-none, position-nowhere, repeated_row-more}

-- ---- the keys of columns
abbrev pub key_at : List ℕ → List ColumnCells → ℕ → List CellValue
key_at places columns = λ row. row_key places (typed_row row columns)

pub length-typed_keys : (places : List ℕ) (columns : List ColumnCells) (rows : ℕ) → 0 < length places → length (typed_keys places columns rows) ≡ rows
length-typed_keys [] columns rows some = absurd (omega arith)
length-typed_keys (place ∷ places) columns rows some = simp (length-map, length-range_with_len)

pub no_typed_keys : (places : List ℕ) (columns : List ColumnCells) (rows : ℕ) → length places ≡ 0 → length (typed_keys places columns rows) ≡ 0
no_typed_keys [] columns rows none = refl
no_typed_keys (place ∷ places) columns rows none = absurd (omega arith)

pub typed_keys-le : (places : List ℕ) (columns : List ColumnCells) (rows : ℕ) → length (typed_keys places columns rows) ≤ rows
typed_keys-le [] columns rows = omega arith
typed_keys-le (place ∷ places) columns rows = omega (arith, length-typed_keys (place ∷ places) columns rows (omega arith))

pub typed_key : (places : List ℕ) (columns : List ColumnCells) (rows row : ℕ) → row < length (typed_keys places columns rows)
    → get_or (typed_keys places columns rows) row [] ≡ key_at places columns row
typed_key [] columns rows row within = absurd (omega arith)
typed_key (place ∷ places) columns rows row within =
    let inside : row < rows = omega (arith, typed_keys-le (place ∷ places) columns rows) in
    let lines = map (λ r. typed_row r columns) (range_with_len 0 rows) in
    get_or-map (row_key (place ∷ places)) lines row [] [] (omega (arith, length-map-range_with_len (λ r. typed_row r columns) 0 rows))
    ∙ ap (row_key (place ∷ places)) (get_or-map-range_with_len (λ r. typed_row r columns) 0 rows row row [] inside (omega arith))

-- the value of a row in the key's column at a place
pub key_value : (columns : List ColumnCells) (places : List ℕ) (row i : ℕ) (column : ColumnCells) → i < length places → get_or places i 0 < length columns
    → column ≡ get_or columns (get_or places i 0) column → get_or (row_key places (typed_row row columns)) i null ≡ get_or column.cells row null
key_value columns places row i column inside within is =
    get_or-map (λ place. get_or (typed_row row columns) place null) places i 0 null inside
    ∙ get_or-map (λ (of : ColumnCells). get_or of.cells row null) columns (get_or places i 0) column null within
    ∙ ap (λ (of : ColumnCells). get_or of.cells row null) (sym is)

-- ---- one row more
module _ (equal : (a b : CellValue) → IsTrue (value_eq a b) ↔ (a ≡ b)) (keys : List (List CellValue)) (row : ℕ) (within : row < length keys) where
  key_same : (a b : List CellValue) → (key_eq a b ≡ true → a ≡ b) × (a ≡ b → key_eq a b ≡ true)
  key_same = pointwise_decides equal

  more_keys : take (row + 1) keys ≡ take row keys ++ get_or keys row [] ∷ []
  more_keys = take_more keys row [] within

  so_far : length (take row keys) ≡ row
  so_far = omega (arith, length-take row keys, within)

  pub null_here : null_row (take row keys) ≡ None → has_null (get_or keys row []) ≡ true → null_row keys ≡ Some row
  null_here whole has =
      position-here has_null keys row [] within has
      (λ k less. ap has_null (sym (get_or-take row keys k [] less)) ∙ position-none has_null (take row keys) k [] whole (omega (arith, less, so_far)))

  pub whole_more : null_row (take row keys) ≡ None → has_null (get_or keys row []) ≡ false → null_row (take (row + 1) keys) ≡ None
  whole_more whole lacks = rw (more_keys, position-more has_null (take row keys) (get_or keys row []), whole, lacks) refl

  repeated_more : repeated_row (take (row + 1) keys) ≡ option_or (repeated_row (take row keys)) (cond (list_any (key_eq (get_or keys row [])) (take row keys)) (Some row) None)
  repeated_more = rw (more_keys, repeated_row-more (take row keys) (get_or keys row []), so_far) refl

  -- after a row that was repeated
  pub still_repeated : (found : ℕ) → Some found ≡ repeated_row (take row keys) → Some found ≡ repeated_row (take (row + 1) keys)
  still_repeated found is = rw (repeated_more, ← is) refl

  -- a key of its own
  pub not_repeated : None ≡ repeated_row (take row keys) → ((r : ℕ) → r < row → get_or keys row [] ≢ get_or keys r []) → None ≡ repeated_row (take (row + 1) keys)
  not_repeated none other =
      let own : list_any (key_eq (get_or keys row [])) (take row keys) ≡ false =
      list_any-nowhere (key_eq (get_or keys row [])) (take row keys) []
      (λ k less. false_from_ne_true (key_eq (get_or keys row []) (get_or (take row keys) k []))
      (λ t. let before : k < row = omega (arith, so_far) in
      other k before ((key_same (get_or keys row []) (get_or (take row keys) k [])).0 t ∙ get_or-take row keys k [] before))) in
      rw (repeated_more, ← none, own) refl

  -- that of an earlier row
  pub repeated_here : None ≡ repeated_row (take row keys) → (r : ℕ) → r < row → get_or keys row [] ≡ get_or keys r [] → Some row ≡ repeated_row (take (row + 1) keys)
  repeated_here none r less same =
      let again = list_any_at (key_eq (get_or keys row [])) (take row keys) r [] (omega (arith, so_far))
      ((key_same (get_or keys row []) (get_or (take row keys) r [])).1 (same ∙ sym (get_or-take row keys r [] less))) in
      rw (repeated_more, ← none, again) refl

-- ---- the first repeated row, where there is one
pub none_when : (o : Option ℕ) (b : Bool) → is_some o ≡ not b → b ≡ true → o ≡ None
none_when None b e h = refl
none_when (Some x) b e h = absurd (cc)

pub some_when : (o : Option ℕ) (b : Bool) → is_some o ≡ not b → b ≡ false → (x : ℕ) × (o ≡ Some x)
some_when None b e h = absurd (cc)
some_when (Some x) b e h = (x, refl)

-- ---- the row that has a key, or none
pub found_is : ((a b : CellValue) → IsTrue (value_eq a b) ↔ (a ≡ b)) → (keys : List (List CellValue)) (key : List CellValue) (key_at : ℕ → List CellValue) (found : Option ℕ)
    → null_row keys ≡ None → repeated_row keys ≡ None → ((row : ℕ) → row < length keys → get_or keys row [] ≡ key_at row) → IsRowWithKey (length keys) key_at key found
    → found ≡ row_of keys key
found_is equal keys key key_at None whole distinct at other =
    sym (position-nowhere (key_eq key) keys []
    (λ k within. false_from_ne_true (key_eq key (get_or keys k [])) (λ t. other k within ((pointwise_decides equal key (get_or keys k [])).0 t ∙ at k within))))
found_is equal keys key key_at (Some row) whole distinct at (within, same) =
    sym (((are_keys equal keys whole distinct).found row key).1 (rw (same, ← (at row within)) (slice_get-get_or keys row [] within)))
