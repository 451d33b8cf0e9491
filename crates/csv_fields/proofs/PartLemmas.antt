-- Where the field of a row and a column stands among the places of a part.
use Rattle.std.proofs.Common.{◌≡◌, ℕ, zero, suc, ◌+◌, ◌*◌, ◌<◌, List, [], ◌∷◌, length, take, drop, Some, add-one, refl, ap, sym, ◌∙◌, arith}
use Rattle.std.proofs.lemmas.List.{drop-drop}
use Rattle.std.proofs.lemmas.Option.{slice_get-map}
use Rattle.std.specs.List.{slice_get, slice_index, slice_range}
use Rattle.std.specs.Option.{option_and_then, option_map}
use Rattle.std.proofs.Math.Arith.{digits_lt}
use Rattle.csv_grammar.specs.Raw.{RawField}
use Rattle.csv_grammar.proofs.ListLaws.{slice_get-drop, slice_get-take}
use Rattle.csv_fields.specs.Between.{cut, raw_between}
use Rattle.csv_fields.specs.Rows.{cell_at, rows_cut}
use Rattle.csv_fields.specs.Part.{fields_between, part_view, PartOf, StandBetween, StandsBetween}
use Rattle.csv_fields.specs.declared.part.Part.TheInside.{Inside}

pub length-rows_cut : (n width : ℕ) (fields : List RawField) → length (rows_cut n width fields) ≡ n
length-rows_cut zero width fields = refl
length-rows_cut (suc n) width fields = ap suc (length-rows_cut n width (drop width fields))

-- a row is the fields at its place
slice_get-rows_cut : (n width : ℕ) (fields : List RawField) (row : ℕ) → row < n
    → slice_get (rows_cut n width fields) row ≡ Some (take width (drop (row * width) fields))
slice_get-rows_cut zero width fields row h = absurd (omega arith)
slice_get-rows_cut (suc n) width fields zero h = let e : 0 * width ≡ 0 = omega arith in rw e refl
slice_get-rows_cut (suc n) width fields (suc row) h =
    let e : width + row * width ≡ suc row * width = omega arith in
    slice_get-rows_cut n width (drop width fields) row (omega arith)
    ∙ ap (λ rest. Some (take width rest)) (drop-drop (row * width) width fields ∙ ap (λ k. drop k fields) e)

-- a field of a row
cell-rows_cut : (n width : ℕ) (fields : List RawField) (row col : ℕ) (raw : RawField) → row < n → col < width
    → slice_get fields (row * width + col) ≡ Some raw → cell_at (rows_cut n width fields) row col ≡ Some raw
cell-rows_cut n width fields row col raw r c e =
    ap (option_and_then (λ row_fields. slice_get row_fields col)) (slice_get-rows_cut n width fields row r)
    ∙ slice_get-take width (drop (row * width) fields) col c ∙ slice_get-drop (row * width) fields col ∙ e

-- the bytes of the field of a number
piece_at : (places bytes : List ℕ) (count n : ℕ) → count < length places → n < count
    → slice_get (cut (slice_index places 0 + 1) (take count (drop 1 places)) bytes) n ≡ Some (slice_range bytes (slice_index places n + 1) (slice_index places (suc n)))
piece_at [] bytes count n h l = absurd (omega arith)
piece_at (first ∷ rest) bytes zero n h l = absurd (omega arith)
piece_at (first ∷ []) bytes (suc count) n h l = absurd (omega arith)
piece_at (first ∷ next ∷ rest) bytes (suc count) zero h l = refl
piece_at (first ∷ next ∷ rest) bytes (suc count) (suc n) h l = piece_at (next ∷ rest) bytes count n (omega arith) (omega arith)

field_at : (places bytes : List ℕ) (count n : ℕ) → count < length places → n < count
    → slice_get (fields_between bytes places count) n ≡ Some (raw_between (slice_range bytes (slice_index places n + 1) (slice_index places (n + 1))))
field_at places bytes count n h l =
    slice_get-map raw_between (cut (slice_index places 0 + 1) (take count (drop 1 places)) bytes) n
    ∙ ap (option_map raw_between) (piece_at places bytes count n h l)
    ∙ ap (λ k. Some (raw_between (slice_range bytes (slice_index places n + 1) (slice_index places k)))) (sym (add-one n))

-- what is known of the field of a row and a column
pub record CellPlace (p : Inside) (part : PartOf) (row col : ℕ) : Type 0 where
  pub within : row * p.width + col + 1 < length p.places.now
  pub place : StandsBetween p.text.now (slice_index p.places.now (row * p.width + col)) (slice_index p.places.now (row * p.width + col + 1))
  pub cell : cell_at part.rows row col
      ≡ Some (raw_between (slice_range p.text.now (slice_index p.places.now (row * p.width + col) + 1) (slice_index p.places.now (row * p.width + col + 1))))

pub cell_place : (p : Inside) (part : PartOf) (row col : ℕ) → part_view p ≡ part → StandBetween p.text.now p.places.now (p.rows * p.width)
    → row < length part.rows → col < part.width → CellPlace p part row col
cell_place p part row col is are r c =
    let count = p.rows * p.width in
    let fields = fields_between p.text.now p.places.now count in
    let rows : length part.rows ≡ p.rows = ap (λ (q : PartOf). length q.rows) (sym is) ∙ length-rows_cut p.rows p.width fields in
    let wide : part.width ≡ p.width = ap (λ (q : PartOf). q.width) (sym is) in
    let row_within : row < p.rows = omega (arith, rows, r) in
    let col_within : col < p.width = omega (arith, wide, c) in
    let below = digits_lt row_within col_within in record {
      within = omega (arith, below, are.within);
      place = are.each (row * p.width + col) below;
      cell = ap (λ (q : PartOf). cell_at q.rows row col) (sym is)
          ∙ cell-rows_cut p.rows p.width fields row col _ row_within col_within (field_at p.places.now p.text.now count (row * p.width + col) are.within below);
    }
