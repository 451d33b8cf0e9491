-- The rows of a part stand between its places, and the places that the first of the parts begins with.
use Rattle.std.proofs.Common.{◌≡◌, ℕ, zero, suc, ◌+◌, ◌-◌, ◌*◌, ◌<◌, ◌≤◌, List, [], ◌∷◌, ◌++◌, length, length-drop, map, take, drop, min, set, subst, true, Some, add-one, refl, ap, sym, ◌∙◌, arith}
use Rattle.std.proofs.Math.Nat.{mul-le-mul}
use Rattle.std.proofs.lemmas.List.{drop-drop, drop-take, length-take, take-map}
use Rattle.std.proofs.lemmas.Option.{slice_get-map, slice_get_within}
use Rattle.std.specs.Prelude.{IsUtf8}
use Rattle.std.specs.List.{slice_get, slice_index, slice_range}
use Rattle.std.specs.Option.{option_map}
use Rattle.std.specs.Str.{is_utf8, IsCharBoundary}
use Rattle.csv_grammar.specs.Raw.{RawField}
use Rattle.csv_fields.specs.Between.{cut, raw_between}
use Rattle.csv_fields.specs.Part.{fields_between, part_between, PartOf, StandBetween, StandsBetween}
use Rattle.csv_fields.specs.Rows.{rows_cut}
use Rattle.csv_index.specs.Fields.{AreLeft}
use Rattle.csv_index.specs.Index.{Places, raws, start_at, table_in, FitsFile}
use Rattle.csv_index.specs.Parts.{part_ends, part_fields, part_start, parts_of, parts_view, AreParts, PartsOf}
use Rattle.csv_index.specs.declared.parts.Parts.TheInside.{Inside}
use Rattle.csv_index.proofs.Boundaries.{boundary_next, end_boundary, start_boundary}
use Rattle.csv_index.proofs.CellLemmas.{AllByRecursion-at, cell_fits, cut_at, fields_behind, start_before}
use Rattle.csv_index.proofs.PartLemmas.{drop-rows_cut, fields_of, place_at, start_past}

-- ---- the rows of the part

-- the field of a number stands between its places
field_place : (p : Inside) (n : ℕ) → AreParts p → n < p.rows * p.width → StandsBetween p.text.now (slice_index p.places.items n) (slice_index p.places.items (n + 1))
field_place p n are within =
    let places = p.places.items in
    let text = p.text.now in
    let ends = part_ends p in
    let size : p.rows * p.width < length places = omega (arith, are.places) in
    let end : slice_get ends n ≡ Some (slice_index places (n + 1)) =
    place_at places p.ends (p.rows * p.width) n size within ∙ ap (λ k. Some (slice_index places k)) (sym (add-one n)) in
    let start : start_at (part_start p) ends n ≡ slice_index places n + 1 = start_past places p.ends (p.rows * p.width) n size within in
    let some : 0 < length ends = omega (arith, slice_get_within ends n (slice_index places (n + 1)) end) in
    let order = start_before (part_start p) (length text) ends n (slice_index places (n + 1)) are.ends.rise end in
    let field : slice_get (part_fields p) n ≡ Some (raw_between (slice_range text (slice_index places n + 1) (slice_index places (n + 1)))) =
    slice_get-map raw_between (cut (part_start p) ends text) n
    ∙ ap (option_map raw_between) (cut_at (part_start p) ends text n (slice_index places (n + 1)) end ∙ ap (λ k. Some (slice_range text k (slice_index places (n + 1)))) start) in record {
      order = subst (λ k. k ≤ slice_index places (n + 1)) start order.0;
      size = order.1;
      start = subst (IsCharBoundary text) start
          (start_boundary (part_start p) ends text n (slice_index places (n + 1)) are.ends.utf8 (are.ends.boundary some) are.ends.rise are.ends.ascii end);
      end = end_boundary (part_start p) ends text n (slice_index places (n + 1)) are.ends.rise are.ends.ascii end;
      utf8 = AllByRecursion-at (λ raw. is_utf8 raw.bytes ≡ true) (part_fields p) n _ are.ends.text field;
    }

pub fields_stand : (p : Inside) → AreParts p → StandBetween p.text.now p.places.items (p.rows * p.width)
fields_stand p are = record {
  within = omega (arith, are.places);
  each = λ n within. field_place p n are within;
}

-- the pieces between the first of the places
cut_front : (start : ℕ) (ends more bytes : List ℕ) → take (length ends) (cut start (ends ++ more) bytes) ≡ cut start ends bytes
cut_front start [] more bytes = refl
cut_front start (end ∷ ends) more bytes = ap (λ rest. slice_range bytes start end ∷ rest) (cut_front (end + 1) ends more bytes)

pub take_front : {X : Type 0} (n m : ℕ) (xs : List X) → take n (take (n + m) xs) ≡ take n xs
take_front zero m xs = refl
take_front (suc n) m [] =
    let more : suc n + m ≡ suc (n + m) = omega arith in
    ap (λ k. take (suc n) (take k [])) more
take_front (suc n) m (x ∷ xs) =
    let more : suc n + m ≡ suc (n + m) = omega arith in
    ap (λ k. take (suc n) (take k (x ∷ xs))) more ∙ ap (λ rest. x ∷ rest) (take_front n m xs)

-- rows are cut from the fields that they need
pub rows_cut_front : (n width : ℕ) (fields : List RawField) → rows_cut n width (take (n * width) fields) ≡ rows_cut n width fields
rows_cut_front zero width fields = refl
rows_cut_front (suc n) width fields =
    let more : suc n * width ≡ width + n * width = omega arith in
    ap (λ k. rows_cut (suc n) width (take k fields)) more
    ∙ ap (λ row. row ∷ rows_cut n width (drop width (take (width + n * width) fields))) (take_front width (n * width) fields)
    ∙ ap (λ rest. take width fields ∷ rows_cut n width rest) (drop-take width (n * width) fields)
    ∙ ap (λ rows. take width fields ∷ rows) (rows_cut_front n width (drop width fields))

abbrev pub made_part : ℕ → List (List RawField) → PartOf
made_part width rows = record { width = width; rows = rows }

-- so the part is that between its own places
pub part_is : (p : Inside) (parts : PartsOf) → parts_view p ≡ parts → AreParts p
    → part_between p.text.now p.width p.rows p.places.items ≡ made_part parts.width parts.part
part_is p parts is are =
    let count = p.rows * p.width in
    let front = take count (drop 1 p.places.items) in
    let size : length front ≡ count = omega (arith, are.places, length-take count (drop 1 p.places.items), length-drop 1 p.places.items) in
    let pieces : cut (part_start p) front p.text.now ≡ take count (cut (part_start p) (part_ends p) p.text.now) =
    sym (cut_front (part_start p) front p.ends p.text.now) ∙ ap (λ k. take k (cut (part_start p) (part_ends p) p.text.now)) size in
    let fields : fields_between p.text.now p.places.items count ≡ take count (part_fields p) =
    ap (map raw_between) pieces ∙ sym (take-map raw_between count (cut (part_start p) (part_ends p) p.text.now)) in
    ap (λ fs. made_part p.width (rows_cut p.rows p.width fs)) fields
    ∙ ap (made_part p.width) (rows_cut_front p.rows p.width (part_fields p))
    ∙ ap (λ (q : PartsOf). made_part q.width q.part) is

-- ---- the first rows

-- there are fewer fields than bytes
pub part_room : (places : Places) (bytes : List ℕ) (most more left width : ℕ) → FitsFile places bytes → left ≤ places.rows → width ≡ places.width
    → more ≡ min left most → more * width ≤ length bytes
part_room places bytes most more left width fits r w is =
    let f = cell_fits places bytes places.rows fits (omega arith) in
    let cells : places.rows * width + width ≤ length bytes + 1 = rw w (omega (arith, f.1, f.2)) in
    let fewer : more ≤ places.rows = omega arith in
    let same : width ≤ width = omega arith in
    let less : more * width ≤ places.rows * width = mul-le-mul fewer same in
    omega (arith, cells, less, fits.width, w)

pub first_left : (items ends bytes : List ℕ) (width end : ℕ) → 0 < length items → AreLeft (end + 1) ends bytes
    → AreLeft (slice_index (set items 0 end) 0 + 1) (take (0 * width) (drop 1 (set items 0 end)) ++ ends) bytes
first_left [] ends bytes width end some left = absurd (omega arith)
first_left (item ∷ items) ends bytes width end some left = let none : 0 * width ≡ 0 = omega arith in rw none left

first_fields : (items ends bytes : List ℕ) (width end : ℕ) → 0 < length items
    → drop (0 * width) (fields_of bytes (set items 0 end) (0 * width) ends) ≡ map raw_between (cut (end + 1) ends bytes)
first_fields [] ends bytes width end some = absurd (omega arith)
first_fields (item ∷ items) ends bytes width end some = let none : 0 * width ≡ 0 = omega arith in rw none refl

-- the places after the fields of the rows before one
pub record AreRowEnds (places : Places) (bytes : List ℕ) (row left width end : ℕ) (ends : List ℕ) : Type 0 where
  pub left_are : AreLeft (end + 1) ends bytes
  pub fields : map raw_between (cut (end + 1) ends bytes) ≡ drop ((row + 1) * places.width) (raws places bytes)
  pub count : length ends ≡ left * width

pub row_ends : (places : Places) (bytes : List ℕ) (row before left width end : ℕ) (ends : List ℕ) → IsUtf8 bytes → FitsFile places bytes → row ≤ places.rows
    → left ≡ places.rows - row → width ≡ places.width → before ≡ (row + 1) * width - 1
    → slice_get places.ends before ≡ Some end → ends ≡ drop (before + 1) places.ends → AreRowEnds places bytes row left width end ends
row_ends places bytes row before left width end ends utf8 fits within r w b_is e is =
    let f = cell_fits places bytes row fits within in
    let wide : (row + 1) * places.width ≡ (row + 1) * width = ap (λ k. (row + 1) * k) (sym w) in
    let number : (row + 1) * places.width ≡ before + 1 = omega (arith, f.0, wide, b_is) in
    let b = fields_behind places bytes row before end ends fits number e is in
    let size : length ends ≡ length places.ends - (before + 1) = ap length is ∙ length-drop (before + 1) places.ends in
    let whole : places.rows + 1 ≡ row + 1 + left = omega arith in
    let cells : (places.rows + 1) * places.width ≡ (row + 1) * places.width + left * places.width = ap (λ k. k * places.width) whole ∙ omega arith in
    let same : left * places.width ≡ left * width = ap (λ k. left * k) (sym w) in record {
      left_are = record {
        rise = b.rise;
        text = b.text;
        utf8 = utf8;
        boundary = λ some. boundary_next places.start places.ends bytes before end utf8 fits.rise fits.ascii e
            (subst (λ l. 0 < length l) (is ∙ ap (λ k. drop k places.ends) (add-one before)) some);
        ascii = b.ascii;
      };
      fields = b.are;
      count = omega (arith, size, fits.count, number, cells, same);
    }

abbrev pub made_parts : List ℕ → ℕ → ℕ → List RawField → PartsOf
made_parts bytes rows width fields = record { bytes = bytes; width = width; part = []; left = rows_cut rows width fields }

-- the rows from one on are cut from the fields after those before it
rows_past : (row rows width : ℕ) (fields : List RawField) → row ≤ rows
    → drop row (rows_cut rows width (drop width fields)) ≡ rows_cut (rows - row) width (drop ((row + 1) * width) fields)
rows_past row rows width fields within =
    let least : min rows row ≡ row = omega arith in
    let past : width + row * width ≡ (row + 1) * width = omega arith in
    drop-rows_cut row rows width (drop width fields)
    ∙ ap (λ n. rows_cut (rows - n) width (drop (n * width) (drop width fields))) least
    ∙ ap (rows_cut (rows - row) width) (drop-drop (row * width) width fields ∙ ap (λ n. drop n fields) past)

pub parts_are : (places : Places) (bytes items ends : List ℕ) (row left width end : ℕ) → 0 < length items → row ≤ places.rows → left ≡ places.rows - row
    → width ≡ places.width → AreRowEnds places bytes row left width end ends
    → made_parts bytes left width (drop (0 * width) (fields_of bytes (set items 0 end) (0 * width) ends)) ≡ parts_of bytes places.width (drop row (table_in places bytes).rows)
parts_are places bytes items ends row left width end some within r w are =
    ap (made_parts bytes left width) (first_fields items ends bytes width end some ∙ are.fields)
    ∙ ap (λ n. made_parts bytes n width (drop ((row + 1) * places.width) (raws places bytes))) r
    ∙ ap (λ k. made_parts bytes (places.rows - row) k (drop ((row + 1) * places.width) (raws places bytes))) w
    ∙ ap (λ rows. parts_of bytes places.width rows) (sym (rows_past row places.rows places.width (raws places bytes) within))
