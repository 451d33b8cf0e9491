-- Each cell of some records says a value, or the bad cell is the first that says none.
use Rattle.std.proofs.Common.{◌≡◌, ◌⊎◌, ℕ, zero, suc, ◌+◌, ◌<◌, List, [], ◌∷◌, map, Some, Result, Ok, Err, slice_get, refl, ap, sym, subst, ◌∙◌, inl, inr, arith}
use Rattle.std.specs.List.{AllZip}
use Rattle.std.proofs.lemmas.Bool.{cases_order}
use Rattle.csv_grammar.specs.Records.{Field, content}
use Rattle.cell_types.specs.declared.fault.CellFault.{CellFault}
use Rattle.cell_types.specs.Value.{CellValue}
use Rattle.cell_types.specs.Column.{ColumnOf}
use Rattle.cell_types.specs.Cell.{value_of}
use Rattle.table_store.specs.Table.{row_then, rows_from, value_then, values_from}
use Rattle.table_store.specs.Laws.{AreReadingsOf, FirstBadCellIsFirst, IsFirstBadCell, reading_at, readings_of}
use Rattle.file_cells.proofs.RowLemmas.{row_then-ok}

abbrev Reading : Type 0
Reading = Result CellValue CellFault

abbrev HasOk : Reading → Type 0
HasOk said = (value : CellValue) × (said ≡ Ok value)

abbrev all_ok : List CellValue → List Reading
all_ok values = map Ok values

-- ---- one record, by what its fields say
abbrev values_then : ℕ → List Reading → Result (List CellValue) (ℕ × CellFault)
values_then place [] = Ok []
values_then place (reading ∷ readings) = value_then place reading (values_then (place + 1) readings)

of_readings : (place : ℕ) (columns : List ColumnOf) (fields : List Field) → values_from place columns fields ≡ values_then place (readings_of columns fields)
of_readings place [] fields = refl
of_readings place (column ∷ columns) [] = refl
of_readings place (column ∷ columns) (field ∷ fields) = ap (value_then place (value_of column (content field))) (of_readings (place + 1) columns fields)

-- each is a value
some_value : (place : ℕ) (reading : Reading) (rest : Result (List CellValue) (ℕ × CellFault)) → value_then place reading rest ≡ Ok [] → ⊥
some_value place (Ok value) (Ok values) e = cc
some_value place (Ok value) (Err later) e = cc
some_value place (Err fault) rest e = cc

both_ok : (place : ℕ) (reading : Reading) (rest : Result (List CellValue) (ℕ × CellFault)) (value : CellValue) (values : List CellValue)
    → value_then place reading rest ≡ Ok (value ∷ values) → (reading ≡ Ok value) × (rest ≡ Ok values)
both_ok place (Ok v) (Ok vs) value values e =
    let first : v ≡ value = cc in
    let others : vs ≡ values = cc in
    (ap (λ x. Ok x) first, ap (λ xs. Ok xs) others)
both_ok place (Ok v) (Err later) value values e = cc
both_ok place (Err fault) rest value values e = cc

all_values : (place : ℕ) (readings : List Reading) (values : List CellValue) → values_then place readings ≡ Ok values → readings ≡ all_ok values
all_values place [] [] e = refl
all_values place [] (value ∷ values) e = cc
all_values place (reading ∷ readings) [] e = absurd (some_value place reading (values_then (place + 1) readings) e)
all_values place (reading ∷ readings) (value ∷ values) e =
    let parts = both_ok place reading (values_then (place + 1) readings) value values e in
    ap (λ r. r ∷ readings) parts.0 ∙ ap (λ rs. Ok value ∷ rs) (all_values (place + 1) readings values parts.1)

of_values : (place : ℕ) (values : List CellValue) → values_then place (all_ok values) ≡ Ok values
of_values place [] = refl
of_values place (value ∷ values) = ap (value_then place (Ok value)) (of_values (place + 1) values)

has_ok : (values : List CellValue) (place : ℕ) (said : Reading) → slice_get (all_ok values) place ≡ Some said → HasOk said
has_ok [] place said e = cc
has_ok (value ∷ values) zero said e = let same : said ≡ Ok value = cc in (value, same)
has_ok (value ∷ values) (suc place) said e = has_ok values place said e

-- the first that is none
pub record FirstErrAt (readings : List Reading) (place : ℕ) (fault : CellFault) : Type 0 where
  pub here : slice_get readings place ≡ Some (Err fault)
  pub before : (earlier : ℕ) (said : Reading) → earlier < place → slice_get readings earlier ≡ Some said → HasOk said

later_err : (place : ℕ) (value : CellValue) (rest : Result (List CellValue) (ℕ × CellFault)) (bad : ℕ × CellFault) → value_then place (Ok value) rest ≡ Err bad → rest ≡ Err bad
later_err place value (Ok values) bad e = cc
later_err place value (Err later) bad e = e

before_more : (value : CellValue) (readings : List Reading) (place : ℕ)
    → ((earlier : ℕ) (said : Reading) → earlier < place → slice_get readings earlier ≡ Some said → HasOk said)
    → (earlier : ℕ) (said : Reading) → earlier < suc place → slice_get (Ok value ∷ readings) earlier ≡ Some said → HasOk said
before_more value readings place before zero said less e = let same : said ≡ Ok value = cc in (value, same)
before_more value readings place before (suc earlier) said less e = before earlier said (omega arith) e

first_err : (place : ℕ) (readings : List Reading) (bad : ℕ × CellFault) → values_then place readings ≡ Err bad
    → (behind : ℕ) × (bad.0 ≡ place + behind) × FirstErrAt readings behind bad.1
first_err place [] bad e = cc
first_err place (Ok value ∷ readings) bad e =
    let later = first_err (place + 1) readings bad (later_err place value (values_then (place + 1) readings) bad e) in
    (suc later.0, omega (arith, later.1), record { here = later.2.here; before = before_more value readings later.0 later.2.before })
first_err place (Err fault ∷ readings) bad e =
    let same : bad ≡ (place, fault) = cc in
    let at_place : bad.0 ≡ place = ap (λ (p : ℕ × CellFault). p.0) same in
    let why : fault ≡ bad.1 = sym (ap (λ (p : ℕ × CellFault). p.1) same) in
    (0, omega (arith, at_place), record { here = ap (λ f. Some (Err f)) why; before = λ earlier said less e. absurd (omega (arith, less)) })

-- ---- records
some_row : (row : ℕ) (values : Result (List CellValue) (ℕ × CellFault)) (rest : Result (List (List CellValue)) (ℕ × ℕ × CellFault)) → row_then row values rest ≡ Ok [] → ⊥
some_row row (Ok values) (Ok rows) e = cc
some_row row (Ok values) (Err later) e = cc
some_row row (Err found) rest e = cc

rows_ok : (row : ℕ) (values : Result (List CellValue) (ℕ × CellFault)) (rest : Result (List (List CellValue)) (ℕ × ℕ × CellFault)) (first : List CellValue) (rows : List (List CellValue))
    → row_then row values rest ≡ Ok (first ∷ rows) → (values ≡ Ok first) × (rest ≡ Ok rows)
rows_ok row (Ok vs) (Ok rs) first rows e =
    let front : vs ≡ first = cc in
    let others : rs ≡ rows = cc in
    (ap (λ x. Ok x) front, ap (λ xs. Ok xs) others)
rows_ok row (Ok vs) (Err later) first rows e = cc
rows_ok row (Err found) rest first rows e = cc

-- each cell has a value
all_rows : (row : ℕ) (columns : List ColumnOf) (records : List (List Field)) (rows : List (List CellValue)) → rows_from row columns records ≡ Ok rows
    → AllZip (AreReadingsOf columns) records rows
all_rows row columns [] [] e = tt
all_rows row columns [] (values ∷ rows) e = cc
all_rows row columns (fields ∷ records) [] e = absurd (some_row row (values_from 0 columns fields) (rows_from (row + 1) columns records) e)
all_rows row columns (fields ∷ records) (values ∷ rows) e =
    let parts = rows_ok row (values_from 0 columns fields) (rows_from (row + 1) columns records) values rows e in
    (all_values 0 (readings_of columns fields) values (sym (of_readings 0 columns fields) ∙ parts.0), all_rows (row + 1) columns records rows parts.1)

rows_all : (row : ℕ) (columns : List ColumnOf) (records : List (List Field)) (rows : List (List CellValue)) → AllZip (AreReadingsOf columns) records rows
    → rows_from row columns records ≡ Ok rows
rows_all row columns [] [] all = refl
rows_all row columns [] (values ∷ rows) all = absurd all
rows_all row columns (fields ∷ records) [] all = absurd all
rows_all row columns (fields ∷ records) (values ∷ rows) all =
    let first : values_from 0 columns fields ≡ Ok values = of_readings 0 columns fields ∙ ap (values_then 0) all.0 ∙ of_values 0 values in
    row_then-ok row (values_from 0 columns fields) (rows_from (row + 1) columns records) values rows first (rows_all (row + 1) columns records rows all.1)

none_bad : (columns : List ColumnOf) (records : List (List Field)) (rows : List (List CellValue)) → AllZip (AreReadingsOf columns) records rows
    → (row col : ℕ) (fault : CellFault) → reading_at columns records row col ≡ Some (Err fault) → ⊥
none_bad columns [] rows all row col fault e = cc
none_bad columns (fields ∷ records) [] all row col fault e = absurd all
none_bad columns (fields ∷ records) (values ∷ rows) all zero col fault e =
    let ok = has_ok values col (Err fault) (ap (λ rs. slice_get rs col) (sym all.0) ∙ e) in
    let both : Err fault ≡ Ok ok.0 = ok.1 in
    cc
none_bad columns (fields ∷ records) (values ∷ rows) all (suc row) col fault e = none_bad columns records rows all.1 row col fault e

-- the first that has none
row_err : (row : ℕ) (values : Result (List CellValue) (ℕ × CellFault)) (rest : Result (List (List CellValue)) (ℕ × ℕ × CellFault)) (bad : ℕ × ℕ × CellFault)
    → row_then row values rest ≡ Err bad
    → ((first : List CellValue) × (values ≡ Ok first) × (rest ≡ Err bad)) ⊎ ((found : ℕ × CellFault) × (values ≡ Err found) × (bad ≡ (row, found.0, found.1)))
row_err row (Ok first) (Ok rows) bad e = cc
row_err row (Ok first) (Err later) bad e = inl (first, refl, e)
row_err row (Err found) rest bad e = let same : bad ≡ (row, found.0, found.1) = cc in inr (found, refl, same)

bad_behind : (columns : List ColumnOf) (fields : List Field) (records : List (List Field)) (row col : ℕ) (fault : CellFault) (values : List CellValue)
    → readings_of columns fields ≡ all_ok values → IsFirstBadCell columns records row col fault → IsFirstBadCell columns (fields ∷ records) (suc row) col fault
bad_behind columns fields records row col fault values read later = record { here = later.here; before = before }
  where
    before : (r c : ℕ) (said : Reading) → (r < suc row) ⊎ ((r ≡ suc row) × (c < col)) → reading_at columns (fields ∷ records) r c ≡ Some said → HasOk said
    before zero c said earlier e = has_ok values c said (ap (λ rs. slice_get rs c) (sym read) ∙ e)
    before (suc r) c said (inl less) e = later.before r c said (inl (omega (arith, less))) e
    before (suc r) c said (inr same) e = later.before r c said (inr (omega (arith, same.0), same.1)) e

bad_here : (columns : List ColumnOf) (fields : List Field) (records : List (List Field)) (col : ℕ) (fault : CellFault)
    → FirstErrAt (readings_of columns fields) col fault → IsFirstBadCell columns (fields ∷ records) 0 col fault
bad_here columns fields records col fault first = record { here = first.here; before = before }
  where
    before : (r c : ℕ) (said : Reading) → (r < 0) ⊎ ((r ≡ 0) × (c < col)) → reading_at columns (fields ∷ records) r c ≡ Some said → HasOk said
    before zero c said (inl less) e = absurd (omega (arith, less))
    before zero c said (inr same) e = first.before c said same.1 e
    before (suc r) c said (inl less) e = absurd (omega (arith, less))
    before (suc r) c said (inr same) e = absurd (omega (arith, same.0))

bad_row : (row : ℕ) (columns : List ColumnOf) (fields : List Field) (records : List (List Field)) (bad : ℕ × ℕ × CellFault) (found : ℕ × CellFault)
    → values_from 0 columns fields ≡ Err found → bad ≡ (row, found.0, found.1)
    → (behind : ℕ) × (bad.0 ≡ row + behind) × IsFirstBadCell columns (fields ∷ records) behind bad.1 bad.2
bad_row row columns fields records bad found e is =
    let readings = readings_of columns fields in
    let there = first_err 0 readings found (sym (of_readings 0 columns fields) ∙ e) in
    let at_row : bad.0 ≡ row = ap (λ (b : ℕ × ℕ × CellFault). b.0) is in
    let at_col : bad.1 ≡ found.0 = ap (λ (b : ℕ × ℕ × CellFault). b.1) is in
    let why : found.1 ≡ bad.2 = sym (ap (λ (b : ℕ × ℕ × CellFault). b.2) is) in
    let col : there.0 ≡ bad.1 = omega (arith, there.1, at_col) in
    let first : FirstErrAt readings bad.1 bad.2 = subst (λ c. FirstErrAt readings c bad.2) col (subst (FirstErrAt readings there.0) why there.2) in
    (0, omega (arith, at_row), bad_here columns fields records bad.1 bad.2 first)

first_bad : (row : ℕ) (columns : List ColumnOf) (records : List (List Field)) (bad : ℕ × ℕ × CellFault) → rows_from row columns records ≡ Err bad
    → (behind : ℕ) × (bad.0 ≡ row + behind) × IsFirstBadCell columns records behind bad.1 bad.2
first_bad row columns [] bad e = cc
first_bad row columns (fields ∷ records) bad e =
    elim (row_err row (values_from 0 columns fields) (rows_from (row + 1) columns records) bad e) [
      | inl on ↦
          let later = first_bad (row + 1) columns records bad on.2 in
          let read = all_values 0 (readings_of columns fields) on.0 (sym (of_readings 0 columns fields) ∙ on.1) in
          (suc later.0, omega (arith, later.1), bad_behind columns fields records later.0 bad.1 bad.2 on.0 read later.2)
      | inr off ↦ bad_row row columns fields records bad off.0 off.1 off.2
    ]

bad_first : (columns : List ColumnOf) (records : List (List Field)) (row col : ℕ) (fault : CellFault) → rows_from 0 columns records ≡ Err (row, col, fault)
    → IsFirstBadCell columns records row col fault
bad_first columns records row col fault e =
    let there = first_bad 0 columns records (row, col, fault) e in
    let same : there.0 ≡ row = omega (arith, there.1) in
    subst (λ r. IsFirstBadCell columns records r col fault) same there.2

-- ---- there is one at most
not_before : (columns : List ColumnOf) (records : List (List Field)) (row col : ℕ) (fault : CellFault) (r c : ℕ) (other : CellFault)
    → IsFirstBadCell columns records row col fault → IsFirstBadCell columns records r c other → (r < row) ⊎ ((r ≡ row) × (c < col)) → ⊥
not_before columns records row col fault r c other a b earlier =
    let ok = a.before r c (Err other) earlier b.here in
    let both : Err other ≡ Ok ok.0 = ok.1 in
    cc

one_fault : (columns : List ColumnOf) (records : List (List Field)) (row col : ℕ) (fault : CellFault) (r c : ℕ) (other : CellFault) → row ≡ r → col ≡ c
    → reading_at columns records row col ≡ Some (Err fault) → reading_at columns records r c ≡ Some (Err other) → fault ≡ other
one_fault columns records row col fault r c other e f a b =
    let same = sym a ∙ ap (λ n. reading_at columns records n col) e ∙ ap (λ n. reading_at columns records r n) f ∙ b in
    cc

one_first : (columns : List ColumnOf) (records : List (List Field)) (row col : ℕ) (fault : CellFault) (r c : ℕ) (other : CellFault)
    → IsFirstBadCell columns records row col fault → IsFirstBadCell columns records r c other → (row ≡ r) × (col ≡ c) × (fault ≡ other)
one_first columns records row col fault r c other a b =
    elim (cases_order row r) [
      | inl same ↦
          elim (cases_order col c) [
            | inl place ↦ (same, place, one_fault columns records row col fault r c other same place a.here b.here)
            | inr (inl less) ↦ absurd (not_before columns records r c other row col fault b a (inr (same, less)))
            | inr (inr more) ↦ absurd (not_before columns records row col fault r c other a b (inr (sym same, more)))
          ]
      | inr (inl less) ↦ absurd (not_before columns records r c other row col fault b a (inl less))
      | inr (inr more) ↦ absurd (not_before columns records row col fault r c other a b (inl more))
    ]

all_three : (bad : ℕ × ℕ × CellFault) (row col : ℕ) (fault : CellFault) → bad.0 ≡ row → bad.1 ≡ col → bad.2 ≡ fault → bad ≡ (row, col, fault)
all_three bad row col fault e f g =
    let three : ℕ → ℕ → CellFault → ℕ × ℕ × CellFault = λ r c x. (r, c, x) in
    ap (λ r. three r bad.1 bad.2) e ∙ ap (λ c. three row c bad.2) f ∙ ap (three row col) g

first_from : (columns : List ColumnOf) (records : List (List Field)) (row col : ℕ) (fault : CellFault) (read : Result (List (List CellValue)) (ℕ × ℕ × CellFault))
    → rows_from 0 columns records ≡ read → IsFirstBadCell columns records row col fault → rows_from 0 columns records ≡ Err (row, col, fault)
first_from columns records row col fault (Ok rows) e first = absurd (none_bad columns records rows (all_rows 0 columns records rows e) row col fault first.here)
first_from columns records row col fault (Err bad) e first =
    let there = bad_first columns records bad.0 bad.1 bad.2 e in
    let one = one_first columns records bad.0 bad.1 bad.2 row col fault there first in
    e ∙ ap (λ b. Err b) (all_three bad row col fault one.0 one.1 one.2)

pub first_bad_cell : FirstBadCellIsFirst
first_bad_cell = record {
  values = λ columns records rows. (all_rows 0 columns records rows, rows_all 0 columns records rows);
  fault = λ columns records row col fault. (bad_first columns records row col fault, first_from columns records row col fault (rows_from 0 columns records) refl);
}
