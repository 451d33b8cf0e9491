-- The keys of more rows are read.
use Rattle.std.proofs.Common.{◌≡◌, ◌+◌, ◌<◌, ◌≤◌, ◌^◌, ℕ, List, [], None, get_or, length, min, replicate, take, Global, Vec, vec_len, ◌++◌, ◌-◌, IsTrue, ◌↔◌, inl, inr, refl, sym, ap, ◌∙◌, arith}
use Rattle.std.proofs.lemmas.Bool.{cases_lt}
use Rattle.std.proofs.lemmas.List.{length-map, length-replicate, replicate-append-replicate, take_all}
use Rattle.cell_types.specs.Value.{CellValue, null, value_eq}
use Rattle.key_index.specs.declared.keys.Keys.TheVariants.{Rising, Slots}
use Rattle.key_index.specs.declared.rising.Rise.{Rise}
use Rattle.key_index.specs.declared.reading.Seats.{Seats}
use Rattle.key_index.specs.declared.reading.Held.TheVariants as held_by
use Rattle.key_index.specs.Key.{row_key}
use Rattle.key_index.specs.Keys.{typed_keys, typed_row, AreKeysOf}
use Rattle.key_index.specs.Rising.{AreRising, Rises}
use Rattle.key_index.specs.Slots.{free, free_slots}
use Rattle.key_index.specs.Reading.{held_left, slots_for, SeatsRows}
use Rattle.key_index.proofs.RisingLemmas.{rising-distinct, rising-whole, rising_same}
use Rattle.key_index.proofs.RowLemmas.{key_at, length-typed_keys, no_typed_keys, typed_key, typed_keys-le}
use Rattle.key_index.proofs.SlotLemmas.{all_free, seated_same}
use Rattle.column_blocks.specs.ColumnCells.{ColumnCells}

-- ---- in slots
-- more slots are made
pub more_free : (old new : Vec ℕ Global) (more : ℕ) → old.items ≡ replicate (vec_len old) free → vec_len old ≤ more
    → new.items ≡ take more old.items ++ replicate (more - vec_len old) free → new.items ≡ replicate more free
more_free old new more are less is =
    let size : length old.items ≡ vec_len old = ap length are ∙ length-replicate (vec_len old) free in
    let all : vec_len old + (more - vec_len old) ≡ more = omega (arith, less) in
    is ∙ ap (λ l. l ++ replicate (more - vec_len old) free) (take_all more old.items (omega (arith, size, less)) ∙ are)
    ∙ replicate-append-replicate (vec_len old) (more - vec_len old) free ∙ ap (λ n. replicate n free) all

-- all slots are free
pub seats_free : (places : List ℕ) (columns : List ColumnCells) (rows count : ℕ) (seats : Seats) → count ≡ slots_for (length (typed_keys places columns rows)) → seats.row ≡ 0 → seats.repeated ≡ None
    → seats.slots.items ≡ replicate count free → SeatsRows places columns rows seats
seats_free places columns rows count seats is none unknown made =
    let size : length seats.slots.items ≡ count = ap length made ∙ length-replicate count free in record {
      within = omega arith;
      long = size ∙ is;
      whole = rw none refl;
      repeated = rw none unknown;
      seated = λ _ row within. absurd (omega arith);
      room = λ _. omega (arith, ap free_slots made, all_free count, size);
    }

module _ (places : List ℕ) (columns : List ColumnCells) (rows : ℕ) (seats : Seats) (are : SeatsRows places columns rows seats) (over : length (typed_keys places columns rows) ≤ seats.row) where
  all_keys : take seats.row (typed_keys places columns rows) ≡ typed_keys places columns rows
  all_keys = take_all seats.row (typed_keys places columns rows) over

  -- no key is repeated
  pub seats_distinct : rows ≤ 2 ^ 31 → seats.repeated ≡ None → AreKeysOf (Slots seats.row seats.slots) (typed_keys places columns rows)
  seats_distinct few none =
      let keys = typed_keys places columns rows in record {
        found = record {
          count = omega (arith, are.within, over);
          room = omega (arith, are.long);
          few = omega (arith, are.long, typed_keys-le places columns rows, few);
          seated = seated_same (key_at places columns) (λ r. get_or keys r []) seats.slots.items (length keys) (λ r within. sym (typed_key places columns rows r within))
              (λ r within. are.seated none r (omega (arith, within, over)));
        };
        whole = rw all_keys at are.whole;
        distinct = rw all_keys at (sym are.repeated ∙ none);
      }

-- the keys of all rows rise
pub all_rising : ((a b : CellValue) → IsTrue (value_eq a b) ↔ (a ≡ b)) → (places : List ℕ) (columns : List ColumnCells) (rows : ℕ) (rise : Rise) → rise.row ≡ rows
    → Rises (λ row. row_key places (typed_row row columns)) rise → AreKeysOf (Rising rows) (typed_keys places columns rows)
all_rising equal places columns rows rise all rises =
    let keys = typed_keys places columns rows in
    let rising : AreRising (key_at places columns) rows = rw all at rises.rising in
    let one : 0 < rows → length (key_at places columns 0) ≡ 1 = λ some. ap length (rising.are 0 some) in
    let of : ℕ → CellValue = λ place. get_or (typed_row 0 columns) place null in
    let count : rows ≡ length keys = elim (cases_lt 0 (length places)) [
      | inl some ↦ sym (length-typed_keys places columns rows some)
      | inr none ↦ elim (cases_lt 0 rows) [
        | inl more ↦ absurd (omega (arith, one more, length-map places of, none))
        | inr zero ↦ omega (arith, zero, no_typed_keys places columns rows (omega (arith, none)))
      ]
    ] in
    let here : AreRising (λ row. get_or keys row []) (length keys) =
    rising_same (key_at places columns) (λ row. get_or keys row []) (length keys) (λ row within. sym (typed_key places columns rows row within)) (rw count at rising) in
    record { found = (count, here); whole = rising-whole keys here; distinct = rising-distinct equal keys here }
