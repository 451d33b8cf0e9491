use Rattle.std.proofs.Common.{◌≡◌, ◌<◌, ◌+◌, ℕ, List, [], None, Global, Vec, get_or, length, map, take, true, subst, sym, ap, ◌∙◌, arith}
use Rattle.std.proofs.lemmas.List.{with_items_is}
use Rattle.cell_types.specs.Value.{CellValue, value_view}
use Rattle.key_index.specs.Key.{has_null, repeated_row, row_key}
use Rattle.key_index.specs.Keys.{typed_keys, typed_row}
use Rattle.key_index.specs.Slots.{free_slots, AreSeated}
use Rattle.key_index.specs.Reading.{SeatsRows}
use Rattle.key_index.proofs.RowLemmas.{none_when, not_repeated, null_here, repeated_here, some_when, still_repeated, typed_key, whole_more}
use Rattle.key_index.proofs.reading.seat_rows.Goals.{then-is_none+then-not-seat, else-is_none, else-is_none-via-then-is_none+else-not-seat, else-is_none-via-else-is_none}
use Rattle.key_index.proofs.reading.seat_rows.Goals as goal

abbrev items_of : Vec ℕ Global → List ℕ
items_of v = v.items

pub returns-then-has_null-clause-null : goal.returns-then-has_null-clause-null
returns-then-has_null-clause-null c =
    let keys = typed_keys c.args.places.now c.args.columns.now c.args.rows in
    let row = c.loop-row.row in
    let within : row < length keys = omega (arith, c.loop-row-test.true, c.min-end.ensures, c.key_count.ensures.count c.args.columns.now) in
    let key_is : map value_view c.as_slice.result.now ≡ get_or keys row [] =
    ap (map value_view) c.as_slice.ensures.value ∙ c.in_ok-write_key.ensures ∙ sym (typed_key c.args.places.now c.args.columns.now c.args.rows row within) in
    null_here c.values_are_ordered.ensures.equal keys row within c.loop-row.invariant.whole (ap has_null (sym key_is) ∙ sym c.has_null.ensures ∙ c.if-has_null.true)

pub seat-requires-clause-seated : goal.seat-requires-clause-seated
seat-requires-clause-seated c =
    let key_at : ℕ → List CellValue = λ row. row_key c.args.places.now (typed_row row c.args.columns.now) in
    let none : c.loop-row.repeated ≡ None = none_when c.loop-row.repeated c.is_none.result c.is_none.ensures c.if-is_none.true in
    subst (λ slots. AreSeated key_at slots c.loop-row.row) (sym c.as_mut_slice.ensures.value) (c.loop-row.invariant.seated none)

pub loop-row-preserved : goal.loop-row-preserved
loop-row-preserved c =
    let places = c.args.places.now in
    let columns = c.args.columns.now in
    let equal = c.values_are_ordered.ensures.equal in
    let keys = typed_keys places columns c.args.rows in
    let row = c.loop-row.row in
    let key_at : ℕ → List CellValue = λ row. row_key places (typed_row row columns) in
    let within : row < length keys = omega (arith, c.loop-row-test.true, c.min-end.ensures, c.key_count.ensures.count c.args.columns.now) in
    let at : (r : ℕ) → r < length keys → get_or keys r [] ≡ key_at r = typed_key places columns c.args.rows in
    let key_is : map value_view c.as_slice.result.now ≡ get_or keys row [] = ap (map value_view) c.as_slice.ensures.value ∙ c.in_ok-write_key.ensures ∙ sym (at row within) in
    let none : c.is_none.result ≡ true → c.loop-row.repeated ≡ None = none_when c.loop-row.repeated c.is_none.result c.is_none.ensures in
    let first : c.is_none.result ≡ true → None ≡ repeated_row (take row keys) = λ e. sym (none e) ∙ c.loop-row.invariant.repeated in
    let whole = whole_more equal keys row within c.loop-row.invariant.whole (ap has_null (sym key_is) ∙ sym c.has_null.ensures ∙ c.if-has_null.false) in
    elim c.if-is_none.branch [
      | then-is_none+then-not-seat w ↦
          let items = ap items_of w.slots-is ∙ with_items_is c.loop-row.slots w.seat.new.slots (w.seat.ensures.length ∙ w.as_mut_slice.ensures.len) in
          let again = w.seat.ensures.again w.if-not-seat.true in record {
            within = omega (arith, within);
            long = ap length items ∙ w.seat.ensures.length ∙ ap length w.as_mut_slice.ensures.value ∙ c.loop-row.invariant.long;
            whole = whole;
            repeated = w.repeated-is ∙ repeated_here equal keys row within (first w.if-is_none.true) again.0 again.1
                (sym key_is ∙ ap (map value_view) (c.as_slice.ensures.value ∙ sym w.as_slice-then-is_none.ensures.value) ∙ again.2 ∙ sym (at again.0 (omega (arith, again.1, within))));
            seated = λ e. absurd (cc (w.repeated-is, e));
            room = λ e. absurd (cc (w.repeated-is, e));
          }
      | else-is_none w ↦ elim w.else-is_none.branch [
        | else-is_none-via-then-is_none+else-not-seat v ↦
            let items = ap items_of (w.slots-is ∙ v.slots-is) ∙ with_items_is c.loop-row.slots v.seat.new.slots (v.seat.ensures.length ∙ v.as_mut_slice.ensures.len) in record {
              within = omega (arith, within);
              long = ap length items ∙ v.seat.ensures.length ∙ ap length v.as_mut_slice.ensures.value ∙ c.loop-row.invariant.long;
              whole = whole;
              repeated = w.repeated-is ∙ none v.if-is_none.true ∙ not_repeated equal keys row within (first v.if-is_none.true)
                  (λ r less same. v.seat.ensures.new v.if-not-seat.false r less
                  (ap (map value_view) (v.as_slice-then-is_none.ensures.value ∙ sym c.as_slice.ensures.value) ∙ key_is ∙ same ∙ at r (omega (arith, less, within))));
              seated = λ _. subst (λ s. AreSeated key_at s (row + 1)) (sym items) (v.seat.ensures.seated v.if-not-seat.false);
              room = λ _. subst (λ s. row + 1 + free_slots s ≡ length s) (sym items) (v.seat.ensures.room v.if-not-seat.false);
            }
        | else-is_none-via-else-is_none v ↦
            let found = some_when c.loop-row.repeated c.is_none.result c.is_none.ensures v.if-is_none.false in record {
              within = omega (arith, within);
              long = ap (λ s. length (items_of s)) (w.slots-is ∙ v.slots-is) ∙ c.loop-row.invariant.long;
              whole = whole;
              repeated = w.repeated-is ∙ found.1 ∙ still_repeated equal keys row within found.0 (sym found.1 ∙ c.loop-row.invariant.repeated);
              seated = λ e. absurd (cc (found.1, w.repeated-is, e));
              room = λ e. absurd (cc (found.1, w.repeated-is, e));
            }
      ]
    ]

pub returns-clause-seats : goal.returns-clause-seats
returns-clause-seats c =
    let all : c.loop-row.row ≡ c.min-end.result = omega (arith, c.loop-row-test.false, c.loop-row.auto.row-end) in
    subst (λ row. SeatsRows c.args.places.now c.args.columns.now c.args.rows (record { row = row; slots = c.loop-row.slots; repeated = c.loop-row.repeated })) all
    c.loop-row.invariant
