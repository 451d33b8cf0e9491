-- Crates above may cite this file. A file that is read as it comes.
use Rattle.std.proofs.Common.{◌≡◌, ℕ, zero, suc, ◌+◌, ◌-◌, ◌*◌, ◌^◌, ◌<◌, ◌≤◌, Bool, true, false, List, [], ◌∷◌, ◌++◌, length, length-append, length-drop, take, drop, take-append-drop, ◌==◌, append-nil, append_assoc, refl, sym, ap, subst, ◌∙◌, ◌⊎◌, inl, inr, arith}
use Rattle.std.specs.Prelude.{if◌then◌else◌, nat_lt}
use Rattle.std.proofs.lemmas.Bool.Decides.{nat_tests}
use Rattle.std.proofs.lemmas.List.{drop-drop, length-take, take-take}
use Rattle.cell_types.specs.Column.{ColumnOf}
use Rattle.file_cells.specs.declared.fault.FileFault.{FileFault}
use Rattle.file_cells.specs.declared.file_reading.FileCells.{FileCells}
use Rattle.file_cells.specs.declared.file_reading.FileReading.{FileReading}
use Rattle.file_cells.specs.declared.loader.Loader.{Loader}
use Rattle.file_cells.specs.Reading.{given_len, unread_of, reading_left, wants_more, HasCellsOf, HasReadTo, IsReading, IsWrongFile, LoadsWindow, ReadsLinesOf}

-- how many bytes were given
pub given_is : (columns : List ColumnOf) (given : List ℕ) (reading : FileReading) → IsReading columns given reading → given_len reading ≡ length given
given_is columns given reading reads =
    omega (arith, ap length reads.is, length-append reads.front (unread_of reading), length-drop reading.at reading.window.items, reads.read.front.size, reads.within)

-- ---- more of the file
open_by : (ended more : Bool) → (if ended then false else more) ≡ true → ended ≡ false
open_by true more e = absurd (cc)
open_by false more e = refl

pub not_ended : (reading : FileReading) → wants_more reading ≡ true → reading.ended ≡ false
not_ended reading e = open_by reading.ended (nat_lt (length reading.window.items - reading.at) reading.size) e

pub left_fed : (none : Bool) (given n : ℕ) → none ≡ (n == 0) → given + n ≤ 2 ^ 30 → (2 ^ 30 - (given + n)) + (if none then 0 else 1) < (2 ^ 30 - given) + 1
left_fed true given n e room = omega arith
left_fed false given zero e room = absurd (cc)
left_fed false given (suc n) e room = omega arith

-- ---- the next window
-- it is there
pub in_memory : (ended : Bool) (n size : ℕ) → (if ended then false else nat_lt n size) ≡ false → (ended ≡ true → size ≤ n) → size ≤ n
in_memory true n size e f = f refl
in_memory false n size e f = grind (arith, nat_tests)

pub loads_window : (columns : List ColumnOf) (given window : List ℕ) (reading : FileReading) (size : ℕ) → (reads : IsReading columns given reading) → window ≡ take size (unread_of reading)
    → LoadsWindow columns reads.front window reading.loader
loads_window columns given window reading size reads is = record {
  read = reads.read;
  short = omega (arith, reads.short, ap length reads.is, length-append reads.front (unread_of reading), ap length is, length-take size (unread_of reading));
}

pub loads_rest : (columns : List ColumnOf) (given : List ℕ) (reading : FileReading) → (reads : IsReading columns given reading) → LoadsWindow columns reads.front (unread_of reading) reading.loader
loads_rest columns given reading reads = record { read = reads.read; short = omega (arith, reads.short, ap length reads.is, length-append reads.front (unread_of reading)) }

none_of : (xs : List ℕ) → length xs ≡ 0 → xs ≡ []
none_of [] e = refl
none_of (x ∷ xs) e = absurd (omega arith)

-- the rest is read
pub rest_read : (columns : List ColumnOf) (given : List ℕ) (reading : FileReading) (read : FileCells) → (reads : IsReading columns given reading)
    → HasCellsOf columns (reads.front ++ unread_of reading) read → HasCellsOf columns given read
rest_read columns given reading read reads has = subst (λ bytes. HasCellsOf columns bytes read) (sym reads.is) has

pub rest_wrong : (columns : List ColumnOf) (given more : List ℕ) (reading : FileReading) (fault : FileFault) → (reads : IsReading columns given reading) → length more ≡ 0
    → IsWrongFile columns (reads.front ++ unread_of reading) fault → IsWrongFile columns (given ++ more) fault
rest_wrong columns given more reading fault reads none wrong =
    subst (λ bytes. IsWrongFile columns bytes fault) (sym reads.is ∙ sym (append-nil given) ∙ ap (λ l. given ++ l) (sym (none_of more none))) wrong

-- the window is wrong
pub window_wrong : (columns : List ColumnOf) (given more window : List ℕ) (reading : FileReading) (size : ℕ) (fault : FileFault) → (reads : IsReading columns given reading)
    → window ≡ take size (unread_of reading) → ((after : List ℕ) → IsWrongFile columns ((reads.front ++ window) ++ after) fault) → IsWrongFile columns (given ++ more) fault
window_wrong columns given more window reading size fault reads is wrong =
    let left = unread_of reading in
    let whole : (reads.front ++ window) ++ (drop size left ++ more) ≡ given ++ more =
    append_assoc reads.front window (drop size left ++ more)
    ∙ ap (λ l. reads.front ++ l) (sym (append_assoc window (drop size left) more) ∙ ap (λ l. l ++ more) (ap (λ w. w ++ drop size left) is ∙ take-append-drop size left))
    ∙ sym (append_assoc reads.front left more) ∙ ap (λ l. l ++ more) (sym reads.is) in
    subst (λ bytes. IsWrongFile columns bytes fault) whole (wrong (drop size left ++ more))

-- the next window is as long, or twice as long if nothing of this one is read
next_size : (taken old new : ℕ) → (taken ≡ 0 → new ≡ 2 * old) → (0 < taken → new ≡ old) → ((new ≡ old) × (0 < taken)) ⊎ ((new ≡ 2 * old) × (taken ≡ 0))
next_size zero old new longer same = inr (longer refl, refl)
next_size (suc n) old new longer same = inl (same (omega arith), omega arith)

-- some of it is read
pub window_read : (columns : List ColumnOf) (given window : List ℕ) (old new : FileReading) → (reads : IsReading columns given old) → (lines : ReadsLinesOf columns reads.front window new.loader)
    → window ≡ take old.size (unread_of old) → old.size ≤ length (unread_of old) → new.window.items ≡ old.window.items → new.ended ≡ old.ended
    → new.at ≡ old.at + (new.loader.front.len - old.loader.front.len)
    → (new.loader.front.len - old.loader.front.len ≡ 0 → new.size ≡ 2 * old.size) → (0 < new.loader.front.len - old.loader.front.len → new.size ≡ old.size)
    → IsReading columns given new × (reading_left new < reading_left old)
window_read columns given window old new reads lines is room same_window same_ended at longer same =
    let left = unread_of old in
    let taken = lines.taken in
    let size : length window ≡ old.size = omega (arith, ap length is, length-take old.size left, room) in
    let count : length (take taken window) ≡ taken = omega (arith, length-take taken window, lines.within) in
    let len : new.loader.front.len ≡ old.loader.front.len + taken =
    omega (arith, lines.read.front.size, reads.read.front.size, length-append reads.front (take taken window), count) in
    let more : new.loader.front.len - old.loader.front.len ≡ taken = omega (arith, len) in
    let place : new.at ≡ old.at + taken = omega (arith, at, more) in
    let whole : length given ≡ length reads.front + length left = omega (arith, ap length reads.is, length-append reads.front left) in
    let piece : take taken window ≡ take taken left = ap (take taken) is ∙ take-take taken old.size left (omega (arith, size, lines.within)) in
    let after : drop new.at new.window.items ≡ drop taken left =
    ap (λ n. drop n new.window.items) place ∙ ap (drop (old.at + taken)) same_window ∙ sym (drop-drop taken old.at old.window.items) in
    let kind = next_size taken old.size new.size (λ e. longer (more ∙ e)) (λ h. same (omega (arith, more, h))) in
    let reads_new : IsReading columns given new = record {
      front = reads.front ++ take taken window;
      is = reads.is ∙ ap (λ l. reads.front ++ l) (sym (take-append-drop taken left) ∙ ap (λ l. l ++ drop taken left) (sym piece) ∙ ap (λ l. take taken window ++ l) (sym after))
          ∙ sym (append_assoc reads.front (take taken window) (unread_of new));
      read = lines.read;
      within = omega (arith, place, ap length same_window, reads.within, size, lines.within, room, length-drop old.at old.window.items);
      short = reads.short;
      some = elim kind [ inl k ↦ omega (arith, k.0, reads.some) | inr k ↦ omega (arith, k.0, reads.some) ];
      size = elim kind [ inl k ↦ omega (arith, k.0, reads.size) | inr k ↦ omega (arith, k.0, room, whole, reads.short) ];
    } in (
      reads_new,
      rw same_ended (elim kind [
        | inl k ↦ omega (arith, k.0, k.1, len, given_is columns given new reads_new, given_is columns given old reads, whole, reads.short, reads.read.front.size, size, lines.within, room)
        | inr k ↦ omega (arith, k.0, k.1, len, given_is columns given new reads_new, given_is columns given old reads, whole, reads.short, room, reads.some)
      ]),
    )
