-- Crates above may cite this file. More of a file, and the lines of it that are read.
use Rattle.std.proofs.Common.{◌≡◌, ℕ, ◌+◌, ◌-◌, ◌^◌, ◌≤◌, List, ◌++◌, length, length-append, take, drop, take-append-drop, append_assoc, sym, ap, ◌∙◌, arith}
use Rattle.std.proofs.lemmas.List.{length-take}
use Rattle.csv_windows.specs.Windows.{IsBeforeWindow, ReadsLines}
use Rattle.folder_checks.specs.Windows.{fed_len, HasWindows}
use Rattle.folder_checks.specs.declared.windows.Windows.{Windows}

-- the first lines are before the window
pub before : (given front : List ℕ) (windows : Windows) → HasWindows given front windows → IsBeforeWindow front windows.window.items windows.front
before given front windows fed = record {
  begins = fed.begins;
  short = omega (arith, fed.short, ap length fed.is, length-append front windows.window.items);
}

pub given_is : (given front : List ℕ) (windows : Windows) → HasWindows given front windows → fed_len windows ≡ length given
given_is given front windows fed = omega (arith, ap length fed.is, length-append front windows.window.items, fed.begins.size)

-- lines of it are read
pub lines_read : (given front : List ℕ) (old new : Windows) → HasWindows given front old → (reads : ReadsLines front old.window.items new.front)
    → new.window.items ≡ drop (new.front.len - old.front.len) old.window.items → HasWindows given (front ++ take reads.taken old.window.items) new
lines_read given front old new fed reads left =
    let window = old.window.items in
    let taken = reads.taken in
    let count : new.front.len - old.front.len ≡ taken =
    omega (arith, reads.front.size, fed.begins.size, length-append front (take taken window), length-take taken window, reads.within) in record {
      is = fed.is ∙ ap (λ l. front ++ l) (sym (take-append-drop taken window) ∙ ap (λ l. take taken window ++ l) (sym (left ∙ ap (λ n. drop n window) count)))
          ∙ sym (append_assoc front (take taken window) new.window.items);
      begins = reads.front;
      short = fed.short;
    }

-- more bytes are given
pub fed_more : (given front bytes : List ℕ) (old new : Windows) → HasWindows given front old → fed_len old + length bytes ≤ 2 ^ 30 → new.front ≡ old.front
    → new.window.items ≡ old.window.items ++ bytes → HasWindows (given ++ bytes) front new
fed_more given front bytes old new fed room same more = record {
  is = ap (λ l. l ++ bytes) fed.is ∙ append_assoc front old.window.items bytes ∙ ap (λ l. front ++ l) (sym more);
  begins = rw same fed.begins;
  short = omega (arith, room, given_is given front old fed, length-append given bytes);
}
