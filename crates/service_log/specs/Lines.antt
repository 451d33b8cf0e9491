-- Lines that wait to be written.
use Rattle.std.specs.Prelude.{◌≡◌, ◌≢◌, ◌⊎◌, ◌<◌, ◌+◌, ◌-◌, ◌^◌, ℕ, List, ◌++◌, codes, length, vec_capacity, vec_len}
use Rattle.std.specs.Fmt.{decimal}
use Rattle.service_log.specs.declared.lines.Lines.{Lines}
use Rattle.service_log.specs.declared.lines.TheConstants.{MOST_WAITING}

-- how many lines were left out, as a line
abbrev pub left_out_text : ℕ → List ℕ
left_out_text count = decimal count ++ codes " lines left out\n"

-- the bytes of a line wait after all others
pub record AddsLine (line : List ℕ) (old new : Lines) : Type 0 where
  pub none_before : old.left_out ≡ 0
  pub text : new.text.items ≡ old.text.items ++ line
  pub written : new.written ≡ old.written
  pub left_out : new.left_out ≡ old.left_out

-- one line more is counted as left out, unless the count is the greatest of its type
pub record LeavesLineOut (old new : Lines) : Type 0 where
  pub text : new.text.items ≡ old.text.items
  pub written : new.written ≡ old.written
  pub left_out : old.left_out < 2 ^ 64 - 1 → new.left_out ≡ old.left_out + 1

-- a line was left out and that is not said yet, or the line would be one too many, or memory for it was refused
abbrev pub NoRoom : List ℕ → Lines → Type 0
NoRoom line old = (old.left_out ≢ 0) ⊎ (MOST_WAITING < vec_len old.text + length line) ⊎ (vec_capacity old.text < vec_len old.text + length line)

-- the same lines wait, and as many were left out
pub record AreSame (old new : Lines) : Type 0 where
  pub text : new.text.items ≡ old.text.items
  pub written : new.written ≡ old.written
  pub left_out : new.left_out ≡ old.left_out

-- the count of left-out lines is a line itself, after all that wait, and starts anew
pub record IsNoted (old new : Lines) : Type 0 where
  pub some : old.left_out ≢ 0
  pub text : new.text.items ≡ old.text.items ++ left_out_text old.left_out
  pub written : new.written ≡ old.written
  pub left_out : new.left_out ≡ 0
