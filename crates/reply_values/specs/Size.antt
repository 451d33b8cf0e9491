-- How many bytes texts take, and texts that are written within room that is there.
use Rattle.std.specs.Prelude.{◌≡◌, ℕ, ◌+◌, ◌^◌, ◌-◌, ◌++◌, List, length, min, take}

-- a length as 64 bits tell it: the greatest number, where it is more
abbrev pub told : ℕ → ℕ
told length = min length (2 ^ 64 - 1)

-- a text is written from one place to another, and what is before it stays
pub record IsWrittenAt (old new : List ℕ) (at to : ℕ) (text : List ℕ) : Type 0 where
  pub long : length new ≡ length old
  pub bytes : take to new ≡ take at old ++ text
  pub end : to ≡ at + length text
