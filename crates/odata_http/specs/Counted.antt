-- A reader or a writer of std as a device.
use Rattle.std.specs.Prelude.{ℕ}

-- the reader or the writer, and its counts
pub record CountedOf (T : Type 0) : Type 0 where
  pub inner : T
  pub reads : ℕ
  pub ends : ℕ
  pub failed : ℕ
