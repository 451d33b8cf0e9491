-- Texts with other separators, worked out by hand.
use Rattle.std.specs.Prelude.{◌≡◌, [], ◌∷◌, codes}
use Rattle.csv_records.specs.Exchange.{Exchange}
use Rattle.csv_records.specs.Written.{row_bytes}

pub record WorkedExchanges : Type 0 where
  -- a semicolon inside double quotes separates nothing, and comes out without them
  pub quoted : Exchange 59 (codes "\"a;b\";c\n") ((codes "a;b" ∷ codes "c" ∷ []) ∷ [])
  pub quoted_out : row_bytes (codes "a;b" ∷ codes "c" ∷ []) ≡ codes "a;b,c\n"
  -- a comma separates nothing there, and comes out inside double quotes
  pub comma : Exchange 59 (codes "1,5;c") ((codes "1,5" ∷ codes "c" ∷ []) ∷ [])
  pub comma_out : row_bytes (codes "1,5" ∷ codes "c" ∷ []) ≡ codes "\"1,5\",c\n"
