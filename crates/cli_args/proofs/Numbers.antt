-- What a typed getter says of a number.
use Rattle.std.proofs.Common.{◌≡◌, ℕ, List, Option, Some, None, Result, Ok, Err, refl}
use Rattle.std.specs.Str.Parse.{ParsesUnsigned}
use Rattle.clap.specs.Words.{ReadsOne, Text}
use Rattle.cli_args.specs.Words.{ReadsNumberOfBits}

module _ {E : Type 0} (bits : ℕ) (gives : List ℕ → Result ℕ E → Type 0)
    (only : (bs : List ℕ) (r : Result ℕ E) → gives bs r → ParsesUnsigned bits 10 bs r) where
  pub reads_number : (o : Option Text) (r : Option ℕ) → (o ≡ None → r ≡ None) → ((t : Text) → o ≡ Some t → ReadsOne gives t r) → ReadsNumberOfBits bits o r
  reads_number None None a b = λ n h. h
  reads_number None (Some n) a b = let bad : Some n ≡ None = a refl in absurd (cc bad)
  reads_number (Some t) None a b = λ n h. let e = b t refl in only t (Err e.0) e.1 h.0
  reads_number (Some t) (Some n) a b = only t (Ok n) (b t refl)
