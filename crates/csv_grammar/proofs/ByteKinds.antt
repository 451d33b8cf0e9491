-- The kinds of a byte by which the machine steps: the four bytes that the grammar names, and any other.
use Rattle.std.proofs.Common.{◌≡◌, ℕ, true, false, refl, ◌==◌, eqb-true, subst, sym}
use Rattle.std.proofs.lemmas.Bool.{cases_Bool}
use Rattle.std.specs.Prelude.{IsTrue, ◌⊎◌}
use Rattle.csv_grammar.specs.Bytes.{double_quote, comma, carriage_return, line_feed}
use Rattle.csv_grammar.specs.Records.{is_plain}
use mathlib.Core.Logic.{inl, inr}

-- what kind of byte it is
pub data Kind : ℕ → Type 0 where
  a_quote : Kind double_quote
  a_comma : Kind comma
  a_return : Kind carriage_return
  a_feed : Kind line_feed
  an_other : (b : ℕ) → b == double_quote ≡ false → b == comma ≡ false → b == carriage_return ≡ false → b == line_feed ≡ false → Kind b

-- each byte is of a kind
pub kind_of : (b : ℕ) → Kind b
kind_of b = quotes (cases_Bool (b == double_quote))
  where
    feeds : b == double_quote ≡ false → b == comma ≡ false → b == carriage_return ≡ false
        → (b == line_feed ≡ true) ⊎ (b == line_feed ≡ false) → Kind b
    feeds q c r (inl e) = subst Kind (sym (eqb-true b line_feed e)) a_feed
    feeds q c r (inr n) = an_other b q c r n

    returns : b == double_quote ≡ false → b == comma ≡ false
        → (b == carriage_return ≡ true) ⊎ (b == carriage_return ≡ false) → Kind b
    returns q c (inl e) = subst Kind (sym (eqb-true b carriage_return e)) a_return
    returns q c (inr n) = feeds q c n (cases_Bool (b == line_feed))

    commas : b == double_quote ≡ false → (b == comma ≡ true) ⊎ (b == comma ≡ false) → Kind b
    commas q (inl e) = subst Kind (sym (eqb-true b comma e)) a_comma
    commas q (inr n) = returns q n (cases_Bool (b == carriage_return))

    quotes : (b == double_quote ≡ true) ⊎ (b == double_quote ≡ false) → Kind b
    quotes (inl e) = subst Kind (sym (eqb-true b double_quote e)) a_quote
    quotes (inr n) = commas n (cases_Bool (b == comma))

-- a byte of no kind of its own is plain
pub plain_from_other : (b : ℕ) → b == double_quote ≡ false → b == comma ≡ false → b == carriage_return ≡ false → b == line_feed ≡ false
    → IsTrue (is_plain b)
plain_from_other b q c r n = rw (q, c, r, n) refl
