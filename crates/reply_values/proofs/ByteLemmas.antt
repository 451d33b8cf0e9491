-- The bytes of numbers and dates.
use Rattle.std.proofs.Common.{ℕ, suc, ◌/◌, ◌%◌, ℤ, pos, negsuc, Bool, true, false, cond, List, [], ◌∷◌, ◌++◌}
use Rattle.std.specs.Prelude.{unsigned_abs}
use Rattle.std.specs.List.{list_all, AllByRecursion}
use Rattle.jiff_fmt.specs.Text.{pad2, year_text}
use Rattle.cell_types.specs.Decimal.{is_zero, without_last_zeros}
use Rattle.reply_values.specs.Value.{day_text}

pub all-append : (P : ℕ → Type 0) (front back : List ℕ) → AllByRecursion P front → AllByRecursion P back → AllByRecursion P (front ++ back)
all-append P [] back f b = b
all-append P (x ∷ front) back f b = (f.0, all-append P front back f.1 b)

pub all-trimmed : (P : ℕ → Type 0) (ds : List ℕ) → AllByRecursion P ds → AllByRecursion P (without_last_zeros ds)
all-trimmed P [] all = tt
all-trimmed P (d ∷ ds) all = by (all-trimmed P ds all.1) (list_all is_zero (d ∷ ds))
  where
    by : AllByRecursion P (without_last_zeros ds) → (t : Bool) → AllByRecursion P (cond t [] (d ∷ without_last_zeros ds))
    by rest true = tt
    by rest false = (all.0, rest)

-- hyphens, zeros and the digits of the year, month and day
pub all-day : (P : ℕ → Type 0) (year : ℤ) (month day : ℕ) → P 45 → P 48 → AllByRecursion P (pad2 (unsigned_abs year / 100)) → AllByRecursion P (pad2 (unsigned_abs year % 100))
    → AllByRecursion P (pad2 month) → AllByRecursion P (pad2 day) → AllByRecursion P (day_text year month day)
all-day P year month day hyphen zero century rest m d =
    all-append P (year_text year ++ 45 ∷ [] ++ pad2 month ++ 45 ∷ []) (pad2 day)
    (all-append P (year_text year ++ 45 ∷ [] ++ pad2 month) (45 ∷ [])
    (all-append P (year_text year ++ 45 ∷ []) (pad2 month) (all-append P (year_text year) (45 ∷ []) (by year century rest) (hyphen, tt)) m) (hyphen, tt)) d
  where
    by : (year : ℤ) → AllByRecursion P (pad2 (unsigned_abs year / 100)) → AllByRecursion P (pad2 (unsigned_abs year % 100)) → AllByRecursion P (year_text year)
    by (pos n) century rest = all-append P (pad2 (n / 100)) (pad2 (n % 100)) century rest
    by (negsuc n) century rest = (hyphen, (zero, (zero, all-append P (pad2 (suc n / 100)) (pad2 (suc n % 100)) century rest)))
