-- Tests of fields, on what the code keeps and on what contracts see of it; and the blanks after a value.
use Rattle.std.proofs.Common.{◌≡◌, ℕ, ◌+◌, Bool, true, false, ◌||◌, ◌&&◌, cond, min, ◌≢◌, tests, List, [], ◌∷◌, ◌++◌, length, refl, arith, ◌==◌}
use Rattle.std.specs.List.{count_by}
use Rattle.std.proofs.lemmas.List.Sums.{sum_by_push}
use Rattle.http_heads.specs.Fields.{is_optional_space, without_back}

-- what one field more makes of what fields say
count-more : {X : Type 0} (p : X → Bool) (xs : List X) (x : X) → count_by p (xs ++ x ∷ []) ≡ count_by p xs + cond (p x) 1 0
count-more p xs x = sum_by_push (λ x. cond (p x) 1 0) xs x

-- how many Host fields there are, of which two stand for more: with one that is none, the first, and another
pub hosts-other : (m n : ℕ) → m ≡ min 2 n → m ≡ min 2 (n + 0)
hosts-other m n e = grind (arith, e)

pub hosts-first : (m n : ℕ) → m ≡ min 2 n → m ≡ 0 → 1 ≡ min 2 (n + 1)
hosts-first m n e none = grind (arith, e, none)

pub hosts-more : (m n : ℕ) → m ≡ min 2 n → m ≢ 0 → 2 ≡ min 2 (n + 1)
hosts-more m n e some = grind (arith, e, some)

-- the three cases of the host rule
pub host_one : (m n minor : ℕ) → m ≡ min 2 n → m ≡ 1 → (m == 1) ≡ ((n == 1) || ((minor == 0) && (n == 0)))
host_one m n minor e one = let same : n ≡ 1 = omega (arith, e, one) in rw (one, same) refl

pub host_none : (m n minor : ℕ) → m ≡ min 2 n → m ≢ 1 → minor ≡ 0 → (m == 0) ≡ ((n == 1) || ((minor == 0) && (n == 0)))
host_none m n minor e other old = grind (arith, tests, e)

pub host_new : (m n minor : ℕ) → m ≡ min 2 n → m ≢ 1 → minor ≢ 0 → (minor == 0) ≡ ((n == 1) || ((minor == 0) && (n == 0)))
host_new m n minor e other new = grind (arith, tests, e)

-- HTTP/1.0 closes; another version where it is listed
pub last_old : (minor : ℕ) (listed : Bool) → minor ≡ 0 → (minor == 0) ≡ ((minor == 0) || listed)
last_old minor listed old = rw old refl

pub last_new : (minor : ℕ) (listed test : Bool) → minor ≢ 0 → test ≡ listed → test ≡ ((minor == 0) || listed)
last_new minor listed test new same = grind (arith, tests)

-- a blank after the others goes
pub back-blank : (bytes : List ℕ) (b : ℕ) → is_optional_space b ≡ true → without_back (bytes ++ b ∷ []) ≡ without_back bytes
back-blank [] b blank = rw blank refl
back-blank (x ∷ bytes) b blank = rw (back-blank bytes b blank) refl

-- another byte stays, and so does what stands before it
some_back : (x : ℕ) (rest : List ℕ) (test : Bool) → (length rest == 0) ≡ false → cond (test && (length rest == 0)) [] (x ∷ rest) ≡ x ∷ rest
some_back x rest true some = rw some refl
some_back x rest false some = refl

not_empty : (xs : List ℕ) (b : ℕ) → (length (xs ++ b ∷ []) == 0) ≡ false
not_empty [] b = refl
not_empty (x ∷ xs) b = grind arith

pub back-other : (bytes : List ℕ) (b : ℕ) → is_optional_space b ≡ false → without_back (bytes ++ b ∷ []) ≡ bytes ++ b ∷ []
back-other [] b other = rw other refl
back-other (x ∷ bytes) b other =
    rw (back-other bytes b other) (some_back x (bytes ++ b ∷ []) (is_optional_space x) (not_empty bytes b))
