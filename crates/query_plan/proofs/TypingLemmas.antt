-- What holds of a value that a walk tells.
use Rattle.std.proofs.Common.{◌≡◌, inl, inr, ℕ, ◌≤◌, Result, Ok, Err, refl}
use Rattle.std.specs.Prelude.{nat_le}
use Rattle.std.proofs.lemmas.Bool.{cases_Bool, leb-true}
use Rattle.odata_types.specs.declared.fault.TypeFault.{TypeFault}
use Rattle.odata_types.specs.declared.types.TheConstants.{MOST_SIZE}
use Rattle.odata_types.specs.Result.{◌>>=◌}
use Rattle.odata_types.specs.Typing.{within}

abbrev pub Told : {X : Type 0} → (X → Type 0) → Result X TypeFault → Type 0
Told P (Ok x) = P x
Told P (Err e) = Unit {0}

pub told_then : {X Y : Type 0} (P : X → Type 0) (Q : Y → Type 0) (r : Result X TypeFault) (f : X → Result Y TypeFault) → Told P r → ((x : X) → P x → Told Q (f x)) → Told Q (r >>= f)
told_then P Q (Ok x) f h k = k x h
told_then P Q (Err e) f h k = tt

pub told_any : {X : Type 0} (r : Result X TypeFault) → Told (λ _. Unit {0}) r
told_any (Ok x) = tt
told_any (Err e) = tt

pub told_self : {X : Type 0} (r : Result X TypeFault) → Told (λ x. r ≡ Ok x) r
told_self (Ok x) = refl
told_self (Err e) = tt

pub told_both : {X : Type 0} (P Q : X → Type 0) (r : Result X TypeFault) → Told P r → Told Q r → Told (λ x. P x × Q x) r
told_both P Q (Ok x) h k = (h, k)
told_both P Q (Err e) h k = tt

pub told_within : {X : Type 0} (P : X → Type 0) (size : ℕ) (x : X) → (size ≤ MOST_SIZE → P x) → Told P (within size x)
told_within P size x h = elim (cases_Bool (nat_le size MOST_SIZE)) [ inl e ↦ rw e (h (leb-true size MOST_SIZE e)) | inr e ↦ rw e tt ]
