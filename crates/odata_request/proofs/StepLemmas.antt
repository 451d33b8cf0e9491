-- Steps one after another: up to the first code, with one result at most.
use Rattle.std.proofs.Common.{◌≡◌, Option, Some, None, Result, Ok, Err, IsErrAnd, ap, refl, sym, ◌∙◌, subst}
use Rattle.std.specs.Prelude.{⊤}
use Rattle.odata_errors.specs.declared.code.Code.{Code}
use Rattle.odata_errors.specs.declared.code.Code.TheVariants.{BadToken}
use Rattle.odata_request.specs.declared.fault.RequestFault.{RequestFault}
use Rattle.odata_request.specs.declared.fault.RequestFault.TheVariants.{Refused, NoMemory}
use Rattle.odata_request.specs.Fault.{IsRefusedBy, TellsCause, Refuses, Yields, fault_of}
use Rattle.odata_request.specs.Reading.{◌>>=◌, IsResult, IsThere, Then, goes_on, stops, passes_unless}

-- ---- a call

-- a fault that is passed on as another is that one
pub passed_on : {T X : Type 0} (view : T → X) (R : Result X Code → Type 0) (result : Result T RequestFault) (made : RequestFault) → IsErrAnd result (λ fault. fault ≡ made)
    → Yields view R (Err made) → Yields view R result
passed_on view R (Ok tree) made h g = absurd h
passed_on view R (Err fault) made h g = subst (λ (f : RequestFault). Yields view R (Err f)) (sym h) g

-- the first step is refused, or a later one
pub stop : {X Y : Type 0} (step : Result X Code → Type 0) (next : X → Result Y Code → Type 0) (fault : RequestFault) → Refuses step fault → Refuses (step >>= next) fault
stop step next (Refused code) h = stops code h refl
stop step next NoMemory h = tt

pub go_on : {X Y : Type 0} (step : Result X Code → Type 0) (next : X → Result Y Code → Type 0) (fault : RequestFault) (x : X) → step (Ok x) → Refuses (next x) fault
    → Refuses (step >>= next) fault
go_on step next (Refused code) x s h = goes_on x s h
go_on step next NoMemory x s h = tt

-- the code of a fault that has one is reported
pub told_under : {X E : Type 0} (code : E → Option Code) (outcome : Result X E) (fault : E) → outcome ≡ Err fault → Refuses (TellsCause code outcome) (fault_of (code fault))
told_under {X} {E} code outcome fault e = subst (λ (w : Result X E). Refuses (TellsCause code w) (fault_of (code fault))) (sym e) (under (code fault))
  where
    under : (o : Option Code) → Refuses (IsRefusedBy {X = X} o) (fault_of o)
    under (Some c) = refl
    under None = tt

-- ---- what steps give

pub no_code : {X : Type 0} (x : X) (code : Code) → ◌≡◌ {A = Result X Code} (Ok x) (Err code) → ⊥
no_code x code e = cc e

pub same_value : {X : Type 0} (x y : X) → ◌≡◌ {A = Result X Code} (Ok x) (Ok y) → y ≡ x
same_value {X} x y e = sym (ap value_in e)
  where
    value_in : Result X Code → X
    value_in (Ok z) = z
    value_in (Err code) = x

pub then_ok : {X Y : Type 0} {step : Result X Code → Type 0} {next : X → Result Y Code → Type 0} {y : Y} → Then step next (Ok y) → (x : X) × step (Ok x) × next x (Ok y)
then_ok {y = y} (stops c h e) = absurd (no_code y c e)
then_ok (goes_on x h n) = (x, h, n)

pub told_ok : {X E : Type 0} (code : E → Option Code) (outcome : Result X E) (x : X) → TellsCause code outcome (Ok x) → outcome ≡ Ok x
told_ok code (Ok y) x e = ap Ok (same_value x y e)
told_ok {X} code (Err fault) x h = absurd (by (code fault) h)
  where
    by : (o : Option Code) → IsRefusedBy o (Ok x) → ⊥
    by None k = k
    by (Some c) k = no_code x c k

pub told_as : {X E : Type 0} (code : E → Option Code) (outcome : Result X E) (x : X) → outcome ≡ Ok x → TellsCause code outcome (Ok x)
told_as {X} {E} code outcome x e = subst (λ (w : Result X E). TellsCause code w (Ok x)) (sym e) refl

pub there_as : {X : Type 0} (o : Option X) (x : X) → o ≡ Some x → IsThere o (Ok x)
there_as {X} o x e = subst (λ (w : Option X). IsThere w (Ok x)) (sym e) refl

pub none_of : {X : Type 0} (o : Option X) → ((x : X) → o ≡ Some x → ⊥) → o ≡ None
none_of None h = refl
none_of (Some x) h = absurd (h x refl)

pub there_ok : {X : Type 0} (o : Option X) (x : X) → IsThere o (Ok x) → o ≡ Some x
there_ok None x h = absurd h
there_ok (Some y) x h = ap Some (same_value x y h)

pub not_under : (o : Option Code) (x : ⊤) → Ok x ≡ passes_unless o → o ≡ None
not_under None x e = refl
not_under (Some code) x e = absurd (no_code x code e)

-- ---- one result at most
abbrev pub HasOne : {X : Type 0} → (Result X Code → Type 0) → Type 0
HasOne {X} R = (r s : Result X Code) → R r → R s → r ≡ s

abbrev code_in : {X : Type 0} → Result X Code → Code
code_in (Ok x) = BadToken
code_in (Err code) = code

pub is_one : {X : Type 0} (made : Result X Code) → HasOne (IsResult made)
is_one made r s e f = e ∙ sym f

pub there_one : {X : Type 0} (o : Option X) → HasOne (IsThere o)
there_one None r s e f = absurd e
there_one (Some x) r s e f = e ∙ sym f

pub told_one : {X E : Type 0} (code : E → Option Code) (outcome : Result X E) → HasOne (TellsCause code outcome)
told_one code (Ok x) r s e f = e ∙ sym f
told_one {X} code (Err fault) r s e f = by (code fault) e f
  where
    by : (o : Option Code) → IsRefusedBy o r → IsRefusedBy o s → r ≡ s
    by None h k = absurd h
    by (Some c) h k = h ∙ sym k

pub steps_one : {X Y : Type 0} (step : Result X Code → Type 0) (next : X → Result Y Code → Type 0) → HasOne step → ((x : X) → HasOne (next x)) → HasOne (step >>= next)
steps_one step next one others r s (stops c h e) (stops d k f) = e ∙ ap (λ x. Err (code_in x)) (one (Err c) (Err d) h k) ∙ sym f
steps_one step next one others r s (stops c h e) (goes_on y k g) = absurd (no_code y c (one (Ok y) (Err c) k h))
steps_one step next one others r s (goes_on x h e) (stops d k f) = absurd (no_code x d (one (Ok x) (Err d) h k))
steps_one {X} step next one others r s (goes_on x h e) (goes_on y k f) =
    others y r s (subst (λ (z : X). next z r) (sym (same_value x y (one (Ok x) (Ok y) h k))) e) f
