-- The first cause of conditions after others.
use Rattle.std.proofs.Common.{◌≡◌, ◌<◌, ℕ, ◌+◌, List, [], ◌∷◌, ◌++◌, map, length, take, drop, get_or, None, Some, refl}
use Rattle.std.proofs.lemmas.List.{take_more, drop_more, map-append}
use Rattle.serde_json.specs.Data.{Data}
use Rattle.serde_json.specs.View.{view}
use Rattle.serde_json.specs.declared.value.Value.{Value}
use Rattle.csvw_meta.specs.Fault.{MetaCause}
use Rattle.csvw_meta.specs.Refusal.{Condition, first_cause, each_conditions}

-- of one condition
pub first_cause-one : (x : Condition) → x ≡ first_cause (x ∷ [])
first_cause-one None = refl
first_cause-one (Some cause) = refl

-- the first of both
abbrev pub first_of_both : Condition → Condition → Condition
first_of_both None d = d
first_of_both (Some cause) d = Some cause

-- of conditions and others after them
pub first_cause-append : (xs ys : List Condition) → first_cause (xs ++ ys) ≡ first_of_both (first_cause xs) (first_cause ys)
first_cause-append [] ys = refl
first_cause-append (None ∷ xs) ys = first_cause-append xs ys
first_cause-append (Some f ∷ xs) ys = refl

-- what chains of conditions need
pub ruleset conditions = (first_cause-append)

-- the conditions on the values from the i-th on
abbrev pub conditions_from : (List Data → Data → List Condition) → List Value → ℕ → List Condition
conditions_from conditions vs i = each_conditions conditions (map view (take i vs)) (map view (drop i vs))

-- they are those on the i-th value, and those from the next on
conditions_from-next : (conditions : List Data → Data → List Condition) (vs : List Value) (i : ℕ) (v : Value) → i < length vs → get_or vs i v ≡ v
    → conditions_from conditions vs i ≡ conditions (map view (take i vs)) (view v) ++ conditions_from conditions vs (i + 1)
conditions_from-next conditions vs i v h e = rw (drop_more vs i v h, take_more vs i v h, e) (rw (map-append view (take i vs) (v ∷ [])) refl)

-- where the values so far meet their conditions and the i-th does not, its cause is that of all
pub conditions_from-failed : (conditions : List Data → Data → List Condition) (vs : List Value) (i : ℕ) (v : Value) (cause : MetaCause) → i < length vs → get_or vs i v ≡ v
    → first_cause (conditions_from conditions vs 0) ≡ first_cause (conditions_from conditions vs i)
    → Some cause ≡ first_cause (conditions (map view (take i vs)) (view v))
    → Some cause ≡ first_cause (conditions_from conditions vs 0)
conditions_from-failed conditions vs i v cause h e met f =
    rw (met, conditions_from-next conditions vs i v h e, first_cause-append (conditions (map view (take i vs)) (view v)) (conditions_from conditions vs (i + 1)), ← f) refl

-- where they and the i-th do, those left decide
pub conditions_from-met : (conditions : List Data → Data → List Condition) (vs : List Value) (i : ℕ) (v : Value) → i < length vs → get_or vs i v ≡ v
    → first_cause (conditions_from conditions vs 0) ≡ first_cause (conditions_from conditions vs i)
    → None ≡ first_cause (conditions (map view (take i vs)) (view v))
    → first_cause (conditions_from conditions vs 0) ≡ first_cause (conditions_from conditions vs (i + 1))
conditions_from-met conditions vs i v h e met f =
    rw (met, conditions_from-next conditions vs i v h e, first_cause-append (conditions (map view (take i vs)) (view v)) (conditions_from conditions vs (i + 1)), ← f) refl
