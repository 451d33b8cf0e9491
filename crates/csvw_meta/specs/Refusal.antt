-- The conditions on metadata, and the first that fails.
use Rattle.std.specs.Prelude.{◌≡◌, Bool, List, [], ◌∷◌, ◌++◌, Option, None, Some, Result, Ok, Err, ⊤, IfSome, if◌then◌else◌}
use Rattle.serde_json.specs.Data.{Data}
use Rattle.csvw_meta.specs.declared.fault.MetaFault.{MetaFault}
use Rattle.csvw_meta.specs.declared.refusal.Refusal.{Refusal}
use Rattle.csvw_meta.specs.declared.refusal.Refusal.TheVariants.{Unsupported, Fault}
use Rattle.csvw_meta.specs.Fault.{MetaCause, fault_cause, unsupported, meta_cause}

-- A condition is met, or fails with its cause.
abbrev pub Condition : Type 0
Condition = Option MetaCause

-- the test is true
abbrev pub ensure : Bool → MetaCause → Condition
ensure test cause = if test then None else Some cause

-- the cause of the first condition that fails
abbrev pub first_cause : List Condition → Option MetaCause
first_cause [] = None
first_cause (None ∷ conditions) = first_cause conditions
first_cause (Some cause ∷ conditions) = Some cause

-- the conditions on values one after another, each after the earlier ones
abbrev pub each_conditions : (List Data → Data → List Condition) → List Data → List Data → List Condition
each_conditions conditions earlier [] = []
each_conditions conditions earlier (d ∷ ds) = conditions earlier d ++ each_conditions conditions (earlier ++ d ∷ []) ds

-- the cause that a refusal is
abbrev pub refusal_cause : Refusal → MetaCause
refusal_cause (Unsupported key) = unsupported key.now
refusal_cause (Fault fault) = fault_cause fault

-- what the outcome of a check says of its condition
abbrev pub condition_of : Result ⊤ Refusal → Condition
condition_of (Ok met) = None
condition_of (Err refusal) = Some (refusal_cause refusal)

-- the fault of a refusal; of what is not served it can be that memory ran out, for its name is copied
abbrev pub IsFaultOf : Refusal → MetaFault → Type 0
IsFaultOf (Unsupported key) fault = IfSome (meta_cause fault) (λ cause. cause ≡ unsupported key.now)
IsFaultOf (Fault told) fault = fault ≡ told
