-- The first cause of a walk, and what a call of the code gives of it.
use Rattle.std.specs.Prelude.{◌≡◌, Result, Ok, Err}
use Rattle.odata_types.specs.declared.fault.TypeFault.{TypeFault}
use Rattle.odata_types.specs.declared.fault.TypeFault.TheVariants.{NoMemory}

-- one step after another, up to the first cause
infixl 10 ◌>>=◌
abbrev pub ◌>>=◌ : {A B : Type 0} → Result A TypeFault → (A → Result B TypeFault) → Result B TypeFault
(Ok x) >>= f = f x
(Err e) >>= f = Err e

-- a cause is reported just where it is the cause; out of memory is none
abbrev pub IsCause : {X : Type 0} → TypeFault → Result X TypeFault → Type 0
IsCause NoMemory r = Unit {0}
IsCause e r = r ≡ Err e

-- a call gives what the walk gives, seen by a view, unless memory ran out
abbrev pub Gives : {T X : Type 0} → (T → X) → Result X TypeFault → Result T TypeFault → Type 0
Gives view walk (Ok x) = walk ≡ Ok (view x)
Gives view walk (Err e) = IsCause e walk
