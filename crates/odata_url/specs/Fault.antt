-- Reading with the first fault that is met.
use Rattle.std.specs.Prelude.{◌≡◌, ◌⊎◌, List, [], ◌∷◌, Result, Ok, Err}
use Rattle.odata_url.specs.declared.fault.UrlFault.{UrlFault}
use Rattle.odata_url.specs.declared.fault.UrlFault.TheVariants.{NoMemory}

infixl 10 ◌>>=◌
abbrev pub ◌>>=◌ : {A B : Type 0} → Result A UrlFault → (A → Result B UrlFault) → Result B UrlFault
(Ok value) >>= next = next value
(Err fault) >>= next = Err fault

-- what each text reads as, in order, or the first fault
abbrev pub each : {A B : Type 0} → (A → Result B UrlFault) → List A → Result (List B) UrlFault
each read [] = Ok []
each read (text ∷ texts) = do
  value ← read text
  values ← each read texts
  Ok (value ∷ values)

-- A call that was to give this answer gave it, its value seen by view; or memory ran out.
abbrev pub GivesPart : {X Y : Type 0} → (X → Y) → Result Y UrlFault → Result X UrlFault → Type 0
GivesPart view answer (Ok value) = answer ≡ Ok (view value)
GivesPart view answer (Err fault) = (fault ≡ NoMemory) ⊎ (answer ≡ Err fault)
