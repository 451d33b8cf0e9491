-- Reading texts in order.
use Rattle.std.proofs.Common.{◌≡◌, ◌⊎◌, inl, inr, List, ◌∷◌, ◌++◌, Result, Ok, Err}
use Rattle.odata_url.specs.declared.fault.UrlFault.{UrlFault}
use Rattle.odata_url.specs.declared.fault.UrlFault.TheVariants.{NoMemory}
use Rattle.odata_url.specs.Fault.{each}

-- these values, and those that are still to be read
abbrev pub onto : {B : Type 0} → List B → Result (List B) UrlFault → Result (List B) UrlFault
onto values (Ok more) = Ok (values ++ more)
onto values (Err fault) = Err fault

-- a text has a fault
pub each_fault : {A B : Type 0} (read : A → Result B UrlFault) (text : A) (texts : List A) (values : List B) (fault : UrlFault) → read text ≡ Err fault → onto values (each read (text ∷ texts)) ≡ Err fault
each_fault read text texts values fault bad = rw bad

-- what a part has wrong, the whole has
pub fault_of_part : {A B : Type 0} (fault : UrlFault) (part : Result A UrlFault) (whole : Result B UrlFault) → (part ≡ Err fault → whole ≡ Err fault) → (fault ≡ NoMemory) ⊎ (part ≡ Err fault) → (fault ≡ NoMemory) ⊎ (whole ≡ Err fault)
fault_of_part fault part whole passes (inl memory) = inl memory
fault_of_part fault part whole passes (inr bad) = inr (passes bad)
