-- Bytes that are known, consumed and appended.
use Rattle.std.proofs.Common.{◌≡◌, ℕ, List, [], Option, None, Some, sym, ap, ◌∙◌, append-nil}
use Rattle.std.specs.Io.KnownBytes.{Appends, Consumes, IsAtEnd, Keeps}
use Rattle.odata_rounds.specs.Visits.{IsReadOut}

pub consumes_none : (a b : Option (List ℕ)) → b ≡ a → Consumes a b []
consumes_none None b e = tt
consumes_none (Some xs) None e = absurd (cc e)
consumes_none (Some xs) (Some ys) e = cc e

pub keeps_consumes : (a b : Option (List ℕ)) → Keeps a b → Consumes a b []
keeps_consumes None b e = tt
keeps_consumes (Some xs) None e = absurd e
keeps_consumes (Some xs) (Some ys) e = sym e

pub keeps_appends : (a b : Option (List ℕ)) → Keeps a b → Appends a b []
keeps_appends None b e = tt
keeps_appends (Some xs) None e = absurd e
keeps_appends (Some xs) (Some ys) e = e ∙ sym (append-nil xs)

-- all that was reported as left was consumed
pub read_out : (a b : Option (List ℕ)) (xs : List ℕ) → Consumes a b xs → IsAtEnd b → IsReadOut a b
read_out None b xs p e = tt
read_out (Some x) None xs p e = absurd p
read_out (Some x) (Some y) xs p e = ap Some e
