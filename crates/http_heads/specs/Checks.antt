-- What a head says whatever its target is: what is wrong with it, and whether the connection closes after its reply (RFC 9110, section 9;
-- RFC 9112, sections 3.2, 6 and 9.3).
use Rattle.std.specs.Prelude.{Bool, ◌||◌, not, List, [], ◌∷◌, if◌then◌else◌, is_some, Option, None, Some}
use Rattle.http_heads.specs.declared.checks.Checks.{Checks}
use Rattle.http_heads.specs.declared.checks.HeadFault.{HeadFault}
use Rattle.http_heads.specs.declared.checks.HeadFault.TheVariants.{BadHost, NotServed, BadLength, MethodNotAllowed}
use Rattle.http_heads.specs.Head.{HeadOf}
use Rattle.http_heads.specs.Method.{method_of}
use Rattle.http_heads.specs.Fields.{host_fits, has_coding, has_no_length, asks_to_close}

-- a test, or its fault
abbrev pub fault_unless : Bool → HeadFault → Option HeadFault
fault_unless test fault = if test then None else Some fault

-- the faults of a head whatever its target is, in their order
abbrev pub head_faults : HeadOf → List (Option HeadFault)
head_faults head =
    fault_unless (host_fits head) BadHost
    ∷ fault_unless (not (has_coding head)) NotServed
    ∷ fault_unless (has_no_length head) BadLength
    ∷ fault_unless (is_some (method_of head.method)) MethodNotAllowed
    ∷ []

-- the first fault
abbrev pub first_fault : List (Option HeadFault) → Option HeadFault
first_fault [] = None
first_fault (None ∷ faults) = first_fault faults
first_fault (Some fault ∷ faults) = Some fault

-- what is wrong with a head, whatever its target is
unfoldable pub head_fault : HeadOf → Option HeadFault
head_fault head = first_fault (head_faults head)

-- The connection closes after the reply: where the client asks for it, or where it can't be told what follows the head.
unfoldable pub closes : HeadOf → Bool
closes head = not (host_fits head) || has_coding head || not (has_no_length head) || asks_to_close head

-- both
abbrev pub checks_of : HeadOf → Checks
checks_of head = record { fault = head_fault head; closes = closes head }
