-- What one call does at its place, and what a visit's calls leave there.
use Rattle.std.proofs.Common.{◌≡◌, ◌≢◌, ℕ, ◌<◌, zero, suc, ◌-◌, List, [], ◌∷◌, ◌++◌, take, drop, length, get_or, Option, None, Some, refl, sym, ap, ◌∙◌, subst, inl, inr, arith, append-nil, get_or-set_same, get_or-set_other}
use Rattle.std.specs.Prelude.{◌⊎◌, Bool, true, false, nat_le, MatchBool, if◌then◌else◌}
use Rattle.table_store.specs.Catalog.{CatalogOf}
use Rattle.odata_http.specs.Replies.{last_reply}
use Rattle.odata_hub.specs.declared.answers.HubFault.{HubFault}
use Rattle.odata_hub.specs.declared.answers.HubFault.TheVariants.{Ended, Failed, NoMemory, NoSuchConnection}
use Rattle.odata_hub.specs.declared.answers.Turned.TheVariants.{Idle, Worked}
use Rattle.odata_hub.specs.Connections.{AddsReply, Answer, Call, ConnOf, Done, End, FlightOf, Gave, IsFed, IsTurned, Piece, Refused, Step, Take, Turn, Went, given_by, works}
use Rattle.odata_hub.specs.Schedules.{CallsOn, HubOf, HubStep, On, conn_at, hub_with}
use Rattle.odata_hub.specs.Streams.{Asked}
use Rattle.odata_rounds.specs.Leaves.{IsOneReply}

-- a call on what a place holds: nothing is there, or the connection makes one step
abbrev pub CallIs : HubOf → ℕ → Call → Answer → HubOf → Type 0
CallIs h place call answer n =
    ((conn_at h place ≡ None) × (answer ≡ Refused NoSuchConnection) × (n ≡ h))
    ⊎ ((c : ConnOf) × (d : ConnOf) × (conn_at h place ≡ Some c) × Step c call answer d × (conn_at n place ≡ Some d))

taken_within : (places : List (Option ConnOf)) (k : ℕ) (c : ConnOf) → get_or places k None ≡ Some c → k < length places
taken_within [] k c e = absurd (cc e)
taken_within (p ∷ places) zero c e = omega arith
taken_within (p ∷ places) (suc k) c e = let below : k < length places = taken_within places k c e in omega (arith, below)

pub at_same : (h : HubOf) (k : ℕ) (c : ConnOf) (o : Option ConnOf) → conn_at h k ≡ Some c → conn_at (hub_with h k o) k ≡ o
at_same h k c o e = get_or-set_same h.places k o None (taken_within h.places k c e)

pub call_is : (h n : HubOf) (place : ℕ) (call : Call) (answer : Answer) → HubStep h (On place call) answer n → CallIs h place call answer n
call_is h n place call answer s = go (conn_at h place) refl s where
  go : (o : Option ConnOf) → conn_at h place ≡ o → CallsOn h place o call answer n → CallIs h place call answer n
  go None e s = inl (e, s.0, s.1)
  go (Some c) e s = inr (c, s.next, e, s.step, ap (λ g. conn_at g place) s.new_is ∙ at_same h place c (Some s.next) e)

-- a call at one place leaves what the others hold
pub call_away : (h n : HubOf) (place other : ℕ) (call : Call) (answer : Answer) → other ≢ place → HubStep h (On place call) answer n
    → conn_at n other ≡ conn_at h other
call_away h n place other call answer away s = go (conn_at h place) s where
  go : (o : Option ConnOf) → CallsOn h place o call answer n → conn_at n other ≡ conn_at h other
  go None s = ap (λ g. conn_at g other) s.1
  go (Some c) s = ap (λ g. conn_at g other) s.new_is ∙ get_or-set_other h.places place other (Some s.next) None away

-- ---- takes

pub record Took (c : ConnOf) (count : ℕ) (bytes : List ℕ) (d : ConnOf) : Type 0 where
  pub given : bytes ≡ take count c.output
  pub left : d.output ≡ drop count c.output

pub took_is : (c d : ConnOf) (count : ℕ) (bytes : List ℕ) → Step c (Take count) (Gave bytes) d → Took c count bytes d
took_is c d count bytes (inl h) = record { given = cc (h.0); left = ap (λ (x : ConnOf). x.output) h.1 }
took_is c d count bytes (inr h) = absurd (cc (h.0))

-- ---- what no call but a take gives

given_if : (b : Bool) (x y : Answer) → given_by x ≡ [] → given_by y ≡ [] → given_by (if b then x else y) ≡ []
given_if true x y p q = p
given_if false x y p q = q

pub given_turn : (c d : ConnOf) (answer : Answer) → Step c Turn answer d → given_by answer ≡ []
given_turn c d answer (inl h) = ap given_by h.0 ∙ given_if c.failed (Refused Failed) (Went (if works c then Worked else Idle)) refl refl
given_turn c d answer (inr h) = ap given_by h.0

fed_nothing : (failed ended : Bool) → given_by (if failed then Refused Failed else (if ended then Refused Ended else Done)) ≡ []
fed_nothing failed ended =
    given_if failed (Refused Failed) (if ended then Refused Ended else Done) refl (given_if ended (Refused Ended) Done refl refl)

pub given_piece : (c d : ConnOf) (catalog : CatalogOf) (bytes : List ℕ) (answer : Answer) → Step c (Piece catalog bytes) answer d
    → given_by answer ≡ []
given_piece c d catalog bytes answer (inl h) = ap given_by h.0 ∙ fed_nothing c.failed c.ended
given_piece c d catalog bytes answer (inr h) = ap given_by h.0

pub given_end : (c d : ConnOf) (answer : Answer) → Step c End answer d → given_by answer ≡ []
given_end c d answer (inl h) = ap given_by h.0 ∙ fed_nothing c.failed c.ended
given_end c d answer (inr h) = ap given_by h.0

-- ---- turns

abbrev pub conn : List ℕ → List Asked → Option FlightOf → List ℕ → Bool → Bool → Bool → ConnOf
conn rest waiting flight output closed ended failed =
    record { rest = rest; waiting = waiting; flight = flight; output = output; closed = closed; ended = ended; failed = failed }

-- nothing is in the output, and a turn finds nothing to do
pub record IsIdle (c : ConnOf) : Type 0 where
  pub output : c.output ≡ []
  pub works : works c ≡ false
  pub failed : c.failed ≡ false

idle_conn : (rest : List ℕ) (waiting : List Asked) (flight : Option FlightOf) (output : List ℕ) (closed ended failed : Bool) (d : ConnOf)
    → output ≡ [] → Step (conn rest waiting flight output closed ended failed) Turn (Went Idle) d → IsIdle d
idle_conn rest waiting flight output closed ended failed d e (inr h) = absurd (cc (h.0))
idle_conn rest waiting flight output closed ended true d e (inl h) = absurd (cc (h.0))
idle_conn rest waiting (Some f) output closed ended false d e (inl h) = absurd (cc (h.0))
idle_conn rest (a ∷ waiting) None output closed ended false d e (inl h) = absurd (cc (h.0))
idle_conn (b ∷ rest) [] None output closed true false d e (inl h) = absurd (cc (h.0))
idle_conn [] [] None output closed true false d e (inl h) = rw h.1 (record { output = append-nil output ∙ e; works = refl; failed = refl })
idle_conn rest [] None output closed false false d e (inl h) = rw h.1 (record { output = e; works = refl; failed = refl })

pub idle_turn : (c d : ConnOf) → c.output ≡ [] → Step c Turn (Went Idle) d → IsIdle d
idle_turn c d e s = idle_conn c.rest c.waiting c.flight c.output c.closed c.ended c.failed d e s

no_reply : IsOneReply []
no_reply = inr ([], refl)

pub one_empty : (xs : List ℕ) → xs ≡ [] → IsOneReply xs
one_empty xs e = let P : List ℕ → Type 0 = λ x. IsOneReply x in subst P (sym e) no_reply

one_flight : (b : Bool) (old d : ConnOf) (f : FlightOf) → old.output ≡ []
    → MatchBool b (AddsReply old f.asked d) (d ≡ record old { flight = Some (record { asked = f.asked; left = f.left - 1 }) })
    → IsOneReply d.output
one_flight true old d f e h =
    let out : d.output ≡ h.reply = ap (λ (x : ConnOf). x.output) h.new_is ∙ ap (λ l. l ++ h.reply) e in
    let P : List ℕ → Type 0 = λ x. IsOneReply x in subst P (sym out) (inl (f.asked, h.is))
one_flight false old d f e h = one_empty d.output (ap (λ (x : ConnOf). x.output) h ∙ e)

one_conn : (rest : List ℕ) (waiting : List Asked) (flight : Option FlightOf) (output : List ℕ) (closed ended failed : Bool) (d : ConnOf) (answer : Answer)
    → output ≡ [] → Step (conn rest waiting flight output closed ended failed) Turn answer d → IsOneReply d.output
one_conn rest waiting flight output closed ended failed d answer e (inr h) = one_empty d.output (h.2.output ∙ e)
one_conn rest waiting flight output closed ended true d answer e (inl h) = one_empty d.output (ap (λ (x : ConnOf). x.output) h.1 ∙ e)
one_conn rest waiting (Some f) output closed ended false d answer e (inl h) = one_flight (nat_le f.left 1) _ d f e h.1
one_conn rest (a ∷ waiting) None output closed ended false d answer e (inl h) =
    one_empty d.output (ap (λ (x : ConnOf). x.output) h.1.new_is ∙ e)
one_conn rest [] None output closed true false d answer e (inl h) =
    let out : d.output ≡ last_reply rest = ap (λ (x : ConnOf). x.output) h.1 ∙ ap (λ l. l ++ last_reply rest) e in inr (rest, out)
one_conn rest [] None output closed false false d answer e (inl h) = one_empty d.output (ap (λ (x : ConnOf). x.output) h.1 ∙ e)

-- after a turn of a connection without output there is one reply, or none
pub one_turn : (c d : ConnOf) (answer : Answer) → c.output ≡ [] → Step c Turn answer d → IsOneReply d.output
one_turn c d answer e s = one_conn c.rest c.waiting c.flight c.output c.closed c.ended c.failed d answer e s

-- a refused turn adds nothing
refused_conn : (failed works : Bool) (fault : HubFault) → Refused fault ≡ (if failed then Refused Failed else Went (if works then Worked else Idle))
    → failed ≡ true
refused_conn true works fault e = refl
refused_conn false works fault e = absurd (cc e)

same_failed : (c d : ConnOf) (b : Bool) (X : Type 0) → b ≡ true → MatchBool b (d ≡ c) X → d ≡ c
same_failed c d true X e h = h
same_failed c d false X e h = absurd (cc e)

pub refused_turn : (c d : ConnOf) (fault : HubFault) → c.output ≡ [] → Step c Turn (Refused fault) d → (d.output ≡ []) × (d.failed ≡ true)
refused_turn c d fault e (inl h) =
    let failed = refused_conn c.failed (works c) fault h.0 in
    let same : d ≡ c = same_failed c d c.failed (IsTurned c d) failed h.1 in
    (ap (λ (x : ConnOf). x.output) same ∙ e, ap (λ (x : ConnOf). x.failed) same ∙ failed)
refused_turn c d fault e (inr h) = (h.2.output ∙ e, h.2.failed)

-- ---- pieces and ends

output_fed : (c d : ConnOf) (catalog : CatalogOf) (bytes : List ℕ) (failed ended closed : Bool)
    → MatchBool failed (d ≡ c) (MatchBool ended (d ≡ c) (MatchBool closed (d ≡ c) (IsFed c catalog bytes d))) → d.output ≡ c.output
output_fed c d catalog bytes true ended closed h = ap (λ (x : ConnOf). x.output) h
output_fed c d catalog bytes false true closed h = ap (λ (x : ConnOf). x.output) h
output_fed c d catalog bytes false false true h = ap (λ (x : ConnOf). x.output) h
output_fed c d catalog bytes false false false h = ap (λ (x : ConnOf). x.output) h.new_is

pub output_piece : (c d : ConnOf) (catalog : CatalogOf) (bytes : List ℕ) (answer : Answer) → Step c (Piece catalog bytes) answer d
    → d.output ≡ c.output
output_piece c d catalog bytes answer (inl h) = output_fed c d catalog bytes c.failed c.ended c.closed h.1
output_piece c d catalog bytes answer (inr h) = h.2.output

output_ended : (c : ConnOf) (failed ended : Bool)
    → (if failed then c else (if ended then c else record c { ended = true })).output ≡ c.output
output_ended c true ended = refl
output_ended c false true = refl
output_ended c false false = refl

pub output_end : (c d : ConnOf) (answer : Answer) → Step c End answer d → d.output ≡ c.output
output_end c d answer (inl h) = ap (λ (x : ConnOf). x.output) h.1 ∙ output_ended c c.failed c.ended
output_end c d answer (inr h) = absurd h.1

-- an idle connection at which a piece or the end was refused is as it was, or has failed
abbrev pub IsStill : ConnOf → ConnOf → HubFault → Type 0
IsStill c d fault = (d ≡ c) ⊎ ((d.failed ≡ true) × (fault ≢ Ended))

still_piece_by : (c d : ConnOf) (catalog : CatalogOf) (bytes : List ℕ) (fault : HubFault) (failed ended closed : Bool)
    → Refused fault ≡ (if failed then Refused Failed else (if ended then Refused Ended else Done))
    → MatchBool failed (d ≡ c) (MatchBool ended (d ≡ c) (MatchBool closed (d ≡ c) (IsFed c catalog bytes d))) → d ≡ c
still_piece_by c d catalog bytes fault true ended closed e h = h
still_piece_by c d catalog bytes fault false true closed e h = h
still_piece_by c d catalog bytes fault false false closed e h = absurd (cc e)

pub still_piece : (c d : ConnOf) (catalog : CatalogOf) (bytes : List ℕ) (fault : HubFault) → Step c (Piece catalog bytes) (Refused fault) d
    → IsStill c d fault
still_piece c d catalog bytes fault (inl h) = inl (still_piece_by c d catalog bytes fault c.failed c.ended c.closed h.0 h.1)
still_piece c d catalog bytes fault (inr h) = inr (h.2.failed, λ e. let f : Refused Ended ≡ Refused NoMemory = ap Refused (sym e) ∙ h.0 in absurd (cc f))

still_end_by : (c : ConnOf) (fault : HubFault) (failed ended : Bool)
    → Refused fault ≡ (if failed then Refused Failed else (if ended then Refused Ended else Done))
    → (if failed then c else (if ended then c else record c { ended = true })) ≡ c
still_end_by c fault true ended e = refl
still_end_by c fault false true e = refl
still_end_by c fault false false e = absurd (cc e)

pub still_end : (c d : ConnOf) (fault : HubFault) → Step c End (Refused fault) d → IsStill c d fault
still_end c d fault (inl h) = inl (h.1 ∙ still_end_by c fault c.failed c.ended h.0)
still_end c d fault (inr h) = absurd h.1
