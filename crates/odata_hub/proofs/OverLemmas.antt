-- A connection is over only where the takes gave all of its replies.
use Rattle.std.proofs.Common.{◌≡◌, ℕ, Bool, true, false, List, [], ◌∷◌, ◌++◌, Option, Some, None, refl, sym, ap, ap₂, subst, ◌∙◌, inl, inr, append-nil}
use Rattle.std.specs.Prelude.{MatchBool}
use Rattle.std.specs.List.{concat}
use Rattle.http_heads.specs.Checks.{closes}
use Rattle.http_heads.specs.Cut.{IsCut}
use Rattle.http_heads.specs.Head.{HeadOf}
use Rattle.http_heads.specs.Laws.{OneCut, CutsJoin}
use Rattle.odata_http.specs.Replies.{last_reply}
use Rattle.odata_hub.specs.Streams.{Asked, IsCutUnder, bytes_of, heads_of}
use Rattle.odata_hub.specs.Replies.{IsBehind}
use Rattle.odata_hub.specs.Connections.{ConnOf, FlightOf, Own, Run, fresh, input_ended, is_over, stream_of, taken_of}
use Rattle.odata_hub.specs.Laws.{IsAllTaken}
use Rattle.odata_hub.proofs.ConnLemmas.{Keeps, conn, heads_in}
use Rattle.odata_hub.proofs.RunLemmas.{Keeps-own}

record IsOver (waiting : List Asked) (flight : Option FlightOf) (output : List ℕ) (closed failed : Bool) : Type 0 where
  going : failed ≡ false
  closed_is : closed ≡ true
  flight_is : flight ≡ None
  waiting_is : waiting ≡ []
  output_is : output ≡ []

over_parts : (rest : List ℕ) (waiting : List Asked) (flight : Option FlightOf) (output : List ℕ) (closed ended failed : Bool)
    → is_over (conn rest waiting flight output closed ended failed) ≡ true → IsOver waiting flight output closed failed
over_parts rest waiting flight output closed ended true e = absurd (cc e)
over_parts rest waiting flight output false ended false e = absurd (cc e)
over_parts rest waiting (Some f) output true ended false e = absurd (cc e)
over_parts rest (a ∷ waiting) None output true ended false e = absurd (cc e)
over_parts rest [] None (b ∷ output) true ended false e = absurd (cc e)
over_parts rest [] None [] true ended false e = record { going = refl; closed_is = refl; flight_is = refl; waiting_is = refl; output_is = refl }

-- after a closing head nothing is kept of a stream
left_by : (b : Bool) (more : List ℕ) (heads : List HeadOf) (rest : List ℕ) → (IsCut more heads rest true → rest ≡ [])
    → MatchBool b ((heads ≡ []) × (rest ≡ []) × (true ≡ true)) (IsCut more heads rest true) → rest ≡ []
left_by true more heads rest later h = h.1
left_by false more heads rest later h = later h

pub none_left : (stream : List ℕ) (heads : List HeadOf) (rest : List ℕ) → IsCut stream heads rest true → rest ≡ []
none_left stream [] rest c = let bad : true ≡ false = c.1 in absurd (cc bad)
none_left stream (head ∷ heads) rest c = left_by (closes head) c.0 heads rest (none_left c.0 heads rest) c.2

none_behind : (ended : Bool) (others : List Asked) (rest behind : List ℕ) → rest ≡ [] → IsBehind ended others rest behind → behind ≡ []
none_behind ended others rest behind e (inl none) = none
none_behind ended others rest behind e (inr x) = x.2 ∙ ap last_reply e

pub over_taken : OneCut → CutsJoin → (c : ConnOf) (os : List Own) → Run fresh os c → is_over c ≡ true → IsAllTaken os
over_taken cuts joins c os r over =
    let k : Keeps c (stream_of os) (input_ended os) (taken_of os) = Keeps-own cuts joins c os r in
    let is = over_parts c.rest c.waiting c.flight c.output c.closed c.ended c.failed over in
    let shut : k.shut ≡ true = sym (k.closed is.going) ∙ is.closed_is in
    let none : k.others ≡ [] =
    sym (k.owes is.going) ∙ ap₂ (λ (f : Option FlightOf) (w : List Asked). heads_in f ++ w) is.flight_is is.waiting_is in
    let A : List Asked → Type 0 = λ hs. IsCutUnder (stream_of os) hs k.left k.shut in
    let S : Bool → Type 0 = λ b. IsCutUnder (stream_of os) k.answered k.left b in
    let L : List ℕ → Type 0 = λ l. IsCutUnder (stream_of os) k.answered l true in
    let cut : IsCutUnder (stream_of os) k.answered k.left true =
    subst S shut (subst A (ap (λ (hs : List Asked). k.answered ++ hs) none ∙ append-nil k.answered) k.cut) in
    let left : k.left ≡ [] = none_left (bytes_of (stream_of os)) (heads_of k.answered) k.left cut.cut in
    let behind : k.behind ≡ [] = none_behind (input_ended os) k.others k.left k.behind left k.behind_is in
    record {
      heads = k.answered;
      cut = subst L left cut;
      each = k.each;
      are = k.are;
      taken = sym (append-nil (taken_of os)) ∙ ap (λ (l : List ℕ). taken_of os ++ l) (sym is.output_is) ∙ k.all
          ∙ ap (λ (b : List ℕ). concat k.each ++ b) behind ∙ append-nil (concat k.each);
    }
