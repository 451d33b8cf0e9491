-- What a turn adds to the output of a connection, and what is taken of it, leave the replies of its stream as they are.
use Rattle.std.proofs.Common.{◌≡◌, ℕ, ◌-◌, Bool, true, false, List, [], ◌∷◌, ◌++◌, take, drop, Option, Some, None, refl, sym, ap, subst, ◌∙◌, inl, inr, append_assoc, append-nil}
use Rattle.std.specs.Prelude.{◌||◌, nat_le}
use Rattle.std.specs.List.{concat}
use Rattle.std.proofs.lemmas.List.{take-append-drop}
use Rattle.std.proofs.lemmas.List.Folds.{concat-append}
use Rattle.std.proofs.Math.Bool.{or-false}
use Rattle.odata_http.specs.Replies.{last_reply}
use Rattle.http_heads.proofs.ListLaws.{AllZip-append}
use Rattle.http_heads.proofs.CaseLaws.{MatchBool_elim}
use Rattle.odata_hub.specs.Streams.{Came, Asked, IsCutUnder}
use Rattle.odata_hub.specs.Replies.{IsReplyTo, IsBehind}
use Rattle.odata_hub.specs.Connections.{ConnOf, FlightOf, IsTurnedBy}
use Rattle.odata_hub.proofs.ConnLemmas.{Keeps, conn, heads_in}

-- no reply to a rest is there while a head is not answered
none_before : (ended : Bool) (others : List Asked) (left behind : List ℕ) (a : Asked) (more : List Asked) → a ∷ more ≡ others
    → IsBehind ended others left behind → behind ≡ []
none_before ended others left behind a more e (inl none) = none
none_before ended others left behind a more e (inr x) = absurd (cc (e, x.1))

-- one more reply in the output
one_more : (t o r b : List ℕ) (each : List (List ℕ)) → b ≡ [] → t ++ o ≡ concat each ++ b → t ++ (o ++ r) ≡ concat (each ++ r ∷ []) ++ b
one_more t o r b each none all =
    let before : t ++ o ≡ concat each = all ∙ ap (λ (x : List ℕ). concat each ++ x) none ∙ append-nil (concat each) in
    let last : concat (each ++ r ∷ []) ≡ concat each ++ r =
    concat-append each (r ∷ []) ∙ ap (λ (x : List ℕ). concat each ++ x) (append-nil r) in
    sym (append_assoc t o r) ∙ ap (λ (x : List ℕ). x ++ r) before ∙ sym last ∙ sym (append-nil (concat (each ++ r ∷ [])))
    ∙ ap (λ (x : List ℕ). concat (each ++ r ∷ []) ++ x) (sym none)

-- the reply to the head in flight
Keeps-reply : (f : FlightOf) (waiting : List Asked) (ended : Bool) (rest output : List ℕ) (closed : Bool) (s : List Came) (t reply : List ℕ)
    → IsReplyTo f.asked reply → Keeps (conn rest waiting (Some f) output closed ended false) s ended t
    → Keeps (conn rest waiting None (output ++ reply) closed ended false) s ended t
Keeps-reply f waiting ended rest output closed s t reply is k =
    let none : k.behind ≡ [] = none_before ended k.others k.left k.behind f.asked waiting (k.owes refl) k.behind_is in
    let A : List Asked → Type 0 = λ hs. IsCutUnder s hs k.left k.shut in
    let heads : k.answered ++ k.others ≡ (k.answered ++ f.asked ∷ []) ++ waiting =
    ap (λ (hs : List Asked). k.answered ++ hs) (sym (k.owes refl)) ∙ sym (append_assoc k.answered (f.asked ∷ []) waiting) in
    record {
      answered = k.answered ++ f.asked ∷ [];
      others = waiting;
      left = k.left;
      shut = k.shut;
      cut = subst A heads k.cut;
      each = k.each ++ reply ∷ [];
      are = AllZip-append IsReplyTo k.answered k.each (f.asked ∷ []) (reply ∷ []) k.are (is, tt);
      behind = k.behind;
      behind_is = inl none;
      all = one_more t output reply k.behind k.each none k.all;
      owes = λ _. refl;
      rest = λ _. k.rest refl;
      closed = λ _. k.closed refl;
      ended_is = λ _. refl;
      rests = λ _. k.rests refl;
    }

-- the reply to the rest
Keeps-last : (rest output : List ℕ) (closed : Bool) (s : List Came) (t : List ℕ) → Keeps (conn rest [] None output closed true false) s true t
    → Keeps (conn [] [] None (output ++ last_reply rest) closed true false) s true t
Keeps-last rest output closed s t k = elim (k.rests refl refl) [
  | inl x ↦ record {
    answered = k.answered;
    others = k.others;
    left = k.left;
    shut = k.shut;
    cut = k.cut;
    each = k.each;
    are = k.are;
    behind = last_reply rest;
    behind_is = inr (refl, sym (k.owes refl), ap last_reply x.0);
    all =
        sym (append_assoc t output (last_reply rest))
        ∙ ap (λ (y : List ℕ). y ++ last_reply rest) (k.all ∙ ap (λ (y : List ℕ). concat k.each ++ y) x.1 ∙ append-nil (concat k.each));
    owes = λ _. k.owes refl;
    rest = λ _ e. absurd (cc e);
    closed = λ _. k.closed refl;
    ended_is = λ _. refl;
    rests = λ _ _. inr (refl, ap last_reply x.0);
  }
  | inr x ↦ record {
    answered = k.answered;
    others = k.others;
    left = k.left;
    shut = k.shut;
    cut = k.cut;
    each = k.each;
    are = k.are;
    behind = k.behind;
    behind_is = k.behind_is;
    all =
        ap (λ (y : List ℕ). t ++ (output ++ last_reply y)) x.0 ∙ ap (λ (y : List ℕ). t ++ y) (append-nil output) ∙ k.all;
    owes = λ _. k.owes refl;
    rest = λ _ e. absurd (cc e);
    closed = λ _. k.closed refl;
    ended_is = λ _. refl;
    rests = λ _ _. inr (refl, x.1);
  }
]

-- an exchange in flight with other calls left, or one that began
Keeps-flight : (flight next : Option FlightOf) (waiting others : List Asked) (ended : Bool) (rest output : List ℕ) (closed : Bool) (s : List Came)
    (t : List ℕ) → heads_in next ++ others ≡ heads_in flight ++ waiting → Keeps (conn rest waiting flight output closed ended false) s ended t
    → Keeps (conn rest others next output closed ended false) s ended t
Keeps-flight flight next waiting others ended rest output closed s t same k = record {
  answered = k.answered;
  others = k.others;
  left = k.left;
  shut = k.shut;
  cut = k.cut;
  each = k.each;
  are = k.are;
  behind = k.behind;
  behind_is = k.behind_is;
  all = k.all;
  owes = λ _. same ∙ k.owes refl;
  rest = λ _. k.rest refl;
  closed = λ _. k.closed refl;
  ended_is = λ _. refl;
  rests = λ _. k.rests refl;
}

-- a turn
pub Keeps-turn : (flight : Option FlightOf) (waiting : List Asked) (ended : Bool) (rest output : List ℕ) (closed : Bool) (d : ConnOf) (s : List Came)
    (t : List ℕ) → IsTurnedBy (conn rest waiting flight output closed ended false) flight waiting ended rest d
    → Keeps (conn rest waiting flight output closed ended false) s ended t → Keeps d s ended t
Keeps-turn (Some f) waiting ended rest output closed d s t h k = MatchBool_elim (nat_le f.left 1)
    (λ x. rw x.new_is (Keeps-reply f waiting ended rest output closed s t x.reply x.is k))
    (λ x. rw x (Keeps-flight (Some f) (Some (record { asked = f.asked; left = f.left - 1 })) waiting waiting ended rest output closed s t refl k))
    h
Keeps-turn None (a ∷ waiting) ended rest output closed d s t h k =
    rw h.new_is (Keeps-flight None (Some (record { asked = a; left = h.calls })) (a ∷ waiting) waiting ended rest output closed s t refl k)
Keeps-turn None [] true rest output closed d s t h k = rw h (Keeps-last rest output closed s t k)
Keeps-turn None [] false rest output closed d s t h k = rw h k

-- a take
pub Keeps-take : (c : ConnOf) (room : ℕ) (s : List Came) (e : Bool) (t : List ℕ) → Keeps c s e t
    → Keeps (record c { output = drop room c.output }) (s ++ []) (e || false) (t ++ take room c.output)
Keeps-take c room s e t k =
    rw (append-nil s, or-false e) (record {
      answered = k.answered;
      others = k.others;
      left = k.left;
      shut = k.shut;
      cut = k.cut;
      each = k.each;
      are = k.are;
      behind = k.behind;
      behind_is = k.behind_is;
      all = rw (append_assoc t (take room c.output) (drop room c.output), take-append-drop room c.output) k.all;
      owes = k.owes;
      rest = k.rest;
      closed = k.closed;
      ended_is = k.ended_is;
      rests = k.rests;
    })
