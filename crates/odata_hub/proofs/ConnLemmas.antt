-- What a connection was given, what waits in its output and what it still owes are together the replies of its stream.
use Rattle.std.proofs.Common.{◌≡◌, ◌⊎◌, ℕ, Bool, true, false, List, [], ◌∷◌, ◌++◌, Option, Some, None, refl, sym, ap, subst, ◌∙◌, inl, inr, append_assoc, append-nil}
use Rattle.std.specs.Prelude.{◌||◌}
use Rattle.std.specs.List.{AllZip, concat}
use Rattle.std.proofs.Math.Bool.{or-false}
use Rattle.table_store.specs.Catalog.{CatalogOf}
use Rattle.http_heads.specs.Cut.{IsCut}
use Rattle.http_heads.specs.Laws.{OneCut, CutsJoin}
use Rattle.odata_http.specs.Replies.{last_reply}
use Rattle.odata_hub.specs.Streams.{Came, Asked, asked, IsCutUnder}
use Rattle.odata_hub.specs.Replies.{IsReplyTo, IsBehind}
use Rattle.odata_hub.specs.Connections.{ConnOf, FlightOf, fresh, IsFed, IsFailed}
use Rattle.odata_hub.proofs.StreamLemmas.{cut_nothing, joins_under}

-- the head of the exchange in flight
abbrev pub heads_in : Option FlightOf → List Asked
heads_in None = []
heads_in (Some f) = f.asked ∷ []

-- What is left of a stream that ended: the reply to it is still to come, or it was added.
abbrev pub IsLeft : List ℕ → List ℕ → List ℕ → Type 0
IsLeft rest left behind = ((rest ≡ left) × (behind ≡ [])) ⊎ ((rest ≡ []) × (behind ≡ last_reply left))

-- the connection stands where this stream, its end and these bytes taken lead to
pub record Keeps (c : ConnOf) (stream : List Came) (ended : Bool) (taken : List ℕ) : Type 0 where
  pub answered : List Asked
  pub others : List Asked
  pub left : List ℕ
  pub shut : Bool
  pub cut : IsCutUnder stream (answered ++ others) left shut
  pub each : List (List ℕ)
  pub are : AllZip IsReplyTo answered each
  pub behind : List ℕ
  pub behind_is : IsBehind ended others left behind
  pub all : taken ++ c.output ≡ concat each ++ behind
  pub owes : c.failed ≡ false → heads_in c.flight ++ c.waiting ≡ others
  pub rest : c.failed ≡ false → ended ≡ false → c.rest ≡ left
  pub closed : c.failed ≡ false → c.closed ≡ shut
  pub ended_is : c.failed ≡ false → c.ended ≡ ended
  pub rests : c.failed ≡ false → ended ≡ true → IsLeft c.rest left behind

pub Keeps-fresh : OneCut → Keeps fresh [] false []
Keeps-fresh cuts = record {
  answered = [];
  others = [];
  left = [];
  shut = false;
  cut = cut_nothing cuts;
  each = [];
  are = tt;
  behind = [];
  behind_is = inl refl;
  all = refl;
  owes = λ _. refl;
  rest = λ _ _. refl;
  closed = λ _. refl;
  ended_is = λ _. refl;
  rests = λ _ e. absurd (cc e);
}

-- a call that is refused
pub Keeps-same : (c : ConnOf) (s : List Came) (e : Bool) (t : List ℕ) → Keeps c s e t → Keeps c (s ++ []) (e || false) (t ++ [])
Keeps-same c s e t k = rw (append-nil s, or-false e, append-nil t) k

-- out of memory
pub Keeps-failed : (c d : ConnOf) (s : List Came) (e : Bool) (t : List ℕ) → IsFailed c d → Keeps c s e t → Keeps d (s ++ []) (e || false) (t ++ [])
Keeps-failed c d s e t f k =
    let failed : Keeps d s e t = record {
      answered = k.answered;
      others = k.others;
      left = k.left;
      shut = k.shut;
      cut = k.cut;
      each = k.each;
      are = k.are;
      behind = k.behind;
      behind_is = k.behind_is;
      all = rw f.output k.all;
      owes = λ h. absurd (cc (f.failed));
      rest = λ h _. absurd (cc (f.failed));
      closed = λ h. absurd (cc (f.failed));
      ended_is = λ h. absurd (cc (f.failed));
      rests = λ h _. absurd (cc (f.failed));
    } in
    Keeps-same d s e t failed

abbrev pub conn : List ℕ → List Asked → Option FlightOf → List ℕ → Bool → Bool → Bool → ConnOf
conn rest waiting flight output closed ended failed =
    record { rest = rest; waiting = waiting; flight = flight; output = output; closed = closed; ended = ended; failed = failed }

-- no reply to a rest is there before the end
none_behind : (others : List Asked) (left behind : List ℕ) → IsBehind false others left behind → behind ≡ []
none_behind others left behind (inl none) = none
none_behind others left behind (inr x) = absurd (cc (x.0))

-- a piece that is taken
pub Keeps-piece_open : CutsJoin → (rest : List ℕ) (waiting : List Asked) (flight : Option FlightOf) (output : List ℕ) (catalog : CatalogOf)
    (bytes : List ℕ) (d : ConnOf) (s : List Came) (t : List ℕ) → IsFed (conn rest waiting flight output false false false) catalog bytes d
    → Keeps (conn rest waiting flight output false false false) s false t
    → Keeps d (s ++ record { catalog = catalog; bytes = bytes } ∷ []) false (t ++ [])
Keeps-piece_open joins rest waiting flight output catalog bytes d s t f k =
    let piece : Came = record { catalog = catalog; bytes = bytes } in
    let more : List Asked = asked catalog f.heads in
    let C : Bool → Type 0 = λ b. IsCutUnder s (k.answered ++ k.others) k.left b in
    let R : List ℕ → Type 0 = λ x. IsCut (x ++ bytes) f.heads f.rest f.closed in
    let A : List Asked → Type 0 = λ hs. IsCutUnder (s ++ piece ∷ []) hs f.rest f.closed in
    let cut = (joins_under joins).follows s (k.answered ++ k.others) k.left piece f.heads f.rest f.closed
    (subst C (sym (k.closed refl)) k.cut) (subst R (k.rest refl refl) f.cut) in
    let new : Keeps (conn f.rest (waiting ++ more) flight output f.closed false false) (s ++ piece ∷ []) false (t ++ []) = record {
      answered = k.answered;
      others = k.others ++ more;
      left = f.rest;
      shut = f.closed;
      cut = subst A (append_assoc k.answered k.others more) cut;
      each = k.each;
      are = k.are;
      behind = k.behind;
      behind_is = inl (none_behind k.others k.left k.behind k.behind_is);
      all = rw (append-nil t) k.all;
      owes = λ _. sym (append_assoc (heads_in flight) waiting more) ∙ ap (λ (hs : List Asked). hs ++ more) (k.owes refl);
      rest = λ _ _. refl;
      closed = λ _. refl;
      ended_is = λ _. refl;
      rests = λ _ e. absurd (cc e);
    } in
    rw f.new_is new

-- a piece after a closing head changes nothing
pub Keeps-piece_closed : CutsJoin → (rest : List ℕ) (waiting : List Asked) (flight : Option FlightOf) (output : List ℕ) (piece : Came)
    (s : List Came) (t : List ℕ) → Keeps (conn rest waiting flight output true false false) s false t
    → Keeps (conn rest waiting flight output true false false) (s ++ piece ∷ []) false (t ++ [])
Keeps-piece_closed joins rest waiting flight output piece s t k =
    let C : Bool → Type 0 = λ b. IsCutUnder s (k.answered ++ k.others) k.left b in
    record {
      answered = k.answered;
      others = k.others;
      left = k.left;
      shut = true;
      cut = (joins_under joins).closed s (k.answered ++ k.others) k.left piece (subst C (sym (k.closed refl)) k.cut);
      each = k.each;
      are = k.are;
      behind = k.behind;
      behind_is = k.behind_is;
      all = rw (append-nil t) k.all;
      owes = λ _. k.owes refl;
      rest = λ _ _. k.rest refl refl;
      closed = λ _. refl;
      ended_is = λ _. refl;
      rests = λ _ e. absurd (cc e);
    }

-- the end
pub Keeps-end : (rest : List ℕ) (waiting : List Asked) (flight : Option FlightOf) (output : List ℕ) (closed : Bool) (s : List Came) (t : List ℕ)
    → Keeps (conn rest waiting flight output closed false false) s false t
    → Keeps (conn rest waiting flight output closed true false) (s ++ []) true (t ++ [])
Keeps-end rest waiting flight output closed s t k =
    let none : k.behind ≡ [] = none_behind k.others k.left k.behind k.behind_is in
    rw (append-nil s, append-nil t) (record {
      answered = k.answered;
      others = k.others;
      left = k.left;
      shut = k.shut;
      cut = k.cut;
      each = k.each;
      are = k.are;
      behind = k.behind;
      behind_is = inl none;
      all = k.all;
      owes = λ _. k.owes refl;
      rest = λ _ e. absurd (cc e);
      closed = λ _. k.closed refl;
      ended_is = λ _. refl;
      rests = λ _ _. inl (k.rest refl refl, none);
    })
