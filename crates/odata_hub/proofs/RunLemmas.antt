-- A connection stands where its calls lead to.
use Rattle.std.proofs.Common.{ℕ, Bool, true, false, List, [], ◌∷◌, ◌++◌, Option, refl, subst, inl, inr, append_assoc}
use Rattle.std.specs.Prelude.{◌||◌}
use Rattle.std.proofs.Math.Bool.{or_assoc}
use Rattle.table_store.specs.Catalog.{CatalogOf}
use Rattle.http_heads.specs.Laws.{OneCut, CutsJoin}
use Rattle.odata_hub.specs.declared.answers.HubFault.TheVariants.{NoMemory}
use Rattle.odata_hub.specs.Streams.{Came, Asked}
use Rattle.odata_hub.specs.Connections.{ConnOf, FlightOf, fresh, Call, Piece, End, Turn, Take, Answer, Refused, IsAfter, answer_to, IsFailed, Step, Own, Run, came_with, stream_of, given_by, taken_of, ends_with, input_ended}
use Rattle.odata_hub.proofs.ConnLemmas.{Keeps, Keeps-end, Keeps-failed, Keeps-fresh, Keeps-piece_closed, Keeps-piece_open, Keeps-same, conn}
use Rattle.odata_hub.proofs.TurnLemmas.{Keeps-take, Keeps-turn}

-- where memory lasts
Keeps-piece : CutsJoin → (rest : List ℕ) (waiting : List Asked) (flight : Option FlightOf) (output : List ℕ) (closed ended : Bool)
    (catalog : CatalogOf) (bytes : List ℕ) (d : ConnOf) (s : List Came) (t : List ℕ)
    → let c : ConnOf = conn rest waiting flight output closed ended false in let a : Answer = answer_to c (Piece catalog bytes) in
    IsAfter c (Piece catalog bytes) d → Keeps c s ended t
    → Keeps d (s ++ came_with (Piece catalog bytes) a) (ended || ends_with (Piece catalog bytes) a) (t ++ given_by a)
Keeps-piece joins rest waiting flight output closed true catalog bytes d s t h k = rw h (Keeps-same _ s true t k)
Keeps-piece joins rest waiting flight output true false catalog bytes d s t h k =
    rw h (Keeps-piece_closed joins rest waiting flight output (record { catalog = catalog; bytes = bytes }) s t k)
Keeps-piece joins rest waiting flight output false false catalog bytes d s t h k =
    Keeps-piece_open joins rest waiting flight output catalog bytes d s t h k

Keeps-ends : (rest : List ℕ) (waiting : List Asked) (flight : Option FlightOf) (output : List ℕ) (closed ended : Bool) (d : ConnOf)
    (s : List Came) (t : List ℕ)
    → let c : ConnOf = conn rest waiting flight output closed ended false in let a : Answer = answer_to c End in
    IsAfter c End d → Keeps c s ended t → Keeps d (s ++ []) (ended || ends_with End a) (t ++ given_by a)
Keeps-ends rest waiting flight output closed true d s t h k = rw h (Keeps-same _ s true t k)
Keeps-ends rest waiting flight output closed false d s t h k = rw h (Keeps-end rest waiting flight output closed s t k)

-- a connection that failed changes by takes alone
Keeps-stuck : (rest : List ℕ) (waiting : List Asked) (flight : Option FlightOf) (output : List ℕ) (closed ended : Bool) (call : Call) (d : ConnOf)
    (s : List Came) (e : Bool) (t : List ℕ)
    → let c : ConnOf = conn rest waiting flight output closed ended true in let a : Answer = answer_to c call in
    IsAfter c call d → Keeps c s e t → Keeps d (s ++ came_with call a) (e || ends_with call a) (t ++ given_by a)
Keeps-stuck rest waiting flight output closed ended (Piece catalog bytes) d s e t h k = rw h (Keeps-same _ s e t k)
Keeps-stuck rest waiting flight output closed ended End d s e t h k = rw h (Keeps-same _ s e t k)
Keeps-stuck rest waiting flight output closed ended Turn d s e t h k = rw h (Keeps-same _ s e t k)
Keeps-stuck rest waiting flight output closed ended (Take room) d s e t h k = rw h (Keeps-take _ room s e t k)

Keeps-going : CutsJoin → (rest : List ℕ) (waiting : List Asked) (flight : Option FlightOf) (output : List ℕ) (closed ended : Bool) (call : Call)
    (d : ConnOf) (s : List Came) (t : List ℕ)
    → let c : ConnOf = conn rest waiting flight output closed ended false in let a : Answer = answer_to c call in
    IsAfter c call d → Keeps c s ended t → Keeps d (s ++ came_with call a) (ended || ends_with call a) (t ++ given_by a)
Keeps-going joins rest waiting flight output closed ended (Piece catalog bytes) d s t h k =
    Keeps-piece joins rest waiting flight output closed ended catalog bytes d s t h k
Keeps-going joins rest waiting flight output closed ended End d s t h k = Keeps-ends rest waiting flight output closed ended d s t h k
Keeps-going joins rest waiting flight output closed ended Turn d s t h k =
    Keeps-same d s ended t (Keeps-turn flight waiting ended rest output closed d s t h k)
Keeps-going joins rest waiting flight output closed ended (Take room) d s t h k = rw h (Keeps-take _ room s ended t k)

Keeps-by : CutsJoin → (rest : List ℕ) (waiting : List Asked) (flight : Option FlightOf) (output : List ℕ) (closed ended failed : Bool) (call : Call)
    (d : ConnOf) (s : List Came) (e : Bool) (t : List ℕ)
    → let c : ConnOf = conn rest waiting flight output closed ended failed in let a : Answer = answer_to c call in
    IsAfter c call d → Keeps c s e t → Keeps d (s ++ came_with call a) (e || ends_with call a) (t ++ given_by a)
Keeps-by joins rest waiting flight output closed ended true call d s e t h k =
    Keeps-stuck rest waiting flight output closed ended call d s e t h k
Keeps-by joins rest waiting flight output closed ended false call d s e t h k =
    let c : ConnOf = conn rest waiting flight output closed ended false in
    let a : Answer = answer_to c call in
    let P : Bool → Type 0 = λ x. Keeps c s x t → Keeps d (s ++ came_with call a) (x || ends_with call a) (t ++ given_by a) in
    subst P (k.ended_is refl) (Keeps-going joins rest waiting flight output closed ended call d s t h) k

Keeps-answered : CutsJoin → (c d : ConnOf) (call : Call) (s : List Came) (e : Bool) (t : List ℕ) → IsAfter c call d → Keeps c s e t
    → Keeps d (s ++ came_with call (answer_to c call)) (e || ends_with call (answer_to c call)) (t ++ given_by (answer_to c call))
Keeps-answered joins c d call s e t h k =
    Keeps-by joins c.rest c.waiting c.flight c.output c.closed c.ended c.failed call d s e t h k

Keeps-wanting : (c d : ConnOf) (call : Call) (s : List Came) (e : Bool) (t : List ℕ) → IsFailed c d → Keeps c s e t
    → Keeps d (s ++ came_with call (Refused NoMemory)) (e || ends_with call (Refused NoMemory)) (t ++ given_by (Refused NoMemory))
Keeps-wanting c d (Piece catalog bytes) s e t f k = Keeps-failed c d s e t f k
Keeps-wanting c d End s e t f k = Keeps-failed c d s e t f k
Keeps-wanting c d Turn s e t f k = Keeps-failed c d s e t f k
Keeps-wanting c d (Take room) s e t f k = Keeps-failed c d s e t f k

-- each step keeps it
Keeps-step : CutsJoin → (c d : ConnOf) (call : Call) (answer : Answer) (s : List Came) (e : Bool) (t : List ℕ) → Step c call answer d → Keeps c s e t
    → Keeps d (s ++ came_with call answer) (e || ends_with call answer) (t ++ given_by answer)
Keeps-step joins c d call answer s e t (inl h) k = rw h.0 (Keeps-answered joins c d call s e t h.1 k)
Keeps-step joins c d call answer s e t (inr h) k = rw h.0 (Keeps-wanting c d call s e t h.2 k)

-- and so does each run
Keeps-run : CutsJoin → (c d : ConnOf) (os : List Own) (s : List Came) (e : Bool) (t : List ℕ) → Run c os d → Keeps c s e t
    → Keeps d (s ++ stream_of os) (e || input_ended os) (t ++ taken_of os)
Keeps-run joins c d [] s e t h k = rw h (Keeps-same c s e t k)
Keeps-run joins c d (o ∷ os) s e t h k =
    rw (← append_assoc s (came_with o.call o.answer) (stream_of os), ← or_assoc e (ends_with o.call o.answer) (input_ended os), ← append_assoc t (given_by o.answer) (taken_of os))
    (Keeps-run joins h.0 d os _ _ _ h.2 (Keeps-step joins c h.0 o.call o.answer s e t h.1 k))

-- from the opening on
pub Keeps-own : OneCut → CutsJoin → (d : ConnOf) (os : List Own) → Run fresh os d → Keeps d (stream_of os) (input_ended os) (taken_of os)
Keeps-own cuts joins d os h = Keeps-run joins fresh d os [] false [] h (Keeps-fresh cuts)
