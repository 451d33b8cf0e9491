-- A connection's answers depend on its own calls alone.
use Rattle.std.proofs.Common.{◌≡◌, ℕ, Bool, true, false, List, [], ◌∷◌, ◌++◌, Option, Some, None, refl, sym, ap, subst, ◌∙◌}
use Rattle.std.specs.Prelude.{nat_le}
use Rattle.table_store.specs.Catalog.{CatalogOf}
use Rattle.http_heads.specs.Head.{HeadOf}
use Rattle.http_heads.specs.Laws.{OneCut}
use Rattle.odata_http.specs.Laws.{OneLength, OneReply, UnderTables}
use Rattle.http_heads.proofs.CaseLaws.{MatchBool_elim_two}
use Rattle.odata_hub.specs.Streams.{Asked, asked}
use Rattle.odata_hub.specs.Connections.{ConnOf, FlightOf, Call, Piece, End, Turn, Take, Answer, IsFed, AddsReply, BeginsNext, IsTurnedBy, IsAfter, answer_to, Own, Run, calls_of, HasMemory}
use Rattle.odata_hub.proofs.CallLemmas.{answered}

fed_one : OneCut → (c d e : ConnOf) (catalog : CatalogOf) (bytes : List ℕ) → IsFed c catalog bytes d → IsFed c catalog bytes e → d ≡ e
fed_one cuts c d e catalog bytes f g =
    let same = cuts.one (c.rest ++ bytes) f.heads g.heads f.rest g.rest f.closed g.closed f.cut g.cut in
    let fed : List HeadOf → List ℕ → Bool → ConnOf = λ hs l b. record c { rest = l; waiting = c.waiting ++ asked catalog hs; closed = b } in
    f.new_is ∙ ap (λ hs. fed hs f.rest f.closed) same.0 ∙ ap (λ l. fed g.heads l f.closed) same.1
    ∙ ap (λ b. fed g.heads g.rest b) same.2 ∙ sym g.new_is

reply_one : UnderTables OneReply → (c d e : ConnOf) (a : Asked) → AddsReply c a d → AddsReply c a e → d ≡ e
reply_one one c d e a x y =
    let replied : List ℕ → ConnOf = λ r. record c { flight = None; output = c.output ++ r } in
    x.new_is ∙ ap replied (one a.catalog a.head x.reply y.reply x.is y.is) ∙ sym y.new_is

next_one : OneLength → (c d e : ConnOf) (a : Asked) (waiting : List Asked) → BeginsNext c a waiting d → BeginsNext c a waiting e → d ≡ e
next_one lengths c d e a waiting x y =
    let begun : ℕ → ConnOf = λ n. record c { waiting = waiting; flight = Some (record { asked = a; left = n }) } in
    x.new_is ∙ ap begun (lengths.one a.catalog a.head x.calls y.calls x.takes y.takes) ∙ sym y.new_is

turned_one : UnderTables OneReply → OneLength → (c d e : ConnOf) (flight : Option FlightOf) (waiting : List Asked) (ended : Bool) (rest : List ℕ)
    → IsTurnedBy c flight waiting ended rest d → IsTurnedBy c flight waiting ended rest e → d ≡ e
turned_one one lengths c d e (Some f) waiting ended rest x y =
    MatchBool_elim_two (nat_le f.left 1) (λ p q. reply_one one c d e f.asked p q) (λ p q. p ∙ sym q) x y
turned_one one lengths c d e None (a ∷ waiting) ended rest x y = next_one lengths c d e a waiting x y
turned_one one lengths c d e None [] true rest x y = x ∙ sym y
turned_one one lengths c d e None [] false rest x y = x ∙ sym y

-- a call leads to one state
after_one : OneCut → UnderTables OneReply → OneLength → (c d e : ConnOf) (call : Call) → IsAfter c call d → IsAfter c call e → d ≡ e
after_one cuts one lengths c d e (Piece catalog bytes) h g =
    MatchBool_elim_two c.failed (λ p q. p ∙ sym q)
    (MatchBool_elim_two c.ended (λ p q. p ∙ sym q) (MatchBool_elim_two c.closed (λ p q. p ∙ sym q) (fed_one cuts c d e catalog bytes))) h g
after_one cuts one lengths c d e End h g = h ∙ sym g
after_one cuts one lengths c d e Turn h g =
    MatchBool_elim_two c.failed (λ p q. p ∙ sym q) (turned_one one lengths c d e c.flight c.waiting c.ended c.rest) h g
after_one cuts one lengths c d e (Take room) h g = h ∙ sym g

own_equal : (o p : Own) → o.call ≡ p.call → o.answer ≡ p.answer → o ≡ p
own_equal o p call answer =
    let own : Call → Answer → Own = λ c a. record { call = c; answer = a } in
    ap (λ c. own c o.answer) call ∙ ap (λ a. own p.call a) answer

-- equal calls get equal answers
pub equal_answers : OneCut → UnderTables OneReply → OneLength → (c d e : ConnOf) (os ps : List Own) → Run c os d → Run c ps e
    → calls_of os ≡ calls_of ps → HasMemory os → HasMemory ps → os ≡ ps
equal_answers cuts one lengths c d e [] [] h g same m n = refl
equal_answers cuts one lengths c d e [] (p ∷ ps) h g same m n = absurd (cc same)
equal_answers cuts one lengths c d e (o ∷ os) [] h g same m n = absurd (cc same)
equal_answers cuts one lengths c d e (o ∷ os) (p ∷ ps) h g same m n =
    let call : o.call ≡ p.call = cc same in
    let calls : calls_of os ≡ calls_of ps = cc same in
    let first : (o.answer ≡ answer_to c o.call) × IsAfter c o.call h.0 = answered c h.0 o.call o.answer h.1 m.0 in
    let second : (p.answer ≡ answer_to c p.call) × IsAfter c p.call g.0 = answered c g.0 p.call p.answer g.1 n.0 in
    let answer : o.answer ≡ p.answer = first.0 ∙ ap (answer_to c) call ∙ sym second.0 in
    let A : Call → Type 0 = λ x. IsAfter c x g.0 in
    let next : h.0 ≡ g.0 = after_one cuts one lengths c h.0 g.0 o.call first.1 (subst A (sym call) second.1) in
    let P : ConnOf → Type 0 = λ x. Run x os d in
    let rest : os ≡ ps = equal_answers cuts one lengths g.0 d e os ps (subst P next h.2) g.2 calls m.1 n.1 in
    let own : o ≡ p = own_equal o p call answer in
    cc (own, rest)
