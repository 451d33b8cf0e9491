-- A text has one list of tokens, up to its end or its first bad place.
use Rattle.std.proofs.Common.{◌≡◌, ℕ, zero, suc, ◌+◌, ◌≤◌, ◌<◌, Bool, true, false, List, [], ◌∷◌, length, take, drop, Option, None, Some, ◌⊎◌, inl, inr, refl, ap, ◌∙◌, sym, arith, subst, get_or, nat_le, length-append, Result, Ok, Err, IfOk, IfErr, IsErrAnd}
use Rattle.std.proofs.lemmas.Bool.Decides.{nat_tests}
use Rattle.std.proofs.lemmas.List.{take_at, drop_at}
use Rattle.odata_lex.specs.Token.{point, IsOfTokenKind, word}
use Rattle.odata_lex.specs.First.{first_token}
use Rattle.odata_lex.specs.Lexer.{BeginsToken, is_blank, ReadsTokensFrom, reads_end, reads_blank, reads_token, IsBadPlace, ReadsAll, AreTokens, IsBad, IsTooMany, IsFault, HasTokens}
use Rattle.odata_lex.specs.declared.fault.LexFault.{LexFault}
use Rattle.odata_lex.specs.declared.fault.LexFault.TheVariants.{Bad, TooMany, NoMemory}
use Rattle.odata_lex.specs.declared.token.TheConstants.{MAX_TOKENS}
use Rattle.odata_lex.specs.declared.token.Token.{Token}
use Rattle.odata_lex.specs.declared.token.TokenKind.{TokenKind}
use Rattle.odata_lex.specs.declared.token.TokenKind.TheVariants.{Text, Date, Decimal, Number, Word, Dollar, OpenParenthesis, CloseParenthesis, Comma, Slash, Minus, Star, EqualsSign}
use Rattle.odata_lex.proofs.FirstLemmas.{first_token-blank}
use Rattle.odata_lex.proofs.BeginsLemmas.{first_token_given, first_token_found}
use Rattle.odata_lex.proofs.Finds.{FindsIn}

-- a text of some kind is not empty
pub kind_nonempty : (kind : TokenKind) (front : List ℕ) → IsOfTokenKind kind front → 0 < length front
kind_nonempty Text front form = rw form.printed (omega arith)
kind_nonempty Date front form = omega (arith, form.form.ten)
kind_nonempty Decimal front form = rw form.printed (omega (arith, length-append form.whole (point ∷ form.fraction)))
kind_nonempty Number front form = form.nonempty
kind_nonempty Word front (word begins others) = omega arith
kind_nonempty Dollar front form = rw form.printed (omega arith)
kind_nonempty OpenParenthesis front form = rw form (omega arith)
kind_nonempty CloseParenthesis front form = rw form (omega arith)
kind_nonempty Comma front form = rw form (omega arith)
kind_nonempty Slash front form = rw form (omega arith)
kind_nonempty Minus front form = rw form (omega arith)
kind_nonempty Star front form = rw form (omega arith)
kind_nonempty EqualsSign front form = rw form (omega arith)

pub record SameToken (kind other : TokenKind) (front more after rest : List ℕ) : Type 0 where
  pub same_kind : kind ≡ other
  pub same_front : front ≡ more
  pub same_after : after ≡ rest

pair_of : (k l : TokenKind) (m n : ℕ) (o : Option (TokenKind × ℕ)) → o ≡ Some (k, m) → o ≡ Some (l, n) → (k ≡ l) × (m ≡ n)
pair_of k l m n o e f =
    let x : TokenKind × ℕ = (k, m) in
    let y : TokenKind × ℕ = (l, n) in
    let p : x ≡ y = cc in (ap (λ q. q.0) p, ap (λ q. q.1) p)

pub one_first_token : (text : List ℕ) (kind other : TokenKind) (front after more rest : List ℕ) → BeginsToken text kind front after → BeginsToken text other more rest → SameToken kind other front more after rest
one_first_token text kind other front after more rest a b =
    let same = pair_of kind other (length front) (length more) (first_token text) (first_token_given text kind front after a) (first_token_given text other more rest b) in
    let front_is : take (length front) text ≡ front = rw a.split (take_at front after (length front) refl) in
    let more_is : take (length front) text ≡ more = rw b.split (take_at more rest (length front) (sym same.1)) in
    let after_is : drop (length front) text ≡ after = rw a.split (drop_at front after (length front) refl) in
    let rest_is : drop (length front) text ≡ rest = rw b.split (drop_at more rest (length front) (sym same.1)) in
    record { same_kind = same.0; same_front = sym front_is ∙ more_is; same_after = sym after_is ∙ rest_is }

-- no token begins with a space or a tab
begins_some : (b : ℕ) (text : List ℕ) (kind : TokenKind) (front after : List ℕ) → is_blank b ≡ true → ¬ (BeginsToken (b ∷ text) kind front after)
begins_some b text kind front after blank begins =
    let token = first_token_given (b ∷ text) kind front after begins in
    let none : first_token (b ∷ text) ≡ None = first_token-blank b text blank in
    cc

abbrev pub Stops : List ℕ → Type 0
Stops text = (text ≡ []) ⊎ IsBadPlace text

blank_goes_on : (b : ℕ) (text : List ℕ) → is_blank b ≡ true → ¬ (Stops (b ∷ text))
blank_goes_on b text blank (inl e) = cc
blank_goes_on b text blank (inr bad) = bad.no_blank b text refl blank

token_goes_on : (text : List ℕ) (kind : TokenKind) (front after : List ℕ) → BeginsToken text kind front after → ¬ (Stops text)
token_goes_on text kind front after begins (inl e) =
    let some = kind_nonempty kind front begins.form in
    let len = ap length begins.split in
    let none = ap length e in
    omega (arith, length-append front after, some, len, none)
token_goes_on text kind front after begins (inr bad) = bad.no_token kind front after begins

token_same : (place : ℕ) (t u : Token) (front more : List ℕ) → t.kind ≡ u.kind → front ≡ more → t.start ≡ place → t.end ≡ place + length front → u.start ≡ place → u.end ≡ place + length more → t ≡ u
token_same place t u front more kinds fronts a b c d =
    let starts : t.start ≡ u.start = a ∙ sym c in
    let ends : t.end ≡ u.end = b ∙ ap (λ l. place + length l) fronts ∙ sym d in λ i. record { kind = kinds i; start = starts i; end = ends i }

pub record SameReading (tokens others : List Token) (rest left : List ℕ) : Type 0 where
  pub same_tokens : tokens ≡ others
  pub same_rest : rest ≡ left

pub one_reading : (place : ℕ) (text : List ℕ) (tokens others : List Token) (rest left : List ℕ) → ReadsTokensFrom place text tokens rest → Stops rest → ReadsTokensFrom place text others left → Stops left → SameReading tokens others rest left
one_reading place text [] [] rest left reads_end stops reads_end halts = record { same_tokens = refl; same_rest = refl }
one_reading place text _ _ rest left (reads_blank blank more) stops reads_end halts = absurd (blank_goes_on _ _ blank halts)
one_reading place text _ _ rest left reads_end stops (reads_blank blank more) halts = absurd (blank_goes_on _ _ blank stops)
one_reading place text _ _ rest left (reads_blank blank more) stops (reads_blank again others) halts = one_reading _ _ _ _ _ _ more stops others halts
one_reading place text _ _ rest left (reads_token begins start end more) stops reads_end halts = absurd (token_goes_on _ _ _ _ begins halts)
one_reading place text _ _ rest left reads_end stops (reads_token begins start end more) halts = absurd (token_goes_on _ _ _ _ begins stops)
one_reading place text _ _ rest left (reads_blank blank more) stops (reads_token begins start end others) halts = absurd (begins_some _ _ _ _ _ blank begins)
one_reading place text _ _ rest left (reads_token begins start end more) stops (reads_blank blank others) halts = absurd (begins_some _ _ _ _ _ blank begins)
one_reading place text _ _ rest left (reads_token {front = front} {after = after} {t = t} {tokens = tokens} begins start end more) stops (reads_token {front = front'} {after = after'} {t = u} {tokens = others} again begun stop left_more) halts =
    let same = one_first_token text t.kind u.kind front after front' after' begins again in
    let token : t ≡ u = token_same place t u front front' same.same_kind same.same_front start end begun stop in
    let e : u.end ≡ t.end = ap (λ (x : Token). x.end) (sym token) in
    let moved : ReadsTokensFrom t.end after others left = subst (λ a. ReadsTokensFrom t.end a others left) (sym same.same_after) (subst (λ n. ReadsTokensFrom n after' others left) e left_more) in
    let next = one_reading t.end after tokens others rest left more stops moved halts in
    record { same_tokens = λ i. token i ∷ next.same_tokens i; same_rest = next.same_rest }

-- each text has one
pub record Reading (place : ℕ) (text : List ℕ) : Type 0 where
  pub tokens : List Token
  pub rest : List ℕ
  pub reads : ReadsTokensFrom place text tokens rest
  pub stops : Stops rest

pub no_place : (b : ℕ) (text : List ℕ) → is_blank b ≡ false → first_token (b ∷ text) ≡ None → IsBadPlace (b ∷ text)
no_place b text blank none = record {
  goes_on = omega arith;
  no_blank = λ c after split is. let first : b ≡ c = ap (λ l. get_or l 0 0) split in let same : is_blank c ≡ false = rw first at blank in cc;
  no_token = λ kind front after begins. let some = first_token_given (b ∷ text) kind front after begins in cc;
}

reading_at : (n place : ℕ) (b : ℕ) (text : List ℕ) (blank : Bool) (o : Option (TokenKind × ℕ)) → is_blank b ≡ blank → first_token (b ∷ text) ≡ o → FindsIn (b ∷ text) o → length text ≤ n → ((p : ℕ) (t : List ℕ) → length t ≤ n → Reading p t) → Reading place (b ∷ text)
reading_at n place b text true o blank first found short more =
    let next = more (place + 1) text short in
    record { tokens = next.tokens; rest = next.rest; reads = reads_blank blank next.reads; stops = next.stops }
reading_at n place b text false None blank first found short more =
    record { tokens = []; rest = b ∷ text; reads = reads_end; stops = inr (no_place b text blank first) }
reading_at n place b text false (Some (kind, len)) blank first found short more =
    let some = kind_nonempty kind found.front found.begins.form in
    let whole = ap length found.begins.split in
    let next = more (place + length found.front) found.after (omega (arith, length-append found.front found.after, some, whole)) in
    let t : Token = record { kind = kind; start = place; end = place + length found.front } in
    record { tokens = t ∷ next.tokens; rest = next.rest; reads = reads_token {t = t} found.begins refl refl next.reads; stops = next.stops }

reading_within : (n place : ℕ) (text : List ℕ) → length text ≤ n → Reading place text
reading_within n place [] short = record { tokens = []; rest = []; reads = reads_end; stops = inl refl }
reading_within zero place (b ∷ text) short = absurd (omega arith)
reading_within (suc n) place (b ∷ text) short =
    reading_at n place b text _ _ refl refl (first_token_found (b ∷ text)) (omega arith) (reading_within n)

pub reading : (place : ℕ) (text : List ℕ) → Reading place text
reading place text = reading_within (length text) place text (omega arith)

pub reading_of : (source : List ℕ) → (tokens : List Token) × (rest : List ℕ) × ReadsAll source tokens rest
reading_of source = let r = reading 0 source in (r.tokens, r.rest, record { reads = r.reads; stops = r.stops })

pub one_reading_of : (source : List ℕ) (tokens others : List Token) (rest left : List ℕ) → ReadsAll source tokens rest → ReadsAll source others left → (tokens ≡ others) × (rest ≡ left)
one_reading_of source tokens others rest left r s =
    let same = one_reading 0 source tokens others rest left r.reads r.stops s.reads s.stops in (same.same_tokens, same.same_rest)

answer_at : (source rest : List ℕ) (tokens : List Token) (many : Bool) → nat_le (length tokens) MAX_TOKENS ≡ many → ReadsTokensFrom 0 source tokens rest → Stops rest → HasTokens source ⊎ IsBad source ⊎ IsTooMany source
answer_at source rest tokens false many reads stops = inr (inr (record { tokens = tokens; rest = rest; reads = record { reads = reads; stops = stops }; many = grind (arith, nat_tests) }))
answer_at source rest tokens true few reads (inl end) =
    inl (tokens, record { reads = rw end at reads; stops = inl refl }, grind (arith, nat_tests))
answer_at source rest tokens true few reads (inr bad) =
    inr (inl (record { tokens = tokens; rest = rest; reads = record { reads = reads; stops = inr bad }; few = grind (arith, nat_tests); bad = bad }))

pub tokens_or_fault : (source : List ℕ) → HasTokens source ⊎ IsBad source ⊎ IsTooMany source
tokens_or_fault source = let r = reading 0 source in answer_at source r.rest r.tokens _ refl r.reads r.stops

pub tokens_not_bad : (source : List ℕ) → HasTokens source → ¬ (IsBad source)
tokens_not_bad source has bad =
    let same = one_reading_of source has.0 bad.tokens [] bad.rest has.1 bad.reads in
    omega (arith, bad.bad.goes_on, ap length same.1)

pub tokens_not_many : (source : List ℕ) → HasTokens source → ¬ (IsTooMany source)
tokens_not_many source has many =
    let same = one_reading_of source has.0 many.tokens [] many.rest has.1 many.reads in
    omega (arith, has.2, many.many, ap length same.0)

pub bad_not_many : (source : List ℕ) → IsBad source → ¬ (IsTooMany source)
bad_not_many source bad many =
    let same = one_reading_of source bad.tokens many.tokens bad.rest many.rest bad.reads many.reads in
    omega (arith, bad.few, many.many, ap length same.0)

-- ---- the other way round

pub tokens_only : {V : Type 0} (source bytes : List ℕ) (r : Result V LexFault) → bytes ≡ source → IfErr r (IsFault bytes) → HasTokens source → IfErr r (λ e. e ≡ NoMemory)
tokens_only source bytes (Ok v) same fault has = tt
tokens_only source bytes (Err Bad) same fault has = absurd (tokens_not_bad source has (rw same at fault))
tokens_only source bytes (Err TooMany) same fault has = absurd (tokens_not_many source has (rw same at fault))
tokens_only source bytes (Err NoMemory) same fault has = refl

pub bad_only : {V : Type 0} (items : V → List Token) (source bytes : List ℕ) (r : Result V LexFault) → bytes ≡ source → IfOk r (λ v. AreTokens bytes (items v)) → IfErr r (IsFault bytes) → IsBad source → IsErrAnd r (λ e. (e ≡ Bad) ⊎ (e ≡ NoMemory))
bad_only items source bytes (Ok v) same tokens fault bad = absurd (tokens_not_bad bytes (items v, tokens.reads, tokens.few) (rw same bad))
bad_only items source bytes (Err Bad) same tokens fault bad = inl refl
bad_only items source bytes (Err TooMany) same tokens fault bad = absurd (bad_not_many source bad (rw same at fault))
bad_only items source bytes (Err NoMemory) same tokens fault bad = inr refl

pub many_only : {V : Type 0} (items : V → List Token) (source bytes : List ℕ) (r : Result V LexFault) → bytes ≡ source → IfOk r (λ v. AreTokens bytes (items v)) → IfErr r (IsFault bytes) → IsTooMany source → IsErrAnd r (λ e. (e ≡ TooMany) ⊎ (e ≡ NoMemory))
many_only items source bytes (Ok v) same tokens fault many = absurd (tokens_not_many bytes (items v, tokens.reads, tokens.few) (rw same many))
many_only items source bytes (Err Bad) same tokens fault many = absurd (bad_not_many bytes fault (rw same many))
many_only items source bytes (Err TooMany) same tokens fault many = inl refl
many_only items source bytes (Err NoMemory) same tokens fault many = inr refl
