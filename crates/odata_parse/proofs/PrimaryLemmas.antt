-- What a phrase is by its first tokens.
use Rattle.std.proofs.Common.{◌≡◌, ◌≢◌, ℕ, zero, suc, ◌≤◌, List, ◌∷◌, true, false, ◌⊎◌, inl, inr, codes, refl, sym, ap, ◌∙◌, subst, arith}
use Rattle.odata_lex.specs.Token.{TokenOf}
use Rattle.odata_lex.specs.declared.token.TokenKind.{TokenKind}
use Rattle.odata_lex.specs.declared.token.TokenKind.TheVariants.{Word, OpenParenthesis, CloseParenthesis, Comma, Minus}
use Rattle.odata_parse.specs.declared.tree.UnaryOperator.{UnaryOperator}
use Rattle.odata_parse.specs.declared.tree.UnaryOperator.TheVariants.{Negate, Not}
use Rattle.odata_parse.specs.declared.tree.UnaryFunction.{UnaryFunction}
use Rattle.odata_parse.specs.declared.tree.BinaryFunction.{BinaryFunction}
use Rattle.odata_parse.specs.Expression.{Reads, read_group, read_literal, read_name, read_unary_call, read_binary_call, read_in, read_unary, read_binary, read_tighter, IsUnaryOperator, top}
use Rattle.odata_parse.specs.Keyword.{IsKeyword, IsName, lower, unary_function_text, binary_function_text}
use Rattle.odata_parse.specs.Literal.{IsLiteral, IsLiteralOfKind, IsWordLiteral, ReadsLiteral}
use Rattle.odata_parse.specs.List.{Enclosed}
use Rattle.odata_parse.specs.Parsing.{CanEnd, Calls, calls_unary, calls_binary}
use Rattle.odata_parse.specs.Tree.{LiteralOf, null, boolean, number, text, date, decimal, ExprOf, literal, name, unary, in_list, unary_call, binary_call}
use Rattle.odata_parse.proofs.KeywordLemmas.{Keyword, keyword_text, one_keyword, unary_function, binary_function, not_word, true_word, false_word, null_word}
use Rattle.odata_parse.proofs.LiteralLemmas.{IsLiteral-unique}
use Rattle.odata_parse.proofs.PhraseLemmas.{level_from_three, keyword_unique, word_no_open, word_no_minus, in_follows, CanEnd-pred}

-- a value that is a word is no other keyword
literal_keyword : (bytes : List ℕ) (v : LiteralOf) → IsWordLiteral bytes v → (k : Keyword) × (lower bytes ≡ keyword_text k) × ((k ≡ true_word) ⊎ ((k ≡ false_word) ⊎ (k ≡ null_word)))
literal_keyword bytes null h = (null_word, h, inr (inr refl))
literal_keyword bytes (boolean true) h = (true_word, h, inl refl)
literal_keyword bytes (boolean false) h = (false_word, h, inr (inl refl))
literal_keyword bytes (number n) h = absurd h
literal_keyword bytes (text t) h = absurd h
literal_keyword bytes (date y m d) h = absurd h
literal_keyword bytes (decimal n) h = absurd h

is_value_word : (j k : Keyword) → j ≡ k → (k ≡ true_word) ⊎ ((k ≡ false_word) ⊎ (k ≡ null_word)) → (j ≡ true_word) ⊎ ((j ≡ false_word) ⊎ (j ≡ null_word))
is_value_word j k e h = rw e h

literal_word : (t : TokenOf) (v : LiteralOf) (j : Keyword) → IsLiteral t v → IsKeyword (keyword_text j) t → (j ≡ true_word) ⊎ ((j ≡ false_word) ⊎ (j ≡ null_word))
literal_word t v j h k =
    let q = literal_keyword t.text v (subst (λ (kind : TokenKind). IsLiteralOfKind kind t.text v) k.is_word h) in
    is_value_word j q.0 (one_keyword j q.0 k.spelled q.1) q.2

no_not : (not_word ≡ true_word) ⊎ ((not_word ≡ false_word) ⊎ (not_word ≡ null_word)) → ⊥
no_not (inl e) = cc
no_not (inr (inl e)) = cc
no_not (inr (inr e)) = cc

no_unary : (f : UnaryFunction) → (unary_function f ≡ true_word) ⊎ ((unary_function f ≡ false_word) ⊎ (unary_function f ≡ null_word)) → ⊥
no_unary f (inl e) = cc
no_unary f (inr (inl e)) = cc
no_unary f (inr (inr e)) = cc

no_binary : (f : BinaryFunction) → (binary_function f ≡ true_word) ⊎ ((binary_function f ≡ false_word) ⊎ (binary_function f ≡ null_word)) → ⊥
no_binary f (inl e) = cc
no_binary f (inr (inl e)) = cc
no_binary f (inr (inr e)) = cc

minus_no_open : (t : TokenOf) → t.kind ≡ Minus → t.kind ≡ OpenParenthesis → ⊥
minus_no_open t h e = let k : Minus ≡ OpenParenthesis = sym h ∙ e in cc

-- `-` and `not` begin no primary
sign_no_group : (o : UnaryOperator) (t : TokenOf) → IsUnaryOperator o t → t.kind ≡ OpenParenthesis → ⊥
sign_no_group Negate t h e = minus_no_open t h e
sign_no_group Not t h e = word_no_open t h.is_word e

sign_no_literal : (o : UnaryOperator) (t : TokenOf) (v : LiteralOf) → IsUnaryOperator o t → IsLiteral t v → ⊥
sign_no_literal Negate t v h e = subst (λ (kind : TokenKind). IsLiteralOfKind kind t.text v) h e
sign_no_literal Not t v h e = no_not (literal_word t v not_word e h)

sign_no_name : (o : UnaryOperator) (t : TokenOf) (bytes : List ℕ) → IsUnaryOperator o t → IsName bytes t → ⊥
sign_no_name Negate t bytes h e = word_no_minus t e.is_word h
sign_no_name Not t bytes h e = e.not_not h.spelled

sign_no_keyword : (o : UnaryOperator) (t : TokenOf) (k : Keyword) → k ≢ not_word → IsUnaryOperator o t → IsKeyword (keyword_text k) t → ⊥
sign_no_keyword Negate t k n h e = word_no_minus t e.is_word h
sign_no_keyword Not t k n h e = n (keyword_unique k not_word e h)

pub no_sign : {l : ℕ} {t : TokenOf} {before after : List TokenOf} {e : ExprOf} (o : UnaryOperator) → IsUnaryOperator o t → l ≤ 1 → Reads l (t ∷ before) e after → ⊥
no_sign {t} o h s (read_group p r c) = sign_no_group o t h p
no_sign {t} o h s (read_literal {v} q) = sign_no_literal o t v h q
no_sign {t} o h s (read_name {text = bytes} q) = sign_no_name o t bytes h q
no_sign {t} o h s (read_unary_call {f} k p r c) = sign_no_keyword o t (unary_function f) (λ e. cc) h k
no_sign {t} o h s (read_binary_call {f} k p r m q c) = sign_no_keyword o t (binary_function f) (λ e. cc) h k
no_sign o h s (read_in r k p) = no_sign o h (omega arith) r
no_sign o h s (read_unary k r) = absurd (omega arith)
no_sign o h s (read_binary {o = p} r k d q) = absurd (omega (arith, level_from_three p))
no_sign o h s (read_tighter r) = no_sign o h (omega arith) r

unary_unique : (t : TokenOf) (o p : UnaryOperator) → IsUnaryOperator o t → IsUnaryOperator p t → o ≡ p
unary_unique t Negate Negate h e = refl
unary_unique t Negate Not h e = absurd (word_no_minus t e.is_word h)
unary_unique t Not Negate h e = absurd (word_no_minus t h.is_word e)
unary_unique t Not Not h e = refl

-- what begins with `-` or `not` is that operator and a phrase of the same level
pub Reads-sign : {t : TokenOf} {before after : List TokenOf} {e : ExprOf} (o : UnaryOperator) → IsUnaryOperator o t → Reads (suc (suc zero)) (t ∷ before) e after → (a : ExprOf) × Reads (suc (suc zero)) before a after × (e ≡ unary o a)
Reads-sign o h (read_unary {o = p} {e = a} k r) = (a, r, ap (λ (q : UnaryOperator). unary q a) (unary_unique _ p o k h))
Reads-sign o h (read_binary {o = p} r k d q) = absurd (omega (arith, level_from_three p))
Reads-sign o h (read_tighter r) = absurd (no_sign o h (omega arith) r)

-- and what does not is a phrase of the level below
pub Reads-unsigned : {before after : List TokenOf} {e : ExprOf} → Reads (suc (suc zero)) before e after → ((t : TokenOf) (rest : List TokenOf) (o : UnaryOperator) → before ≡ t ∷ rest → ¬ (IsUnaryOperator o t)) → Reads (suc zero) before e after
Reads-unsigned (read_unary {t} {before} {o} k r) none = absurd (none t before o refl k)
Reads-unsigned (read_binary {o = p} r k d q) none = absurd (omega (arith, level_from_three p))
Reads-unsigned (read_tighter r) none = r

-- after a primary: nothing, or `in` and a list
pub data Tail : ExprOf → List TokenOf → ExprOf → List TokenOf → Type 0 where
  tail_none : {v : ExprOf} {after : List TokenOf} → Tail v after v after
  tail_in : {t : TokenOf} {mid after : List TokenOf} {v : ExprOf} {vs : List LiteralOf} → IsKeyword (codes "in") t → Enclosed ReadsLiteral Comma mid vs after → Tail v (t ∷ mid) (in_list v vs) after

Reads-member : {before after : List TokenOf} {e : ExprOf} → Reads (suc zero) before e after → CanEnd (suc zero) after → (v : ExprOf) × (mid : List TokenOf) × Reads zero before v mid × CanEnd zero mid × Tail v mid e after
Reads-member (read_in {t} {mid} {e} r k p) h = (e, t ∷ mid, r, in_follows k, tail_in k p)
Reads-member {after} {e} (read_tighter r) h = (e, after, r, CanEnd-pred zero after h, tail_none)
Reads-member (read_binary {o = p} r k d q) h = absurd (omega (arith, level_from_three p))

-- a parser of primaries would read nothing else
abbrev pub IsOnlyPrimary : List TokenOf → ExprOf → List TokenOf → Type 0
IsOnlyPrimary old v now = (e : ExprOf) (after : List TokenOf) → Reads zero old e after → CanEnd zero after → (v ≡ e) × (now ≡ after)

pub member_tail : {old now after : List TokenOf} {v e : ExprOf} → IsOnlyPrimary old v now → Reads (suc zero) old e after → CanEnd (suc zero) after → Tail v now e after
member_tail only r h = let f = Reads-member r h in let s = only f.0 f.1 f.2 f.3 in rw (s.0, s.1) f.4

pub member_none : {old : List TokenOf} (P : Type 0) → ((e : ExprOf) (after : List TokenOf) → Reads zero old e after → CanEnd zero after → P) → (e : ExprOf) (after : List TokenOf) → Reads (suc zero) old e after → CanEnd (suc zero) after → P
member_none P none e after r h = let f = Reads-member r h in none f.0 f.1 f.2 f.3

pub Tail-stop : {v e : ExprOf} {now after : List TokenOf} → Tail v now e after → ((t : TokenOf) (rest : List TokenOf) → now ≡ t ∷ rest → ¬ (IsKeyword (codes "in") t)) → (v ≡ e) × (now ≡ after)
Tail-stop tail_none none = (refl, refl)
Tail-stop (tail_in {t} {mid} k p) none = absurd (none t mid refl k)

pub Tail-in : {v e : ExprOf} {t : TokenOf} {now after : List TokenOf} → Tail v (t ∷ now) e after → IsKeyword (codes "in") t → CanEnd (suc zero) after → (items : List LiteralOf) × Enclosed ReadsLiteral Comma now items after × (e ≡ in_list v items)
Tail-in tail_none k h = absurd (h.no_list (omega arith) k)
Tail-in (tail_in {vs} j p) k h = (vs, p, refl)

-- a primary that begins with `(`
pub Reads-group : {t : TokenOf} {before after : List TokenOf} {e : ExprOf} → t.kind ≡ OpenParenthesis → Reads zero (t ∷ before) e after → (c : TokenOf) × Reads top before e (c ∷ after) × (c.kind ≡ CloseParenthesis)
Reads-group h (read_group {c} p r q) = (c, r, q)
Reads-group {t} h (read_literal {v} q) = absurd (subst (λ (kind : TokenKind). IsLiteralOfKind kind t.text v) h q)
Reads-group {t} h (read_name q) = absurd (word_no_open t q.is_word h)
Reads-group {t} h (read_unary_call k p r c) = absurd (word_no_open t k.is_word h)
Reads-group {t} h (read_binary_call k p r m q c) = absurd (word_no_open t k.is_word h)

-- one that begins with neither `(` nor a word
pub Reads-value : {t : TokenOf} {before after : List TokenOf} {e : ExprOf} → t.kind ≢ OpenParenthesis → t.kind ≢ Word → Reads zero (t ∷ before) e after → (v : LiteralOf) × IsLiteral t v × (literal v ≡ e) × (before ≡ after)
Reads-value h n (read_group p r q) = absurd (h p)
Reads-value h n (read_literal {v} q) = (v, q, refl, refl)
Reads-value h n (read_name q) = absurd (n q.is_word)
Reads-value h n (read_unary_call k p r c) = absurd (n k.is_word)
Reads-value h n (read_binary_call k p r m q c) = absurd (n k.is_word)

-- one that begins with a word
pub data WordPhrase (t : TokenOf) : List TokenOf → ExprOf → List TokenOf → Type 0 where
  word_value : {after : List TokenOf} {v : LiteralOf} → IsLiteral t v → WordPhrase t after (literal v) after
  word_name : {after : List TokenOf} {bytes : List ℕ} → IsName bytes t → WordPhrase t after (name bytes) after
  word_call : {o : TokenOf} {before after : List TokenOf} {e : ExprOf} → o.kind ≡ OpenParenthesis → Calls t before e after → WordPhrase t (o ∷ before) e after

Reads-word : {t : TokenOf} {before after : List TokenOf} {e : ExprOf} → t.kind ≡ Word → Reads zero (t ∷ before) e after → WordPhrase t before e after
Reads-word {t} h (read_group p r q) = absurd (word_no_open t h p)
Reads-word h (read_literal q) = word_value q
Reads-word h (read_name q) = word_name q
Reads-word h (read_unary_call k p r c) = word_call p (calls_unary k r c)
Reads-word h (read_binary_call k p r m q c) = word_call p (calls_binary k r m q c)

pub Reads-call : {t o : TokenOf} {before after : List TokenOf} {e : ExprOf} → o.kind ≡ OpenParenthesis → Calls t before e after → Reads zero (t ∷ o ∷ before) e after
Reads-call p (calls_unary k r c) = read_unary_call k p r c
Reads-call p (calls_binary k r m q c) = read_binary_call k p r m q c

pub name_no_value : (t : TokenOf) (bytes : List ℕ) (v : LiteralOf) → IsName bytes t → IsWordLiteral t.text v → ⊥
name_no_value t bytes null n h = n.not_null h
name_no_value t bytes (boolean true) n h = n.not_true h
name_no_value t bytes (boolean false) n h = n.not_false h
name_no_value t bytes (number m) n h = h
name_no_value t bytes (text m) n h = h
name_no_value t bytes (date y m d) n h = h
name_no_value t bytes (decimal n) n' h = h

value_literal : (t : TokenOf) (v : LiteralOf) → t.kind ≡ Word → IsWordLiteral t.text v → IsLiteral t v
value_literal t v h l = subst (λ (kind : TokenKind). IsLiteralOfKind kind t.text v) (sym h) l

value_word : (t : TokenOf) (v : LiteralOf) → t.kind ≡ Word → IsLiteral t v → IsWordLiteral t.text v
value_word t v h l = subst (λ (kind : TokenKind). IsLiteralOfKind kind t.text v) h l

-- a token that is a value, and no word of another kind
pub literal_only : {t : TokenOf} {before after : List TokenOf} {e : ExprOf} (v : LiteralOf) → IsLiteral t v → Reads zero (t ∷ before) e after → (literal v ≡ e) × (before ≡ after)
literal_only {t} v h (read_group p r q) = absurd (subst (λ (kind : TokenKind). IsLiteralOfKind kind t.text v) p h)
literal_only {t} v h (read_literal {v = w} q) = (ap literal (IsLiteral-unique t v w h q), refl)
literal_only {t} v h (read_name {text = bytes} q) = absurd (name_no_value t bytes v q (value_word t v q.is_word h))
literal_only {t} v h (read_unary_call {f} k p r q) = absurd (no_unary f (literal_word t v (unary_function f) h k))
literal_only {t} v h (read_binary_call {f} k p r m q d) = absurd (no_binary f (literal_word t v (binary_function f) h k))

-- a word that is a value
pub word_is_value : {t : TokenOf} {before after : List TokenOf} {e : ExprOf} (v : LiteralOf) → t.kind ≡ Word → IsWordLiteral t.text v → Reads zero (t ∷ before) e after → (literal v ≡ e) × (before ≡ after)
word_is_value {t} v h l r = literal_only v (value_literal t v h l) r

pub word_reads_value : (t : TokenOf) (after : List TokenOf) (v : LiteralOf) → t.kind ≡ Word → IsWordLiteral t.text v → Reads zero (t ∷ after) (literal v) after
word_reads_value t after v h l = read_literal (value_literal t v h l)

name_only : {t : TokenOf} {before after : List TokenOf} {e : ExprOf} → t.kind ≡ Word → ((v : LiteralOf) → ¬ (IsWordLiteral t.text v)) → ((o : TokenOf) (rest : List TokenOf) → before ≡ o ∷ rest → o.kind ≢ OpenParenthesis) → WordPhrase t before e after → (name t.text ≡ e) × (before ≡ after)
name_only {t} h none no_call (word_value {v} q) = absurd (none v (value_word t v h q))
name_only h none no_call (word_name q) = (ap name (sym q.spelled), refl)
name_only h none no_call (word_call {o} {before} p q) = absurd (no_call o before refl p)

-- a word that is a name
pub word_is_name : {t : TokenOf} {before after : List TokenOf} {e : ExprOf} → t.kind ≡ Word → ((v : LiteralOf) → ¬ (IsWordLiteral t.text v)) → ((o : TokenOf) (rest : List TokenOf) → before ≡ o ∷ rest → o.kind ≢ OpenParenthesis) → Reads zero (t ∷ before) e after → (name t.text ≡ e) × (before ≡ after)
word_is_name h none no_call r = name_only h none no_call (Reads-word h r)

pub word_reads_name : (t : TokenOf) (after : List TokenOf) (bytes : List ℕ) → t.kind ≡ Word → ((v : LiteralOf) → ¬ (IsWordLiteral t.text v)) → lower t.text ≢ codes "not" → bytes ≡ t.text → Reads zero (t ∷ after) (name bytes) after
word_reads_name t after bytes h none no_not is = read_name (record {
  is_word = h;
  spelled = is;
  not_true = none (boolean true);
  not_false = none (boolean false);
  not_null = none null;
  not_not = no_not;
})

call_only : {t o : TokenOf} {before after : List TokenOf} {e : ExprOf} → t.kind ≡ Word → ((v : LiteralOf) → ¬ (IsWordLiteral t.text v)) → o.kind ≡ OpenParenthesis → CanEnd zero after → WordPhrase t (o ∷ before) e after → Calls t before e after
call_only {t} h none p end (word_value {v} q) = absurd (none v (value_word t v h q))
call_only h none p end (word_name q) = absurd (end.no_call p)
call_only h none p end (word_call q c) = c

-- a word before `(`
pub word_is_call : {t o : TokenOf} {before after : List TokenOf} {e : ExprOf} → t.kind ≡ Word → ((v : LiteralOf) → ¬ (IsWordLiteral t.text v)) → o.kind ≡ OpenParenthesis → CanEnd zero after → Reads zero (t ∷ o ∷ before) e after → Calls t before e after
word_is_call h none p end r = call_only h none p end (Reads-word h r)

-- a function is no value
pub unary_no_value : {t : TokenOf} (f : UnaryFunction) → IsKeyword (unary_function_text f) t → (v : LiteralOf) → ¬ (IsWordLiteral t.text v)
unary_no_value {t} f k v h = no_unary f (literal_word t v (unary_function f) (value_literal t v k.is_word h) k)

pub binary_no_value : {t : TokenOf} (f : BinaryFunction) → IsKeyword (binary_function_text f) t → (v : LiteralOf) → ¬ (IsWordLiteral t.text v)
binary_no_value {t} f k v h = no_binary f (literal_word t v (binary_function f) (value_literal t v k.is_word h) k)

-- the rest of a call by its function
pub Calls-unary : {t : TokenOf} {before after : List TokenOf} {e : ExprOf} (f : UnaryFunction) → lower t.text ≡ unary_function_text f → Calls t before e after → (a : ExprOf) × (c : TokenOf) × Reads top before a (c ∷ after) × (c.kind ≡ CloseParenthesis) × (unary_call f a ≡ e)
Calls-unary f h (calls_unary {c} {f = g} {e = a} k r q) = (a, c, r, q, let s = one_keyword (unary_function f) (unary_function g) h k.spelled in cc)
Calls-unary f h (calls_binary {f = g} k r m q c) = absurd (let s = one_keyword (unary_function f) (binary_function g) h k.spelled in cc)

pub record BinaryCall (f : BinaryFunction) (before : List TokenOf) (e : ExprOf) (after : List TokenOf) : Type 0 where
  pub left : ExprOf
  pub right : ExprOf
  pub comma : TokenOf
  pub closing : TokenOf
  pub mid : List TokenOf
  pub reads_left : Reads top before left (comma ∷ mid)
  pub separates : comma.kind ≡ Comma
  pub reads_right : Reads top mid right (closing ∷ after)
  pub closes : closing.kind ≡ CloseParenthesis
  pub is : binary_call f left right ≡ e

pub Calls-binary : {t : TokenOf} {before after : List TokenOf} {e : ExprOf} (f : BinaryFunction) → lower t.text ≡ binary_function_text f → Calls t before e after → BinaryCall f before e after
Calls-binary f h (calls_unary {f = g} k r q) = absurd (let s = one_keyword (binary_function f) (unary_function g) h k.spelled in cc)
Calls-binary f h (calls_binary {s} {c} {mid} {f = g} {a} {b} k r m q d) = record {
  left = a;
  right = b;
  comma = s;
  closing = c;
  mid = mid;
  reads_left = r;
  separates = m;
  reads_right = q;
  closes = d;
  is = let s = one_keyword (binary_function f) (binary_function g) h k.spelled in cc;
}

pub Calls-none : {t : TokenOf} {before after : List TokenOf} {e : ExprOf} → ((f : UnaryFunction) → lower t.text ≢ unary_function_text f) → ((f : BinaryFunction) → lower t.text ≢ binary_function_text f) → Calls t before e after → ⊥
Calls-none n m (calls_unary {f} k r q) = n f k.spelled
Calls-none n m (calls_binary {f} k r c q d) = m f k.spelled

-- what a list of tokens begins with, said twice
pub same_rest : {now xs ys : List TokenOf} {x y : TokenOf} → now ≡ x ∷ xs → now ≡ y ∷ ys → xs ≡ ys
same_rest {xs} {ys} {x} {y} h e = let k : x ∷ xs ≡ y ∷ ys = sym h ∙ e in cc
