-- Phrases from the left: a phrase of the level below, and how it goes on.
use Rattle.std.proofs.Common.{◌≡◌, ◌≢◌, ℕ, zero, suc, ◌<◌, ◌≤◌, List, [], ◌∷◌, length, codes, refl, sym, ap, ◌∙◌, subst, arith}
use Rattle.odata_lex.specs.Token.{TokenOf}
use Rattle.odata_lex.specs.declared.token.TokenKind.{TokenKind}
use Rattle.odata_lex.specs.declared.token.TokenKind.TheVariants.{Word, OpenParenthesis, CloseParenthesis, Comma, Minus}
use Rattle.odata_parse.specs.declared.tree.LogicOperator.TheVariants.{And, Or}
use Rattle.cell_types.specs.declared.comparison.ComparisonOperator.TheVariants.{Equal, NotEqual, GreaterThan, GreaterOrEqual, LessThan, LessOrEqual}
use Rattle.typed_trees.specs.declared.operator.ArithmeticOperator.TheVariants.{Add, Sub, Mul, Div, Mod}
use Rattle.odata_parse.specs.declared.tree.BinaryOperator.{BinaryOperator}
use Rattle.odata_parse.specs.declared.tree.BinaryOperator.TheVariants.{Logic, Comparison, Arithmetic}
use Rattle.odata_parse.specs.Expression.{Reads, read_in, read_unary, read_binary, read_tighter, level_of}
use Rattle.odata_parse.specs.Keyword.{IsKeyword, operator_text}
use Rattle.odata_parse.specs.Parsing.{CanEnd, MayFollow, IsAfterItem, IsCloseOrSeparator}
use Rattle.odata_parse.specs.Tree.{ExprOf, binary}
use Rattle.odata_parse.proofs.KeywordLemmas.{Keyword, keyword_text, one_keyword, operator, in_word}

-- operators between operands bind more loosely than those before one
pub level_from_three : (o : BinaryOperator) → 3 ≤ level_of o
level_from_three (Logic And) = omega arith
level_from_three (Logic Or) = omega arith
level_from_three (Comparison Equal) = omega arith
level_from_three (Comparison NotEqual) = omega arith
level_from_three (Comparison GreaterThan) = omega arith
level_from_three (Comparison GreaterOrEqual) = omega arith
level_from_three (Comparison LessThan) = omega arith
level_from_three (Comparison LessOrEqual) = omega arith
level_from_three (Arithmetic Add) = omega arith
level_from_three (Arithmetic Sub) = omega arith
level_from_three (Arithmetic Mul) = omega arith
level_from_three (Arithmetic Div) = omega arith
level_from_three (Arithmetic Mod) = omega arith

pub level_to_eight : (o : BinaryOperator) → level_of o ≤ 8
level_to_eight (Logic And) = omega arith
level_to_eight (Logic Or) = omega arith
level_to_eight (Comparison Equal) = omega arith
level_to_eight (Comparison NotEqual) = omega arith
level_to_eight (Comparison GreaterThan) = omega arith
level_to_eight (Comparison GreaterOrEqual) = omega arith
level_to_eight (Comparison LessThan) = omega arith
level_to_eight (Comparison LessOrEqual) = omega arith
level_to_eight (Arithmetic Add) = omega arith
level_to_eight (Arithmetic Sub) = omega arith
level_to_eight (Arithmetic Mul) = omega arith
level_to_eight (Arithmetic Div) = omega arith
level_to_eight (Arithmetic Mod) = omega arith

-- a token is one keyword
pub keyword_unique : {t : TokenOf} (j k : Keyword) → IsKeyword (keyword_text j) t → IsKeyword (keyword_text k) t → j ≡ k
keyword_unique j k h e = one_keyword j k h.spelled e.spelled

operator_unique : {t : TokenOf} (o p : BinaryOperator) → IsKeyword (operator_text o) t → IsKeyword (operator_text p) t → o ≡ p
operator_unique o p h e = let k = keyword_unique (operator o) (operator p) h e in cc

-- a kind that is two kinds
pub word_no_open : (t : TokenOf) → t.kind ≡ Word → t.kind ≡ OpenParenthesis → ⊥
word_no_open t h e = let k : Word ≡ OpenParenthesis = sym h ∙ e in cc

pub word_no_minus : (t : TokenOf) → t.kind ≡ Word → t.kind ≡ Minus → ⊥
word_no_minus t h e = let k : Word ≡ Minus = sym h ∙ e in cc

-- `in` may follow a primary, and an operator what binds more tightly
pub in_follows : {t : TokenOf} → IsKeyword (codes "in") t → MayFollow zero t
in_follows {t} h = record {
  no_call = word_no_open t h.is_word;
  no_list = λ e. absurd (omega arith);
  no_operator = λ o k. omega (arith, level_from_three o);
}

pub operator_follows : {t : TokenOf} (l : ℕ) (o : BinaryOperator) → IsKeyword (operator_text o) t → level_of o ≡ suc l → MayFollow l t
operator_follows {t} l o h e = record {
  no_call = word_no_open t h.is_word;
  no_list = λ _ k. let j = keyword_unique (operator o) in_word h k in absurd (cc);
  no_operator = λ p k. let s = operator_unique o p h k in rw (← s) (omega arith);
}

pub CanEnd-pred : (l : ℕ) (after : List TokenOf) → CanEnd (suc l) after → CanEnd l after
CanEnd-pred l [] h = tt
CanEnd-pred l (t ∷ after) h = record {
  no_call = h.no_call;
  no_list = λ e. h.no_list (omega arith);
  no_operator = λ o k. omega (arith, h.no_operator o k);
}

-- an expression ends before `)`, `,`, `/` and the end
close_is_no_word : (kind : TokenKind) → IsCloseOrSeparator kind → (kind ≢ Word) × (kind ≢ OpenParenthesis)
close_is_no_word kind h = ((λ e. absurd (subst IsCloseOrSeparator e h)), (λ e. absurd (subst IsCloseOrSeparator e h)))

pub item_ends : (l : ℕ) (after : List TokenOf) → IsAfterItem after → CanEnd l after
item_ends l [] h = tt
item_ends l (t ∷ after) h = let n = close_is_no_word t.kind h in record {
  no_call = n.1;
  no_list = λ _ k. n.0 k.is_word;
  no_operator = λ o k. absurd (n.0 k.is_word);
}

pub close_ends : (l : ℕ) (c : TokenOf) (after : List TokenOf) → c.kind ≡ CloseParenthesis → CanEnd l (c ∷ after)
close_ends l c after e = item_ends l (c ∷ after) (rw e tt)

pub comma_ends : (l : ℕ) (c : TokenOf) (after : List TokenOf) → c.kind ≡ Comma → CanEnd l (c ∷ after)
comma_ends l c after e = item_ends l (c ∷ after) (rw e tt)

-- after a phrase of level l, which is `a`, operators of level l + 1 and their operands make it the tree, and then the rest comes
pub data Goes : ℕ → ExprOf → List TokenOf → ExprOf → List TokenOf → Type 0 where
  goes_end : {l : ℕ} {a : ExprOf} {after : List TokenOf} → Goes l a after a after
  goes_on : {l : ℕ} {a b e : ExprOf} {t : TokenOf} {o : BinaryOperator} {before mid after : List TokenOf} → IsKeyword (operator_text o) t → level_of o ≡ suc l → Reads l before b mid → Goes l (binary o a b) mid e after → Goes l a (t ∷ before) e after

-- one more operand at the end
Goes-snoc : {l : ℕ} {a b c : ExprOf} {t : TokenOf} {o : BinaryOperator} {before mid after : List TokenOf} → Goes l a before b (t ∷ mid) → IsKeyword (operator_text o) t → level_of o ≡ suc l → Reads l mid c after → Goes l a before (binary o b c) after
Goes-snoc goes_end k e r = goes_on k e r goes_end
Goes-snoc (goes_on j d q g) k e r = goes_on j d q (Goes-snoc g k e r)

-- a phrase from its left
pub Reads-front : {l : ℕ} {before after : List TokenOf} {e : ExprOf} → 2 ≤ l → Reads (suc l) before e after → (a : ExprOf) × (mid : List TokenOf) × Reads l before a mid × Goes l a mid e after
Reads-front h (read_in r k s) = absurd (omega arith)
Reads-front h (read_unary k r) = absurd (omega arith)
Reads-front {after} {e} h (read_tighter r) = (e, after, r, goes_end)
Reads-front h (read_binary r k d s) = let f = Reads-front h r in (f.0, f.1, f.2, Goes-snoc f.3 k d s)

-- the first operand ends where it is said to
pub Goes-ends : {l : ℕ} {a e : ExprOf} {before after : List TokenOf} → Goes l a before e after → CanEnd (suc l) after → CanEnd l before
Goes-ends {l} {after} goes_end h = CanEnd-pred l after h
Goes-ends {l} (goes_on {o} k d r g) h = operator_follows l o k d

-- where an operator of the level comes next, and the phrase does not end there, it goes on with one operand
pub Goes-next : {l : ℕ} {a e : ExprOf} {t : TokenOf} {before after : List TokenOf} (o : BinaryOperator) → Goes l a (t ∷ before) e after → IsKeyword (operator_text o) t → level_of o ≡ suc l → CanEnd (suc l) after → (b : ExprOf) × (mid : List TokenOf) × Reads l before b mid × Goes l (binary o a b) mid e after
Goes-next o goes_end k d h = absurd (omega (arith, h.no_operator o k))
Goes-next {l} {a} {e} {after} o (goes_on {b} {o = p} {mid} j c r g) k d h =
    let s = operator_unique o p k j in (b, mid, r, subst (λ (q : BinaryOperator). Goes l (binary q a b) mid e after) (sym s) g)

-- where none comes next, the phrase ends there
pub Goes-stop : {l : ℕ} {a e : ExprOf} {before after : List TokenOf} → Goes l a before e after → ((t : TokenOf) (rest : List TokenOf) (o : BinaryOperator) → before ≡ t ∷ rest → IsKeyword (operator_text o) t → level_of o ≢ suc l) → (a ≡ e) × (before ≡ after)
Goes-stop goes_end none = (refl, refl)
Goes-stop (goes_on {t} {o} {before} k d r g) none = absurd (none t before o refl k d)

-- a parser of level l that read `left` would read nothing else
abbrev pub IsOnly : ℕ → List TokenOf → ExprOf → List TokenOf → Type 0
IsOnly l old left now = (e : ExprOf) (after : List TokenOf) → Reads l old e after → CanEnd l after → (left ≡ e) × (now ≡ after)

-- each phrase of level l + 1 goes on from `left`
abbrev pub GoesFrom : ℕ → List TokenOf → ExprOf → List TokenOf → Type 0
GoesFrom l old left now = (e : ExprOf) (after : List TokenOf) → Reads (suc l) old e after → CanEnd (suc l) after → Goes l left now e after

pub front_goes : {l : ℕ} {old now : List TokenOf} {left : ExprOf} → 2 ≤ l → IsOnly l old left now → GoesFrom l old left now
front_goes h only e after r end = let f = Reads-front h r in let s = only f.0 f.1 f.2 (Goes-ends f.3 end) in rw (s.0, s.1) f.3

pub operand_goes : {l : ℕ} {old before new : List TokenOf} {left right : ExprOf} {t : TokenOf} (o : BinaryOperator) → GoesFrom l old left (t ∷ before) → IsKeyword (operator_text o) t → level_of o ≡ suc l → IsOnly l before right new → GoesFrom l old (binary o left right) new
operand_goes o goes k d only e after r end =
    let f = Goes-next o (goes e after r end) k d end in
    let s = only f.0 f.1 f.2 (Goes-ends f.3 end) in rw (s.0, s.1) f.3

-- `left` is a phrase of level l + 1 so far, and each longer one goes on from it
pub record Midway (l : ℕ) (old now : List TokenOf) (left : ExprOf) : Type 0 where
  pub found : Reads (suc l) old left now
  pub each : GoesFrom l old left now
  pub shorter : length now < length old

pub Midway-init : (l : ℕ) (old now : List TokenOf) (left : ExprOf) → 2 ≤ l → Reads l old left now → IsOnly l old left now → length now < length old → Midway l old now left
Midway-init l old now left h r only short = record {
  found = read_tighter r;
  each = front_goes h only;
  shorter = short;
}

pub Midway-more : (l : ℕ) (old now before new : List TokenOf) (left right : ExprOf) (o : BinaryOperator) (t : TokenOf) → Midway l old now left → now ≡ t ∷ before → IsKeyword (operator_text o) t → level_of o ≡ suc l → Reads l before right new → IsOnly l before right new → length new < length before → Midway l old new (binary o left right)
Midway-more l old now before new left right o t m is k d r only short = record {
  found = read_binary (rw is at m.found) k d r;
  each = operand_goes o (rw is at m.each) k d only;
  shorter = let n : length now ≡ suc (length before) = ap length is in omega (arith, m.shorter);
}

pub Midway-only : (l : ℕ) (old now : List TokenOf) (left : ExprOf) → Midway l old now left → ((t : TokenOf) (rest : List TokenOf) (o : BinaryOperator) → now ≡ t ∷ rest → IsKeyword (operator_text o) t → level_of o ≢ suc l) → IsOnly (suc l) old left now
Midway-only l old now left m none e after r h = Goes-stop (m.each e after r h) none

-- what holds where no phrase of the level below stands first holds where none of the level does
pub none_first : (l : ℕ) (old : List TokenOf) (P : Type 0) → 2 ≤ l → ((e : ExprOf) (after : List TokenOf) → Reads l old e after → CanEnd l after → P) → (e : ExprOf) (after : List TokenOf) → Reads (suc l) old e after → CanEnd (suc l) after → P
none_first l old P h none e after r end = let f = Reads-front h r in none f.0 f.1 f.2 (Goes-ends f.3 end)

-- the same after an operator
pub none_next : (l : ℕ) (old now before : List TokenOf) (left : ExprOf) (o : BinaryOperator) (t : TokenOf) (P : Type 0) → Midway l old now left → now ≡ t ∷ before → IsKeyword (operator_text o) t → level_of o ≡ suc l → ((e : ExprOf) (after : List TokenOf) → Reads l before e after → CanEnd l after → P) → (e : ExprOf) (after : List TokenOf) → Reads (suc l) old e after → CanEnd (suc l) after → P
none_next l old now before left o t P m is k d none e after r end =
    let g = rw is at (m.each e after r end) in
    let f = Goes-next o g k d end in none f.0 f.1 f.2 (Goes-ends f.3 end)
