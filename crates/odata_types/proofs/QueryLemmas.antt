-- A filter of at most 1,024 tokens in a short source has few nodes and short texts.
use Rattle.std.proofs.Common.{◌≡◌, ℕ, zero, suc, ◌+◌, ◌-◌, ◌≤◌, Bool, true, false, List, [], ◌∷◌, ◌++◌, length, take, drop, refl, ap, arith, length-append, length-drop, if◌then◌else◌}
use Rattle.std.specs.Prelude.{pos, All, ◌==◌}
use Rattle.std.proofs.lemmas.List.Elements.{All-head, All-tail}
use Rattle.std.proofs.lemmas.Int.{ints}
use Rattle.odata_lex.specs.Lexer.{AreTokens, IsTokenAt}
use Rattle.odata_lex.specs.Token.{TokenOf, IsOfTokenKind, apostrophes_doubled, month_of, year_of, apostrophe, token_views, token_text}
use Rattle.odata_lex.specs.declared.token.Token.{Token}
use Rattle.odata_lex.specs.declared.token.TokenKind.{TokenKind}
use Rattle.odata_lex.specs.declared.token.TokenKind.TheVariants as kinds
use Rattle.odata_parse.specs.Expression.{IsFilter, Reads, read_binary, read_binary_call, read_group, read_in, read_literal, read_name, read_tighter, read_unary, read_unary_call}
use Rattle.odata_parse.specs.List.{Enclosed, Separated, enclosed, last_item, more_items}
use Rattle.odata_parse.specs.Literal.{IsLiteralOfKind, ReadsLiteral, ReadsNegative, behind_minus, negative_decimal, negative_number, one_token}
use Rattle.odata_parse.specs.Tree as tree
use Rattle.odata_parse.specs.Tree.{LiteralOf, ExprOf}
use Rattle.odata_types.specs.Input.{HasShortTexts, IsQueried, IsShort, IsShortLiteral, nodes}
use Rattle.odata_types.proofs.RowLemmas.{month_days}

-- ---- as many nodes as tokens, at most

negative_size : {before after : List TokenOf} {v : LiteralOf} → ReadsNegative before v after → length after + 1 ≤ length before
negative_size (negative_number k n) = omega arith
negative_size (negative_decimal k n) = omega arith

literal_size : {before after : List TokenOf} {v : LiteralOf} → ReadsLiteral before v after → length after + 1 ≤ length before
literal_size (one_token v) = omega arith
literal_size (behind_minus m r) = let h = negative_size r in omega (arith, h)

items_size : {sign : TokenKind} {before after : List TokenOf} {vs : List LiteralOf} → Separated ReadsLiteral sign before vs after → length vs + length after ≤ length before
items_size (last_item v) = let h = literal_size v in omega (arith, h)
items_size (more_items v s rest) = let h = literal_size v in let i = items_size rest in omega (arith, h, i)

list_size : {sign : TokenKind} {before after : List TokenOf} {vs : List LiteralOf} → Enclosed ReadsLiteral sign before vs after → length vs + length after ≤ length before
list_size (enclosed o items c) = let h = items_size items in omega (arith, h)

pub tree_size : {l : ℕ} {before after : List TokenOf} {e : ExprOf} → Reads l before e after → nodes e + length after ≤ length before
tree_size (read_group o r c) = let h = tree_size r in omega (arith, h)
tree_size (read_literal v) = omega arith
tree_size (read_name n) = omega arith
tree_size (read_unary_call k o r c) = let h = tree_size r in omega (arith, h)
tree_size (read_binary_call k o a s b c) = let h = tree_size a in let i = tree_size b in omega (arith, h, i)
tree_size (read_in r k items) = let h = tree_size r in let i = list_size items in omega (arith, h, i)
tree_size (read_unary o r) = let h = tree_size r in omega (arith, h)
tree_size (read_binary a k l b) = let h = tree_size a in let i = tree_size b in omega (arith, h, i)
tree_size (read_tighter r) = tree_size r

-- ---- short texts

-- a token of its kind, with a short text
abbrev IsShortToken : TokenOf → Type 0
IsShortToken t = IsOfTokenKind t.kind t.text × IsShort t.text

abbrev pub AreShort : List TokenOf → Type 0
AreShort [] = Unit {0}
AreShort (t ∷ ts) = IsShortToken t × AreShort ts

doubled_len : (content : List ℕ) → length content ≤ length (apostrophes_doubled content)
doubled_len [] = omega arith
doubled_len (b ∷ content) = by (b == apostrophe) (doubled_len content)
  where
    by : (c : Bool) → length content ≤ length (apostrophes_doubled content) → length (b ∷ content) ≤ length (if c then apostrophe ∷ apostrophe ∷ apostrophes_doubled content else b ∷ apostrophes_doubled content)
    by true h = omega (arith, h)
    by false h = omega (arith, h)

quoted_len : (content bytes : List ℕ) → bytes ≡ apostrophe ∷ apostrophes_doubled content ++ apostrophe ∷ [] → IsShort bytes → IsShort content
quoted_len content bytes e h = let n : length bytes ≡ length (apostrophe ∷ apostrophes_doubled content ++ apostrophe ∷ []) = ap length e in
    let m = length-append (apostrophes_doubled content) (apostrophe ∷ []) in omega (arith, n, m, h, doubled_len content)

word_short : (bytes : List ℕ) (v : LiteralOf) → IsLiteralOfKind kinds.Word bytes v → IsShortLiteral v
word_short bytes tree.null h = tt
word_short bytes (tree.boolean true) h = tt
word_short bytes (tree.boolean false) h = tt
word_short bytes (tree.number n) h = tt
word_short bytes (tree.text t) h = absurd h
word_short bytes (tree.date y m d) h = absurd h
word_short bytes (tree.decimal n) h = tt

literal_short : (k : TokenKind) (bytes : List ℕ) (v : LiteralOf) → IsOfTokenKind k bytes → IsShort bytes → IsLiteralOfKind k bytes v → IsShortLiteral v
literal_short kinds.Text bytes v f s h = rw h.2 (quoted_len h.0 bytes h.1 s)
literal_short kinds.Date bytes v f s h = let day = f.day.1 in rw h (omega (arith, ints, day.0.1), omega (arith, ints, day.1.1), omega (arith, ints, day.2.1, month_days (pos (year_of bytes)) (month_of bytes)))
literal_short kinds.Number bytes v f s h = rw h tt
literal_short kinds.Decimal bytes v f s h = rw h tt
literal_short kinds.Word bytes v f s h = word_short bytes v h
literal_short k bytes v f s h = absurd h

negative_rest : {before after : List TokenOf} {v : LiteralOf} → ReadsNegative before v after → AreShort before → AreShort after
negative_rest (negative_number k n) s = s.1
negative_rest (negative_decimal k n) s = s.1

literal_rest : {before after : List TokenOf} {v : LiteralOf} → ReadsLiteral before v after → AreShort before → AreShort after
literal_rest (one_token v) s = s.1
literal_rest (behind_minus m r) s = negative_rest r s.1

items_short : {sign : TokenKind} {before after : List TokenOf} {vs : List LiteralOf} → Separated ReadsLiteral sign before vs after → AreShort before → AreShort after
items_short (last_item v) s = literal_rest v s
items_short (more_items v c rest) s = items_short rest (literal_rest v s).1

list_short : {sign : TokenKind} {before after : List TokenOf} {vs : List LiteralOf} → Enclosed ReadsLiteral sign before vs after → AreShort before → AreShort after
list_short (enclosed o items c) s = (items_short items s.1).1

pub tree_short : {l : ℕ} {before after : List TokenOf} {e : ExprOf} → Reads l before e after → AreShort before → HasShortTexts e × AreShort after
tree_short (read_group o r c) s = let h = tree_short r s.1 in (h.0, h.1.1)
tree_short (read_literal {t} {after} {v} is) s = (literal_short t.kind t.text v s.0.0 s.0.1 is, s.1)
tree_short (read_name n) s = (tt, s.1)
tree_short (read_unary_call k o r c) s = let h = tree_short r s.1.1 in (h.0, h.1.1)
tree_short (read_binary_call k o a p b c) s = let h = tree_short a s.1.1 in let i = tree_short b h.1.1 in ((h.0, i.0), i.1.1)
tree_short (read_in r k items) s = let h = tree_short r s in (h.0, list_short items h.1.1)
tree_short (read_unary o r) s = tree_short r s.1
tree_short (read_binary a k l b) s = let h = tree_short a s in let i = tree_short b h.1.1 in ((h.0, i.0), i.1)
tree_short (read_tighter r) s = tree_short r s

-- ---- the tokens of a source

token_len : (source : List ℕ) (token : Token) → length (token_text source token) ≤ length source
token_len source token = let d = length-drop token.start source in let t = take_len (token.end - token.start) (drop token.start source) in omega (arith, d, t)
  where
    take_len : (n : ℕ) (xs : List ℕ) → length (take n xs) ≤ length xs
    take_len zero xs = omega arith
    take_len (suc n) [] = omega arith
    take_len (suc n) (x ∷ xs) = let h = take_len n xs in omega (arith, h)

pub tokens_short : (source : List ℕ) (tokens : List Token) → IsShort source → All (IsTokenAt source) tokens → AreShort (token_views source tokens)
tokens_short source [] s h = tt
tokens_short source (t ∷ ts) s h = (((All-head (IsTokenAt source) t ts h).form, omega (arith, s, token_len source t)), tokens_short source ts s (All-tail (IsTokenAt source) t ts h))

pub views_len : (source : List ℕ) (tokens : List Token) → length (token_views source tokens) ≡ length tokens
views_len source [] = refl
views_len source (t ∷ ts) = ap suc (views_len source ts)

pub filter_is_queried : (source : List ℕ) (tokens : List Token) (e : ExprOf) → AreTokens source tokens → IsShort source → IsFilter (token_views source tokens) e → IsQueried e
filter_is_queried source tokens e are s is = record {
  few = let h = tree_size is in omega (arith, h, views_len source tokens, are.few);
  short = (tree_short is (tokens_short source tokens s are.each)).0;
}
