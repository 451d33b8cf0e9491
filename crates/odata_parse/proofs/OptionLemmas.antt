-- What the items of options are by their first tokens.
use Rattle.std.proofs.Common.{◌≡◌, ◌≢◌, ℕ, true, false, List, [], ◌∷◌, codes, refl, sym, ap, ◌∙◌, subst}
use Rattle.odata_lex.specs.Token.{TokenOf}
use Rattle.odata_lex.specs.declared.token.TokenKind.TheVariants.{Decimal, Number, Word, Comma, Star, EqualsSign}
use Rattle.odata_parse.specs.Expression.{Reads, top}
use Rattle.odata_parse.specs.Keyword.{IsKeyword}
use Rattle.odata_parse.specs.List.{Separated, last_item, more_items}
use Rattle.odata_parse.specs.Literal.{ReadsLiteral, one_token, behind_minus, negative_number, negative_decimal}
use Rattle.odata_parse.specs.Options.{ReadsOrderItem, order_alone, order_ascending, order_descending, ReadsSelectItem, select_all, select_name, ReadsKeyPair, key_value, IsKey, key_single, key_named}
use Rattle.odata_parse.specs.Parsing.{CanEnd, MayFollow, IsAfterItem, IsCloseOrSeparator, HasEqualsSign}
use Rattle.odata_parse.specs.Tree.{LiteralOf, ExprOf, OrderItemOf, order_item, SelectItemOf, all_columns, selected, KeyPairOf, key_pair, KeyOf, single, named}
use Rattle.odata_parse.proofs.KeywordLemmas.{operator, in_word, asc_word, desc_word}
use Rattle.odata_parse.proofs.PhraseLemmas.{keyword_unique, word_no_open, item_ends}

-- after an expression: nothing, `asc` or `desc`
pub data OrderTail : ExprOf → List TokenOf → OrderItemOf → List TokenOf → Type 0 where
  tail_alone : {e : ExprOf} {after : List TokenOf} → OrderTail e after (order_item e false) after
  tail_ascending : {t : TokenOf} {e : ExprOf} {after : List TokenOf} → IsKeyword (codes "asc") t → OrderTail e (t ∷ after) (order_item e false) after
  tail_descending : {t : TokenOf} {e : ExprOf} {after : List TokenOf} → IsKeyword (codes "desc") t → OrderTail e (t ∷ after) (order_item e true) after

pub asc_follows : (t : TokenOf) → IsKeyword (codes "asc") t → MayFollow 8 t
asc_follows t h = record {
  no_call = word_no_open t h.is_word;
  no_list = λ _ k. let j = keyword_unique asc_word in_word h k in absurd (cc);
  no_operator = λ o k. let j = keyword_unique asc_word (operator o) h k in absurd (cc);
}

pub desc_follows : (t : TokenOf) → IsKeyword (codes "desc") t → MayFollow 8 t
desc_follows t h = record {
  no_call = word_no_open t h.is_word;
  no_list = λ _ k. let j = keyword_unique desc_word in_word h k in absurd (cc);
  no_operator = λ o k. let j = keyword_unique desc_word (operator o) h k in absurd (cc);
}

order_front : {before after : List TokenOf} {x : OrderItemOf} → ReadsOrderItem before x after → IsAfterItem after → (e : ExprOf) × (mid : List TokenOf) × Reads top before e mid × CanEnd top mid × OrderTail e mid x after
order_front {after} (order_alone {e} r) h = (e, after, r, item_ends 8 after h, tail_alone)
order_front {after} (order_ascending {t} {e} r k) h = (e, t ∷ after, r, asc_follows t k, tail_ascending k)
order_front {after} (order_descending {t} {e} r k) h = (e, t ∷ after, r, desc_follows t k, tail_descending k)

pub order_tail : {old now after : List TokenOf} {v : ExprOf} {x : OrderItemOf} → ((e : ExprOf) (rest : List TokenOf) → Reads top old e rest → CanEnd top rest → (v ≡ e) × (now ≡ rest)) → ReadsOrderItem old x after → IsAfterItem after → OrderTail v now x after
order_tail only r h = let f = order_front r h in let s = only f.0 f.1 f.2 f.3 in rw (s.0, s.1) f.4

pub order_none : {old : List TokenOf} (P : Type 0) → ((e : ExprOf) (rest : List TokenOf) → Reads top old e rest → CanEnd top rest → P) → (x : OrderItemOf) (after : List TokenOf) → ReadsOrderItem old x after → IsAfterItem after → P
order_none P none x after r h = let f = order_front r h in none f.0 f.1 f.2 f.3

pub no_word_after : (t : TokenOf) (after : List TokenOf) → t.kind ≡ Word → IsAfterItem (t ∷ after) → ⊥
no_word_after t after w h = subst IsCloseOrSeparator w h

pub OrderTail-descending : {v : ExprOf} {t : TokenOf} {now after : List TokenOf} {x : OrderItemOf} → IsKeyword (codes "desc") t → OrderTail v (t ∷ now) x after → IsAfterItem after → (order_item v true ≡ x) × (now ≡ after)
OrderTail-descending {t} {now} k tail_alone h = absurd (no_word_after t now k.is_word h)
OrderTail-descending k (tail_ascending j) h = absurd (let e = keyword_unique desc_word asc_word k j in cc)
OrderTail-descending k (tail_descending j) h = (refl, refl)

pub OrderTail-ascending : {v : ExprOf} {t : TokenOf} {now after : List TokenOf} {x : OrderItemOf} → IsKeyword (codes "asc") t → OrderTail v (t ∷ now) x after → IsAfterItem after → (order_item v false ≡ x) × (now ≡ after)
OrderTail-ascending {t} {now} k tail_alone h = absurd (no_word_after t now k.is_word h)
OrderTail-ascending k (tail_ascending j) h = (refl, refl)
OrderTail-ascending k (tail_descending j) h = absurd (let e = keyword_unique asc_word desc_word k j in cc)

pub OrderTail-alone : {v : ExprOf} {now after : List TokenOf} {x : OrderItemOf} → ((t : TokenOf) (rest : List TokenOf) → now ≡ t ∷ rest → ¬ (IsKeyword (codes "desc") t)) → ((t : TokenOf) (rest : List TokenOf) → now ≡ t ∷ rest → ¬ (IsKeyword (codes "asc") t)) → OrderTail v now x after → (order_item v false ≡ x) × (now ≡ after)
OrderTail-alone d a tail_alone = (refl, refl)
OrderTail-alone {after} d a (tail_ascending {t} k) = absurd (a t after refl k)
OrderTail-alone {after} d a (tail_descending {t} k) = absurd (d t after refl k)

-- items of `$select`
pub select_star : {t : TokenOf} {now after : List TokenOf} {x : SelectItemOf} → t.kind ≡ Star → ReadsSelectItem (t ∷ now) x after → (all_columns ≡ x) × (now ≡ after)
select_star h (select_all k) = (refl, refl)
select_star h (select_name k e) = absurd (let w : Star ≡ Word = sym h ∙ k in cc)

pub select_word : {t : TokenOf} {now after : List TokenOf} {x : SelectItemOf} → t.kind ≡ Word → ReadsSelectItem (t ∷ now) x after → (selected t.text ≡ x) × (now ≡ after)
select_word h (select_all k) = absurd (let w : Word ≡ Star = sym h ∙ k in cc)
select_word h (select_name k e) = (ap selected (sym e), refl)

pub select_none : {t : TokenOf} {now after : List TokenOf} {x : SelectItemOf} → t.kind ≢ Star → t.kind ≢ Word → ReadsSelectItem (t ∷ now) x after → ⊥
select_none s w (select_all k) = s k
select_none s w (select_name k e) = w k

-- keys
pub record KeyValue (old : List TokenOf) (x : KeyPairOf) (after : List TokenOf) : Type 0 where
  pub first : TokenOf
  pub second : TokenOf
  pub mid : List TokenOf
  pub value : LiteralOf
  pub begins : old ≡ first ∷ second ∷ mid
  pub is_word : first.kind ≡ Word
  pub is_equals : second.kind ≡ EqualsSign
  pub reads : ReadsLiteral mid value after
  pub is : key_pair first.text value ≡ x

pub pair_parts : {old after : List TokenOf} {x : KeyPairOf} → ReadsKeyPair old x after → KeyValue old x after
pair_parts (key_value {t} {s} {before} {v} k e q r) = record {
  first = t;
  second = s;
  mid = before;
  value = v;
  begins = refl;
  is_word = k;
  is_equals = q;
  reads = r;
  is = ap (λ (b : List ℕ). key_pair b v) (sym e);
}

pub pairs_have_equals : {tokens after : List TokenOf} {pairs : List KeyPairOf} → Separated ReadsKeyPair Comma tokens pairs after → HasEqualsSign tokens
pairs_have_equals (last_item (key_value k e q r)) = q
pairs_have_equals (more_items (key_value k e q r) c s) = q

pub literal_no_equals : {tokens : List TokenOf} {v : LiteralOf} → ReadsLiteral tokens v [] → HasEqualsSign tokens → ⊥
literal_no_equals (one_token h) e = e
literal_no_equals (behind_minus m (negative_number n p)) e = let w : Number ≡ EqualsSign = sym n ∙ e in cc
literal_no_equals (behind_minus m (negative_decimal n p)) e = let w : Decimal ≡ EqualsSign = sym n ∙ e in cc

pub key_by_pairs : {tokens : List TokenOf} {key : KeyOf} → HasEqualsSign tokens → IsKey tokens key → (pairs : List KeyPairOf) × Separated ReadsKeyPair Comma tokens pairs [] × (named pairs ≡ key)
key_by_pairs h (key_single r) = absurd (literal_no_equals r h)
key_by_pairs h (key_named {pairs} s) = (pairs, s, refl)

pub key_by_value : {tokens : List TokenOf} {key : KeyOf} → ¬ (HasEqualsSign tokens) → IsKey tokens key → (v : LiteralOf) × ReadsLiteral tokens v [] × (single v ≡ key)
key_by_value h (key_single {v} r) = (v, r, refl)
key_by_value h (key_named s) = absurd (h (pairs_have_equals s))

-- the first two tokens, said twice
pub same_two : {old now mid rest : List TokenOf} {a b x y : TokenOf} → old ≡ a ∷ b ∷ mid → old ≡ x ∷ now → now ≡ y ∷ rest → (a ≡ x) × (mid ≡ rest)
same_two {now} {mid} {rest} {a} {b} {x} {y} h e f =
    let k : a ∷ b ∷ mid ≡ x ∷ y ∷ rest = sym h ∙ e ∙ ap (λ (s : List TokenOf). x ∷ s) f in ((cc), (cc))
