-- Phrases that begin alike, and can end where they do, are one.
use Rattle.std.proofs.Common.{◌≡◌, ◌≢◌, ℕ, zero, suc, ◌≤◌, List, [], ◌∷◌, None, Some, codes, refl, sym, ap, ◌∙◌, subst, arith}
use Rattle.odata_lex.specs.Token.{TokenOf}
use Rattle.odata_lex.specs.declared.token.TokenKind.TheVariants.{OpenParenthesis, CloseParenthesis, Comma, Slash}
use Rattle.odata_parse.specs.declared.tree.UnaryOperator.{UnaryOperator}
use Rattle.odata_parse.specs.declared.tree.UnaryFunction.{UnaryFunction}
use Rattle.odata_parse.specs.declared.tree.BinaryFunction.{BinaryFunction}
use Rattle.odata_parse.specs.Apply.{ReadsName, a_word, ReadsAlias, an_alias, ReadsAggregateItem, of_column, of_count, ReadsAggregate, an_aggregate, ReadsNames, ReadsTransformation, a_filter, an_aggregation, a_grouping, a_grouping_with}
use Rattle.odata_parse.specs.Expression.{Reads, read_group, read_literal, read_name, read_unary_call, read_binary_call, read_in, read_unary, read_binary, read_tighter, IsUnaryOperator, top}
use Rattle.odata_parse.specs.Keyword.{IsKeyword, IsName, unary_function_text, binary_function_text}
use Rattle.odata_parse.specs.List.{Separated, Enclosed}
use Rattle.odata_parse.specs.Literal.{ReadsLiteral}
use Rattle.odata_parse.specs.Options.{ReadsOrderItem, order_alone, order_ascending, order_descending, ReadsSelectItem, select_all, select_name, ReadsKeyPair, key_value, IsKey, key_single, key_named}
use Rattle.odata_parse.specs.Parsing.{CanEnd, IsAfterItem}
use Rattle.odata_parse.specs.Tree.{LiteralOf, ExprOf, name, unary, in_list, unary_call, binary_call, OrderItemOf, SelectItemOf, selected, KeyPairOf, KeyOf, single, named, AggregateItemOf, counted, TransformationOf, filter_by, aggregate, group_by}
use Rattle.odata_parse.proofs.ApplyLemmas.{name_no_dollar, method_unique, aggregate_keyword, filter_parts, GroupTail, group_alone, group_with, group_parts, only_aggregate}
use Rattle.odata_parse.proofs.KeywordLemmas.{Keyword, keyword_text, filter_word, aggregate_word, groupby_word}
use Rattle.odata_parse.proofs.ListLemmas.{HasOnlyItems, Separated-only, Enclosed-only}
use Rattle.odata_parse.proofs.LiteralLemmas.{value_only}
use Rattle.odata_parse.proofs.OptionLemmas.{asc_follows, desc_follows, order_tail, no_word_after, OrderTail-alone, OrderTail-ascending, OrderTail-descending, select_star, select_word, pairs_have_equals, literal_no_equals}
use Rattle.odata_parse.proofs.PhraseLemmas.{level_from_three, keyword_unique, in_follows, operator_follows, CanEnd-pred, item_ends, close_ends, comma_ends, IsOnly, GoesFrom, front_goes, operand_goes, Goes-stop}
use Rattle.odata_parse.proofs.PrimaryLemmas.{no_sign, Reads-sign, Reads-unsigned, member_tail, Tail-stop, Tail-in, Reads-group, literal_only, name_no_value, word_is_name, word_is_call, unary_no_value, binary_no_value, Calls-unary, Calls-binary, same_rest}

-- values
values_only : HasOnlyItems ReadsLiteral
values_only old now v r end w after s h = value_only r s

-- primaries
group_only : {o c : TokenOf} {before now : List TokenOf} {e : ExprOf} → o.kind ≡ OpenParenthesis → IsOnly top before e (c ∷ now) → IsOnly zero (o ∷ before) e now
group_only p only e after s h =
    let g = Reads-group p s in
    let u = only e (g.0 ∷ after) g.1 (close_ends 8 g.0 after g.2) in (u.0, same_rest refl u.1)

name_only : {t : TokenOf} {now : List TokenOf} {bytes : List ℕ} → IsName bytes t → CanEnd zero now → IsOnly zero (t ∷ now) (name bytes) now
name_only {t} {bytes} n end e after s h =
    let u = word_is_name n.is_word (λ v. name_no_value t bytes v n) (λ o rest is. (rw is at end).no_call) s in (ap name n.spelled ∙ u.0, u.1)

unary_call_only : {t o c : TokenOf} {before now : List TokenOf} {e : ExprOf} (f : UnaryFunction) → IsKeyword (unary_function_text f) t → o.kind ≡ OpenParenthesis → IsOnly top before e (c ∷ now) → IsOnly zero (t ∷ o ∷ before) (unary_call f e) now
unary_call_only f k p only e after s h =
    let r = Calls-unary f k.spelled (word_is_call k.is_word (unary_no_value f k) p h s) in
    let u = only r.0 (r.1 ∷ after) r.2 (close_ends 8 r.1 after r.3) in (ap (unary_call f) u.0 ∙ r.4, same_rest refl u.1)

binary_call_only : {t o s c : TokenOf} {before mid now : List TokenOf} {a b : ExprOf} (f : BinaryFunction) → IsKeyword (binary_function_text f) t → o.kind ≡ OpenParenthesis → IsOnly top before a (s ∷ mid) → IsOnly top mid b (c ∷ now) → IsOnly zero (t ∷ o ∷ before) (binary_call f a b) now
binary_call_only f k p only other e after s h =
    let r = Calls-binary f k.spelled (word_is_call k.is_word (binary_no_value f k) p h s) in
    let u = only r.left (r.comma ∷ r.mid) r.reads_left (comma_ends 8 r.comma r.mid r.separates) in
    let w = other r.right (r.closing ∷ after) (rw (← same_rest refl u.1) at r.reads_right) (close_ends 8 r.closing after r.closes) in
    (rw (u.0, w.0) r.is, same_rest refl w.1)

-- levels
in_only : {t : TokenOf} {before mid now : List TokenOf} {e : ExprOf} {vs : List LiteralOf} → IsKeyword (codes "in") t → Enclosed ReadsLiteral Comma mid vs now → IsOnly zero before e (t ∷ mid) → IsOnly (suc zero) before (in_list e vs) now
in_only k p only e after s h =
    let i = Tail-in (member_tail only s h) k h in
    let u = Enclosed-only tt values_only p i.0 after i.1 in (cc (u.0, i.2), u.1)

unary_only : {t : TokenOf} {before now : List TokenOf} {e : ExprOf} (o : UnaryOperator) → IsUnaryOperator o t → IsOnly (suc (suc zero)) before e now → IsOnly (suc (suc zero)) (t ∷ before) (unary o e) now
unary_only o k only e after s h = let q = Reads-sign o k s in let u = only q.0 after q.1 h in (ap (unary o) u.0 ∙ sym q.2, u.1)

Goes-only : {l : ℕ} {old now : List TokenOf} {e : ExprOf} → CanEnd (suc l) now → GoesFrom l old e now → IsOnly (suc l) old e now
Goes-only {l} end goes e after s h =
    Goes-stop (goes e after s h) (λ t rest o is k d. omega (arith, d, (subst (λ (b : List TokenOf). CanEnd (suc l) b) is end).no_operator o k))

tighter_only : (l : ℕ) {old now : List TokenOf} {e : ExprOf} → Reads l old e now → CanEnd (suc l) now → IsOnly l old e now → IsOnly (suc l) old e now
tighter_only zero r end only e after s h =
    Tail-stop (member_tail only s h) (λ t rest is k. (subst (λ (b : List TokenOf). CanEnd (suc zero) b) is end).no_list (omega arith) k)
tighter_only (suc zero) r end only e after s h =
    only e after (Reads-unsigned s (λ t rest o is k. no_sign o k (omega arith) (rw is at r))) (CanEnd-pred 1 after h)
tighter_only (suc (suc l)) r end only e after s h = Goes-only end (front_goes (omega arith) only) e after s h

mutual
  -- a phrase that can end where it does is the only one
  pub Reads-only : {l : ℕ} {old : List TokenOf} {e : ExprOf} {now : List TokenOf} → Reads l old e now → CanEnd l now → IsOnly l old e now
  Reads-only (read_group {c} {after} p r q) end = group_only p (Reads-only r (close_ends 8 c after q))
  Reads-only (read_literal {v} h) end = λ e after s g. literal_only v h s
  Reads-only (read_name n) end = name_only n end
  Reads-only (read_unary_call {c} {after} {f} k p r q) end = unary_call_only f k p (Reads-only r (close_ends 8 c after q))
  Reads-only (read_binary_call {s} {c} {mid} {after} {f} k p r m q d) end = binary_call_only f k p (Reads-only r (comma_ends 8 s mid m)) (Reads-only q (close_ends 8 c after d))
  Reads-only (read_in r k p) end = in_only k p (Reads-only r (in_follows k))
  Reads-only (read_unary {o} k r) end = unary_only o k (Reads-only r end)
  Reads-only (read_binary {l} {after} {o} r k d q) end = Goes-only end (operand_goes o (Reads-goes (omega (arith, d, level_from_three o)) r (operator_follows l o k d)) k d (Reads-only q (CanEnd-pred l after end)))
  Reads-only (read_tighter {l} {after} r) end = tighter_only l r end (Reads-only r (CanEnd-pred l after end))

  -- and where it may go on with an operator of its level, each longer one goes on from it
  Reads-goes : {l : ℕ} {old : List TokenOf} {e : ExprOf} {now : List TokenOf} → 2 ≤ l → Reads (suc l) old e now → CanEnd l now → GoesFrom l old e now
  Reads-goes h (read_in r k p) end = absurd (omega arith)
  Reads-goes h (read_unary k r) end = absurd (omega arith)
  Reads-goes h (read_binary {l} {o} r k d q) end = operand_goes o (Reads-goes h r (operator_follows l o k d)) k d (Reads-only q end)
  Reads-goes h (read_tighter r) end = front_goes h (Reads-only r end)

-- items of `$orderby`, of `$select` and of keys
order_stops : (now : List TokenOf) (word : List ℕ) → IsAfterItem now → (t : TokenOf) (rest : List TokenOf) → now ≡ t ∷ rest → ¬ (IsKeyword word t)
order_stops now word end t rest is k = no_word_after t rest k.is_word (subst IsAfterItem is end)

order_only : HasOnlyItems ReadsOrderItem
order_only old now x (order_alone r) end y after s h = OrderTail-alone (order_stops now _ end) (order_stops now _ end) (order_tail (Reads-only r (item_ends 8 now end)) s h)
order_only old now x (order_ascending {t} r k) end y after s h = OrderTail-ascending k (order_tail (Reads-only r (asc_follows t k)) s h) h
order_only old now x (order_descending {t} r k) end y after s h = OrderTail-descending k (order_tail (Reads-only r (desc_follows t k)) s h) h

select_only : HasOnlyItems ReadsSelectItem
select_only old now x (select_all k) end y after s h = select_star k s
select_only old now x (select_name k e) end y after s h = let u = select_word k s in (ap selected e ∙ u.0, u.1)

pair_only : {old now after : List TokenOf} {x y : KeyPairOf} → ReadsKeyPair old x now → ReadsKeyPair old y after → (x ≡ y) × (now ≡ after)
pair_only (key_value k e q r) (key_value j d p s) = let u = value_only r s in (rw (e, d, u.0) refl, u.1)

pairs_only : HasOnlyItems ReadsKeyPair
pairs_only old now x r end y after s h = pair_only r s

-- parts of `$apply`
word_only : {old now after : List TokenOf} {a b : List ℕ} → ReadsName old a now → ReadsName old b after → (a ≡ b) × (now ≡ after)
word_only (a_word k e) (a_word j d) = (e ∙ sym d, refl)

words_only : HasOnlyItems ReadsName
words_only old now x r end y after s h = word_only r s

alias_only : {old now after : List TokenOf} {a b : List ℕ} → ReadsAlias old a now → ReadsAlias old b after → (a ≡ b) × (now ≡ after)
alias_only (an_alias k r) (an_alias j s) = word_only r s

aggregate_item_only : {old now after : List TokenOf} {x y : AggregateItemOf} → ReadsAggregateItem old x now → ReadsAggregateItem old y after → (x ≡ y) × (now ≡ after)
aggregate_item_only (of_column {w} {k} {column} {alias} {m} {mid} r p q s) (of_column {w = v} {k = j} {column = other} {alias = beta} {m = n} {mid = rest} o a b c) =
    let u = word_only r o in
    let e : k ≡ j = let i = u.1 in cc in
    let f : mid ≡ rest = let i = u.1 in cc in
    let i = alias_only s (rw (← f) at c) in
    let d = method_unique m n q (rw (← e) at b) in
    (cc (u.0, d, i.0), i.1)
aggregate_item_only (of_column r p q s) (of_count d l a) = absurd (name_no_dollar r d)
aggregate_item_only (of_count d l a) (of_column r p q s) = absurd (name_no_dollar r d)
aggregate_item_only (of_count k l a) (of_count j m b) = let u = alias_only a b in (ap counted u.0, u.1)

aggregate_items_only : HasOnlyItems ReadsAggregateItem
aggregate_items_only old now x r end y after s h = aggregate_item_only r s

aggregate_only : {old now after : List TokenOf} {xs ys : List AggregateItemOf} → ReadsAggregate old xs now → ReadsAggregate old ys after → (xs ≡ ys) × (now ≡ after)
aggregate_only (an_aggregate k r) (an_aggregate j s) = Enclosed-only tt aggregate_items_only r _ _ s

names_only : {old now after : List TokenOf} {xs ys : List (List ℕ)} → ReadsNames old xs now → ReadsNames old ys after → (xs ≡ ys) × (now ≡ after)
names_only r s = Enclosed-only tt words_only r _ _ s

tail_alone : {names : List (List ℕ)} {c : TokenOf} {now after : List TokenOf} {y : TransformationOf} → GroupTail names (c ∷ now) y after → c.kind ≡ CloseParenthesis → (group_by names None ≡ y) × (now ≡ after)
tail_alone (group_alone q) h = (refl, refl)
tail_alone (group_with m a q) h = absurd (let k : CloseParenthesis ≡ Comma = sym h ∙ m in cc)

tail_aggregate : {names : List (List ℕ)} {s c : TokenOf} {mid now after : List TokenOf} {items : List AggregateItemOf} {y : TransformationOf} → GroupTail names (s ∷ mid) y after → s.kind ≡ Comma → ReadsAggregate mid items (c ∷ now) → (group_by names (Some items) ≡ y) × (now ≡ after)
tail_aggregate (group_alone q) h a = absurd (let k : Comma ≡ CloseParenthesis = sym h ∙ q in cc)
tail_aggregate {names} (group_with m b q) h a = let u = aggregate_only a b in (ap (λ (items : List AggregateItemOf). group_by names (Some items)) u.0, same_rest refl u.1)

aggregate_first : {old now : List TokenOf} {items : List AggregateItemOf} (k : Keyword) → k ≢ aggregate_word → ReadsAggregate old items now → (t : TokenOf) (rest : List TokenOf) → old ≡ t ∷ rest → ¬ (IsKeyword (keyword_text k) t)
aggregate_first k other r t rest is h = other (keyword_unique k aggregate_word h (aggregate_keyword (rw is at r)))

aggregation_only : {old now after : List TokenOf} {xs : List AggregateItemOf} {y : TransformationOf} → ReadsAggregate old xs now → (ys : List AggregateItemOf) × ReadsAggregate old ys after × (aggregate ys ≡ y) → (aggregate xs ≡ y) × (now ≡ after)
aggregation_only r (ys, s, e) = let u = aggregate_only r s in (ap aggregate u.0 ∙ e, u.1)

transformation_only : HasOnlyItems ReadsTransformation
transformation_only old now x (a_filter {c} k p r q) end y after s h =
    let f = filter_parts s k in
    let u = Reads-only r (close_ends 8 c now q) f.expr (f.closing ∷ after) (rw (← same_rest refl f.begins) at f.reads) (close_ends 8 f.closing after f.closes) in
    (ap filter_by u.0 ∙ f.is, same_rest refl u.1)
transformation_only old now x (an_aggregation r) end y after s h = aggregation_only r (only_aggregate s (aggregate_first filter_word (λ e. cc) r) (aggregate_first groupby_word (λ e. cc) r))
transformation_only old now x (a_grouping {names} k p r q) end y after s h =
    let g = group_parts s k in
    let u = names_only r (rw (← same_rest refl g.begins) at g.reads) in
    tail_alone (rw (← u.0, ← u.1) at g.tail) q
transformation_only old now x (a_grouping_with k p r m a q) end y after s h =
    let g = group_parts s k in
    let u = names_only r (rw (← same_rest refl g.begins) at g.reads) in
    tail_aggregate (rw (← u.0, ← u.1) at g.tail) m a

-- trees of all tokens
pub filter_tree : (tokens : List TokenOf) (x y : ExprOf) → Reads top tokens x [] → Reads top tokens y [] → x ≡ y
filter_tree tokens x y r s = (Reads-only r tt y [] s tt).0

pub order_tree : (tokens : List TokenOf) (xs ys : List OrderItemOf) → Separated ReadsOrderItem Comma tokens xs [] → Separated ReadsOrderItem Comma tokens ys [] → xs ≡ ys
order_tree tokens xs ys r s = (Separated-only tt order_only r tt ys [] s tt).0

pub select_tree : (tokens : List TokenOf) (xs ys : List SelectItemOf) → Separated ReadsSelectItem Comma tokens xs [] → Separated ReadsSelectItem Comma tokens ys [] → xs ≡ ys
select_tree tokens xs ys r s = (Separated-only tt select_only r tt ys [] s tt).0

pub apply_tree : (tokens : List TokenOf) (xs ys : List TransformationOf) → Separated ReadsTransformation Slash tokens xs [] → Separated ReadsTransformation Slash tokens ys [] → xs ≡ ys
apply_tree tokens xs ys r s = (Separated-only tt transformation_only r tt ys [] s tt).0

pub key_tree : (tokens : List TokenOf) (x y : KeyOf) → IsKey tokens x → IsKey tokens y → x ≡ y
key_tree tokens x y (key_single r) (key_single s) = ap single (value_only r s).0
key_tree tokens x y (key_single r) (key_named s) = absurd (literal_no_equals r (pairs_have_equals s))
key_tree tokens x y (key_named r) (key_single s) = absurd (literal_no_equals s (pairs_have_equals r))
key_tree tokens x y (key_named r) (key_named s) = ap named (Separated-only tt pairs_only r tt _ [] s tt).0
