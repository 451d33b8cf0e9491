-- What the parts of `$apply` are by their first tokens.
use Rattle.std.proofs.Common.{◌≡◌, ◌≢◌, ℕ, List, ◌∷◌, Some, None, codes, refl, sym, subst, ◌∙◌}
use Rattle.odata_lex.specs.Token.{TokenOf}
use Rattle.odata_lex.specs.declared.token.TokenKind.TheVariants.{Word, Dollar, OpenParenthesis, CloseParenthesis, Comma}
use Rattle.odata_parse.specs.declared.tree.AggregationMethod.{AggregationMethod}
use Rattle.odata_parse.specs.Apply.{ReadsName, a_word, ReadsAlias, an_alias, ReadsAggregateItem, of_column, of_count, ReadsAggregate, an_aggregate, ReadsNames, ReadsTransformation, a_filter, an_aggregation, a_grouping, a_grouping_with}
use Rattle.odata_parse.specs.Expression.{Reads, top}
use Rattle.odata_parse.specs.Keyword.{IsKeyword, lower, method_text}
use Rattle.odata_parse.specs.List.{Enclosed}
use Rattle.odata_parse.specs.Tree.{ExprOf, AggregateItemOf, aggregated, counted, TransformationOf, filter_by, aggregate, group_by}
use Rattle.odata_parse.proofs.KeywordLemmas.{method, filter_word, aggregate_word, groupby_word}
use Rattle.odata_parse.proofs.PhraseLemmas.{keyword_unique}

pub name_parts : {old after : List TokenOf} {text : List ℕ} → ReadsName old text after → (t : TokenOf) × (old ≡ t ∷ after) × (t.kind ≡ Word) × (t.text ≡ text)
name_parts (a_word {t} k e) = (t, refl, k, sym e)

pub alias_parts : {old after : List TokenOf} {text : List ℕ} → ReadsAlias old text after → (a : TokenOf) × (mid : List TokenOf) × (old ≡ a ∷ mid) × IsKeyword (codes "as") a × ReadsName mid text after
alias_parts (an_alias {a} {before} k r) = (a, before, refl, k, r)

pub method_unique : {t : TokenOf} (m n : AggregationMethod) → IsKeyword (method_text m) t → IsKeyword (method_text n) t → m ≡ n
method_unique m n h e = let k = keyword_unique (method m) (method n) h e in cc

pub record ColumnParts (old : List TokenOf) (x : AggregateItemOf) (after : List TokenOf) : Type 0 where
  pub word : TokenOf
  pub key : TokenOf
  pub column : List ℕ
  pub alias : List ℕ
  pub by : AggregationMethod
  pub mid : List TokenOf
  pub reads_column : ReadsName old column (word ∷ key ∷ mid)
  pub is_with : IsKeyword (codes "with") word
  pub is_method : IsKeyword (method_text by) key
  pub reads_alias : ReadsAlias mid alias after
  pub is : aggregated column by alias ≡ x

pub column_parts : {old after : List TokenOf} {x : AggregateItemOf} → ReadsAggregateItem old x after → ((t : TokenOf) (rest : List TokenOf) → old ≡ t ∷ rest → t.kind ≢ Dollar) → ColumnParts old x after
column_parts (of_column {w} {k} {column} {alias} {m} {mid} r p q s) none = record {
  word = w;
  key = k;
  column = column;
  alias = alias;
  by = m;
  mid = mid;
  reads_column = r;
  is_with = p;
  is_method = q;
  reads_alias = s;
  is = refl;
}
column_parts (of_count {t} {before} d l s) none = absurd (none t before refl d)

word_no_dollar : (t : TokenOf) → t.kind ≡ Word → t.kind ≡ Dollar → ⊥
word_no_dollar t h e = let k : Word ≡ Dollar = sym h ∙ e in cc

pub name_no_dollar : {t : TokenOf} {before after : List TokenOf} {text : List ℕ} → ReadsName (t ∷ before) text after → t.kind ≡ Dollar → ⊥
name_no_dollar {t} (a_word k e) d = word_no_dollar t k d

pub count_parts : {t : TokenOf} {before after : List TokenOf} {x : AggregateItemOf} → ReadsAggregateItem (t ∷ before) x after → t.kind ≡ Dollar → (alias : List ℕ) × (lower t.text ≡ codes "$count") × ReadsAlias before alias after × (counted alias ≡ x)
count_parts (of_column r p q s) d = absurd (name_no_dollar r d)
count_parts (of_count {alias} k l s) d = (alias, l, s, refl)

pub aggregate_parts : {old after : List TokenOf} {items : List AggregateItemOf} → ReadsAggregate old items after → (t : TokenOf) × (rest : List TokenOf) × (old ≡ t ∷ rest) × IsKeyword (codes "aggregate") t × Enclosed ReadsAggregateItem Comma rest items after
aggregate_parts (an_aggregate {t} {before} k r) = (t, before, refl, k, r)

pub aggregate_at : {t : TokenOf} {now after : List TokenOf} {items : List AggregateItemOf} → ReadsAggregate (t ∷ now) items after → Enclosed ReadsAggregateItem Comma now items after
aggregate_at (an_aggregate k r) = r

pub aggregate_keyword : {t : TokenOf} {before after : List TokenOf} {items : List AggregateItemOf} → ReadsAggregate (t ∷ before) items after → IsKeyword (codes "aggregate") t
aggregate_keyword (an_aggregate k r) = k

pub record FilterParts (old : List TokenOf) (x : TransformationOf) (after : List TokenOf) : Type 0 where
  pub opening : TokenOf
  pub closing : TokenOf
  pub mid : List TokenOf
  pub expr : ExprOf
  pub begins : old ≡ opening ∷ mid
  pub opens : opening.kind ≡ OpenParenthesis
  pub reads : Reads top mid expr (closing ∷ after)
  pub closes : closing.kind ≡ CloseParenthesis
  pub is : filter_by expr ≡ x

pub filter_parts : {t : TokenOf} {old after : List TokenOf} {x : TransformationOf} → ReadsTransformation (t ∷ old) x after → IsKeyword (codes "filter") t → FilterParts old x after
filter_parts (a_filter {o} {c} {e} {before} k p r q) h = record { opening = o; closing = c; mid = before; expr = e; begins = refl; opens = p; reads = r; closes = q; is = refl }
filter_parts (an_aggregation r) h = absurd (let k = keyword_unique filter_word aggregate_word h (aggregate_keyword r) in cc)
filter_parts (a_grouping k p r q) h = absurd (let j = keyword_unique filter_word groupby_word h k in cc)
filter_parts (a_grouping_with k p r m s q) h = absurd (let j = keyword_unique filter_word groupby_word h k in cc)

-- after the names of a grouping: `)`, or `,`, an aggregate and `)`
pub data GroupTail (names : List (List ℕ)) : List TokenOf → TransformationOf → List TokenOf → Type 0 where
  group_alone : {c : TokenOf} {after : List TokenOf} → c.kind ≡ CloseParenthesis → GroupTail names (c ∷ after) (group_by names None) after
  group_with : {s c : TokenOf} {items : List AggregateItemOf} {mid after : List TokenOf} → s.kind ≡ Comma → ReadsAggregate mid items (c ∷ after) → c.kind ≡ CloseParenthesis → GroupTail names (s ∷ mid) (group_by names (Some items)) after

pub record GroupParts (old : List TokenOf) (x : TransformationOf) (after : List TokenOf) : Type 0 where
  pub opening : TokenOf
  pub mid : List TokenOf
  pub names : List (List ℕ)
  pub rest : List TokenOf
  pub begins : old ≡ opening ∷ mid
  pub opens : opening.kind ≡ OpenParenthesis
  pub reads : ReadsNames mid names rest
  pub tail : GroupTail names rest x after

pub group_parts : {t : TokenOf} {old after : List TokenOf} {x : TransformationOf} → ReadsTransformation (t ∷ old) x after → IsKeyword (codes "groupby") t → GroupParts old x after
group_parts (a_filter k p r q) h = absurd (let j = keyword_unique groupby_word filter_word h k in cc)
group_parts (an_aggregation r) h = absurd (let k = keyword_unique groupby_word aggregate_word h (aggregate_keyword r) in cc)
group_parts {after} (a_grouping {o} {c} {names} {before} k p r q) h = record { opening = o; mid = before; names = names; rest = c ∷ after; begins = refl; opens = p; reads = r; tail = group_alone q }
group_parts (a_grouping_with {o} {s} {names} {before} {mid} k p r m a q) h = record { opening = o; mid = before; names = names; rest = s ∷ mid; begins = refl; opens = p; reads = r; tail = group_with m a q }

pub tail_closed : {names : List (List ℕ)} {now after : List TokenOf} {x : TransformationOf} → GroupTail names now x after → ((t : TokenOf) (rest : List TokenOf) → now ≡ t ∷ rest → t.kind ≢ Comma) → (c : TokenOf) × (now ≡ c ∷ after) × (c.kind ≡ CloseParenthesis) × (group_by names None ≡ x)
tail_closed (group_alone {c} q) none = (c, refl, q, refl)
tail_closed (group_with {s} {mid} m a q) none = absurd (none s mid refl m)

pub tail_with : {names : List (List ℕ)} {t : TokenOf} {now after : List TokenOf} {x : TransformationOf} → GroupTail names (t ∷ now) x after → t.kind ≡ Comma → (items : List AggregateItemOf) × (c : TokenOf) × ReadsAggregate now items (c ∷ after) × (c.kind ≡ CloseParenthesis) × (group_by names (Some items) ≡ x)
tail_with (group_alone q) h = absurd (let k : Comma ≡ CloseParenthesis = sym h ∙ q in cc)
tail_with (group_with {c} {items} m a q) h = (items, c, a, q, refl)

-- what is no filter and no grouping is an aggregate
pub only_aggregate : {old after : List TokenOf} {x : TransformationOf} → ReadsTransformation old x after → ((t : TokenOf) (rest : List TokenOf) → old ≡ t ∷ rest → ¬ (IsKeyword (codes "filter") t)) → ((t : TokenOf) (rest : List TokenOf) → old ≡ t ∷ rest → ¬ (IsKeyword (codes "groupby") t)) → (items : List AggregateItemOf) × ReadsAggregate old items after × (aggregate items ≡ x)
only_aggregate (a_filter {t} {o} {before} k p r q) f g = absurd (f t (o ∷ before) refl k)
only_aggregate (an_aggregation {items} r) f g = (items, r, refl)
only_aggregate (a_grouping {t} {o} {before} k p r q) f g = absurd (g t (o ∷ before) refl k)
only_aggregate (a_grouping_with {t} {o} {before} k p r m a q) f g = absurd (g t (o ∷ before) refl k)

pub name_at : {t : TokenOf} {now after : List TokenOf} {text : List ℕ} → ReadsName (t ∷ now) text after → (t.text ≡ text) × (now ≡ after)
name_at (a_word k e) = (sym e, refl)

pub alias_at : {a : TokenOf} {now after : List TokenOf} {text : List ℕ} → ReadsAlias (a ∷ now) text after → ReadsName now text after
alias_at (an_alias k r) = r

-- what a list of tokens begins with, said twice
pub same_first : {now xs ys : List TokenOf} {x y : TokenOf} → now ≡ x ∷ xs → now ≡ y ∷ ys → x ≡ y
same_first {xs} {ys} {x} {y} h e = let k : x ∷ xs ≡ y ∷ ys = sym h ∙ e in cc

pub same_method : {now xs ys : List TokenOf} {x y : TokenOf} (m n : AggregationMethod) → now ≡ x ∷ xs → now ≡ y ∷ ys → IsKeyword (method_text m) x → IsKeyword (method_text n) y → m ≡ n
same_method m n h e k j = method_unique m n k (subst (λ (t : TokenOf). IsKeyword (method_text n) t) (sym (same_first h e)) j)

-- the same, past two keywords that were looked for
pub only_aggregate_at : {old now new after : List TokenOf} {x : TransformationOf} → now ≡ old → new ≡ now → ReadsTransformation old x after → ((t : TokenOf) (rest : List TokenOf) → old ≡ t ∷ rest → ¬ (IsKeyword (codes "filter") t)) → ((t : TokenOf) (rest : List TokenOf) → now ≡ t ∷ rest → ¬ (IsKeyword (codes "groupby") t)) → (items : List AggregateItemOf) × ReadsAggregate new items after × (aggregate items ≡ x)
only_aggregate_at {after} f g r a b =
    let q = only_aggregate r a (λ t rest e k. b t rest (f ∙ e) k) in
    (q.0, subst (λ (s : List TokenOf). ReadsAggregate s q.0 after) (sym (g ∙ f)) q.1, q.2)
