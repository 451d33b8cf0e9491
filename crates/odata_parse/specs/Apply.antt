-- The grammar of `$apply` (OData Data Aggregation 4.0, section 3).
use Rattle.std.specs.Prelude.{◌≡◌, ℕ, List, [], ◌∷◌, Some, None, codes}
use Rattle.odata_lex.specs.Token.{TokenOf}
use Rattle.odata_lex.specs.declared.token.TokenKind.TheVariants.{Word, Dollar, OpenParenthesis, CloseParenthesis, Comma, Slash}
use Rattle.odata_parse.specs.declared.tree.AggregationMethod.{AggregationMethod}
use Rattle.odata_parse.specs.Expression.{Reads, top}
use Rattle.odata_parse.specs.Keyword.{IsKeyword, lower, method_text}
use Rattle.odata_parse.specs.List.{Separated, Enclosed}
use Rattle.odata_parse.specs.Tree.{ExprOf, AggregateItemOf, aggregated, counted, TransformationOf, filter_by, aggregate, group_by}

-- a word
pub data ReadsName : List TokenOf → List ℕ → List TokenOf → Type 0 where
  a_word : {t : TokenOf} {text : List ℕ} {after : List TokenOf} → t.kind ≡ Word → text ≡ t.text → ReadsName (t ∷ after) text after

-- `as` and a word
pub data ReadsAlias : List TokenOf → List ℕ → List TokenOf → Type 0 where
  an_alias : {a : TokenOf} {text : List ℕ} {before after : List TokenOf} → IsKeyword (codes "as") a → ReadsName before text after → ReadsAlias (a ∷ before) text after

-- an item of `aggregate` (section 3.2.1): a word `with` a method and an alias, or `$count` and an alias
pub data ReadsAggregateItem : List TokenOf → AggregateItemOf → List TokenOf → Type 0 where
  of_column : {w k : TokenOf} {column alias : List ℕ} {m : AggregationMethod} {before mid after : List TokenOf} → ReadsName before column (w ∷ k ∷ mid) → IsKeyword (codes "with") w → IsKeyword (method_text m) k → ReadsAlias mid alias after → ReadsAggregateItem before (aggregated column m alias) after
  of_count : {t : TokenOf} {alias : List ℕ} {before after : List TokenOf} → t.kind ≡ Dollar → lower t.text ≡ codes "$count" → ReadsAlias before alias after → ReadsAggregateItem (t ∷ before) (counted alias) after

-- `aggregate` and its items in parentheses (section 3.2.1)
pub data ReadsAggregate : List TokenOf → List AggregateItemOf → List TokenOf → Type 0 where
  an_aggregate : {t : TokenOf} {items : List AggregateItemOf} {before after : List TokenOf} → IsKeyword (codes "aggregate") t → Enclosed ReadsAggregateItem Comma before items after → ReadsAggregate (t ∷ before) items after

-- names in parentheses
abbrev pub ReadsNames : List TokenOf → List (List ℕ) → List TokenOf → Type 0
ReadsNames before names after = Enclosed ReadsName Comma before names after

-- a transformation (sections 3.2.1 and 3.2.3, and `filter`)
pub data ReadsTransformation : List TokenOf → TransformationOf → List TokenOf → Type 0 where
  a_filter : {t o c : TokenOf} {e : ExprOf} {before after : List TokenOf} → IsKeyword (codes "filter") t → o.kind ≡ OpenParenthesis → Reads top before e (c ∷ after) → c.kind ≡ CloseParenthesis → ReadsTransformation (t ∷ o ∷ before) (filter_by e) after
  an_aggregation : {items : List AggregateItemOf} {before after : List TokenOf} → ReadsAggregate before items after → ReadsTransformation before (aggregate items) after
  a_grouping : {t o c : TokenOf} {names : List (List ℕ)} {before after : List TokenOf} → IsKeyword (codes "groupby") t → o.kind ≡ OpenParenthesis → ReadsNames before names (c ∷ after) → c.kind ≡ CloseParenthesis → ReadsTransformation (t ∷ o ∷ before) (group_by names None) after
  a_grouping_with : {t o s c : TokenOf} {names : List (List ℕ)} {items : List AggregateItemOf} {before mid after : List TokenOf} → IsKeyword (codes "groupby") t → o.kind ≡ OpenParenthesis → ReadsNames before names (s ∷ mid) → s.kind ≡ Comma → ReadsAggregate mid items (c ∷ after) → c.kind ≡ CloseParenthesis → ReadsTransformation (t ∷ o ∷ before) (group_by names (Some items)) after

-- `$apply`: all the tokens are transformations with `/` between each two
abbrev pub IsApply : List TokenOf → List TransformationOf → Type 0
IsApply tokens transformations = Separated ReadsTransformation Slash tokens transformations []
