-- The expressions of `$orderby` and of `$apply`, of at most 1,024 tokens in a short source, have few nodes and short texts.
use Rattle.std.proofs.Common.{ℕ, ◌≤◌, List, [], ◌∷◌, length, arith}
use Rattle.std.specs.Prelude.{All}
use Rattle.std.proofs.lemmas.List.Elements.{All-cons, All-nil}
use Rattle.odata_lex.specs.Lexer.{AreTokens}
use Rattle.odata_lex.specs.Token.{TokenOf, token_views}
use Rattle.odata_lex.specs.declared.token.Token.{Token}
use Rattle.odata_lex.specs.declared.token.TokenKind.{TokenKind}
use Rattle.odata_parse.specs.Apply.{IsApply, ReadsAggregate, ReadsAggregateItem, ReadsAlias, ReadsName, ReadsTransformation, a_filter, a_grouping, a_grouping_with, a_word, an_aggregate, an_aggregation, an_alias, of_column, of_count}
use Rattle.odata_parse.specs.Expression.{Reads}
use Rattle.odata_parse.specs.List.{Enclosed, Separated, enclosed, last_item, more_items}
use Rattle.odata_parse.specs.Options.{IsOrder, ReadsOrderItem, order_alone, order_ascending, order_descending}
use Rattle.odata_parse.specs.Tree.{AggregateItemOf, ExprOf, OrderItemOf, TransformationOf}
use Rattle.odata_types.specs.Input.{IsQueried, IsQueriedItem, IsQueriedTransformation, IsShort}
use Rattle.odata_types.proofs.QueryLemmas.{AreShort, tokens_short, tree_short, tree_size, views_len}

-- at most 1,024 tokens with short texts
pub record AreFew (tokens : List TokenOf) : Type 0 where
  pub few : length tokens ≤ 1_024
  pub short : AreShort tokens

-- and those after the first
behind : {t : TokenOf} {tokens : List TokenOf} → AreFew (t ∷ tokens) → AreFew tokens
behind {t} {tokens} f = record { few = omega (arith, f.few); short = f.short.1 }

expression : {l : ℕ} {before after : List TokenOf} {e : ExprOf} → Reads l before e after → AreFew before → IsQueried e × AreFew after
expression r f = let size = tree_size r in let short = tree_short r f.short in (
  record { few = omega (arith, size, f.few); short = short.0 },
  record { few = omega (arith, size, f.few); short = short.1 },
)

-- ---- lists

-- an item is such a one, and few tokens with short texts are left after it
abbrev Keeps : {A : Type 0} → (List TokenOf → A → List TokenOf → Type 0) → (A → Type 0) → Type 0
Keeps {A} Item P = (before after : List TokenOf) (x : A) → Item before x after → AreFew before → P x × AreFew after

each : {A : Type 0} {Item : List TokenOf → A → List TokenOf → Type 0} (P : A → Type 0) → Keeps Item P
    → {sign : TokenKind} {before after : List TokenOf} {xs : List A} → Separated Item sign before xs after → AreFew before → All P xs × AreFew after
each P item (last_item {x = x} r) f = let h = item _ _ x r f in (All-cons P x [] h.0 (All-nil P), h.1)
each P item (more_items {x = x} {xs = xs} r s rest) f = let h = item _ _ x r f in let hs = each P item rest (behind h.1) in (All-cons P x xs h.0 hs.0, hs.1)

inside : {A : Type 0} {Item : List TokenOf → A → List TokenOf → Type 0} (P : A → Type 0) → Keeps Item P
    → {sign : TokenKind} {before after : List TokenOf} {xs : List A} → Enclosed Item sign before xs after → AreFew before → AreFew after
inside P item (enclosed o items c) f = behind (each P item items (behind f)).1

-- ---- `$orderby`

ordering : Keeps ReadsOrderItem IsQueriedItem
ordering before after item (order_alone r) f = expression r f
ordering before after item (order_ascending r k) f = let h = expression r f in (h.0, behind h.1)
ordering before after item (order_descending r k) f = let h = expression r f in (h.0, behind h.1)

-- ---- `$apply`

abbrev Anything : {A : Type 0} → A → Type 0
Anything x = Unit {0}

name : Keeps ReadsName Anything
name before after text (a_word k e) f = (tt, behind f)

alias : {before after : List TokenOf} {text : List ℕ} → ReadsAlias before text after → AreFew before → AreFew after
alias {text = text} (an_alias k n) f = (name _ _ text n (behind f)).1

aggregate_item : Keeps ReadsAggregateItem Anything
aggregate_item before after item (of_column {column = column} n w m a) f = (tt, alias a (behind (behind (name _ _ column n f).1)))
aggregate_item before after item (of_count k e a) f = (tt, alias a (behind f))

aggregation : {before after : List TokenOf} {items : List AggregateItemOf} → ReadsAggregate before items after → AreFew before → AreFew after
aggregation (an_aggregate k items) f = inside Anything aggregate_item items (behind f)

transformation : Keeps ReadsTransformation IsQueriedTransformation
transformation before after t (a_filter k o r c) f = let h = expression r (behind (behind f)) in (h.0, behind h.1)
transformation before after t (an_aggregation a) f = (tt, aggregation a f)
transformation before after t (a_grouping k o names c) f = (tt, behind (inside Anything name names (behind (behind f))))
transformation before after t (a_grouping_with k o names s a c) f = (tt, behind (aggregation a (behind (inside Anything name names (behind (behind f))))))

-- ---- the tokens of a source

source_few : (source : List ℕ) (tokens : List Token) → AreTokens source tokens → IsShort source → AreFew (token_views source tokens)
source_few source tokens are s = record { few = omega (arith, views_len source tokens, are.few); short = tokens_short source tokens s are.each }

pub order_is_queried : (source : List ℕ) (tokens : List Token) (items : List OrderItemOf) → AreTokens source tokens → IsShort source
    → IsOrder (token_views source tokens) items → All IsQueriedItem items
order_is_queried source tokens items are s is = (each IsQueriedItem ordering is (source_few source tokens are s)).0

pub apply_is_queried : (source : List ℕ) (tokens : List Token) (transformations : List TransformationOf) → AreTokens source tokens → IsShort source
    → IsApply (token_views source tokens) transformations → All IsQueriedTransformation transformations
apply_is_queried source tokens transformations are s is = (each IsQueriedTransformation transformation is (source_few source tokens are s)).0
