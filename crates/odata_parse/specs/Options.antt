-- The grammar of `$orderby`, `$select` and keys (OData 4.01 URL Conventions, sections 5.1.5, 5.1.4 and 4.3.1).
use Rattle.std.specs.Prelude.{◌≡◌, ℕ, true, false, List, [], ◌∷◌, codes}
use Rattle.odata_lex.specs.Token.{TokenOf}
use Rattle.odata_lex.specs.declared.token.TokenKind.TheVariants.{Word, Comma, Star, EqualsSign}
use Rattle.odata_parse.specs.Expression.{Reads, top}
use Rattle.odata_parse.specs.Keyword.{IsKeyword}
use Rattle.odata_parse.specs.List.{Separated}
use Rattle.odata_parse.specs.Literal.{ReadsLiteral}
use Rattle.odata_parse.specs.Tree.{LiteralOf, ExprOf, OrderItemOf, order_item, SelectItemOf, all_columns, selected, KeyPairOf, key_pair, KeyOf, single, named}

-- an expression, and `asc` or `desc` or neither; without `desc` the order ascends
pub data ReadsOrderItem : List TokenOf → OrderItemOf → List TokenOf → Type 0 where
  order_alone : {before after : List TokenOf} {e : ExprOf} → Reads top before e after → ReadsOrderItem before (order_item e false) after
  order_ascending : {t : TokenOf} {before after : List TokenOf} {e : ExprOf} → Reads top before e (t ∷ after) → IsKeyword (codes "asc") t → ReadsOrderItem before (order_item e false) after
  order_descending : {t : TokenOf} {before after : List TokenOf} {e : ExprOf} → Reads top before e (t ∷ after) → IsKeyword (codes "desc") t → ReadsOrderItem before (order_item e true) after

-- `$orderby`: all the tokens are such items, with a comma between each two
abbrev pub IsOrder : List TokenOf → List OrderItemOf → Type 0
IsOrder tokens items = Separated ReadsOrderItem Comma tokens items []

-- a word or `*`
pub data ReadsSelectItem : List TokenOf → SelectItemOf → List TokenOf → Type 0 where
  select_all : {t : TokenOf} {after : List TokenOf} → t.kind ≡ Star → ReadsSelectItem (t ∷ after) all_columns after
  select_name : {t : TokenOf} {text : List ℕ} {after : List TokenOf} → t.kind ≡ Word → text ≡ t.text → ReadsSelectItem (t ∷ after) (selected text) after

-- `$select`
abbrev pub IsSelection : List TokenOf → List SelectItemOf → Type 0
IsSelection tokens items = Separated ReadsSelectItem Comma tokens items []

-- a word, `=` and a value
pub data ReadsKeyPair : List TokenOf → KeyPairOf → List TokenOf → Type 0 where
  key_value : {t s : TokenOf} {text : List ℕ} {before after : List TokenOf} {v : LiteralOf} → t.kind ≡ Word → text ≡ t.text → s.kind ≡ EqualsSign → ReadsLiteral before v after → ReadsKeyPair (t ∷ s ∷ before) (key_pair text v) after

-- a key: all the tokens are a value, or such pairs with a comma between each two
pub data IsKey : List TokenOf → KeyOf → Type 0 where
  key_single : {tokens : List TokenOf} {v : LiteralOf} → ReadsLiteral tokens v [] → IsKey tokens (single v)
  key_named : {tokens : List TokenOf} {pairs : List KeyPairOf} → Separated ReadsKeyPair Comma tokens pairs [] → IsKey tokens (named pairs)
