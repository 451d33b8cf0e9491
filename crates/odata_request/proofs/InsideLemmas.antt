-- What is asked for is inside of the tables: the table is one of them, and the query is one on its columns, by the laws of expressions.
use Rattle.std.proofs.Common.{◌≡◌, ◌≤◌, ◌^◌, ℕ, Bool, true, false, List, [], ◌∷◌, length, Option, Some, None, Result, Ok, Err, IfSome, IfOk, ap, sym, subst, arith}
use Rattle.std.specs.Prelude.{All, slice_get, find, option_map, cond}
use Rattle.std.proofs.lemmas.List.Elements.{All-nil}
use Rattle.csvw_meta.specs.Schema.{SchemaOf}
use Rattle.table_store.specs.Catalog.{CatalogOf}
use Rattle.odata_lex.specs.Token.{TokenOf, token_views}
use Rattle.odata_lex.specs.Lexer.{AreTokens}
use Rattle.odata_lex.specs.declared.token.Token.{Token}
use Rattle.odata_url.specs.declared.option_name.OptionName.{OptionName}
use Rattle.odata_url.specs.declared.option_name.OptionName.TheVariants as name
use Rattle.odata_url.specs.Target.{QueryOption, target_of}
use Rattle.odata_parse.specs.declared.format.Format.{Format}
use Rattle.odata_parse.specs.declared.format.Format.TheVariants.{Json, Csv}
use Rattle.odata_parse.specs.Expression.{IsFilter}
use Rattle.odata_parse.specs.Options.{IsOrder}
use Rattle.odata_parse.specs.Tree.{ExprOf, OrderItemOf, TransformationOf}
use Rattle.odata_query.specs.Query.{QueryOf, TypedOf, query_typing}
use Rattle.odata_types.specs.Input.{IsQueried, IsQueriedItem, IsQueriedTransformation, IsShort}
use Rattle.odata_types.specs.Laws.{ExpressionsAreQueried, FiltersAreQueried}
use Rattle.query_meaning.specs.Fitting.{AreQueried, IsTypedFor}
use Rattle.odata_errors.specs.declared.code.Code.{Code}
use Rattle.http_heads.specs.declared.checks.HeadFault.{HeadFault}
use Rattle.odata_request.specs.Fault.{type_code, url_code}
use Rattle.odata_request.specs.Reading.{ReadsApply, ReadsOption, ReadsOr, ReadsText, ReadsTokens, ReadsTree, bad_token, has_tokens, has_tree, no_tree, too_deep, too_many}
use Rattle.odata_request.specs.Query.{AsksQuery, ReadsQuery}
use Rattle.odata_request.specs.Resource as resource
use Rattle.odata_request.specs.Resource.{ResourceOf}
use Rattle.odata_request.specs.Options.{TextsOf, is_named, texts_of, option_value}
use Rattle.odata_request.specs.Request.{Asks, AsksOf, AsksRows, IsInside, RequestOf, rows, service}
use Rattle.odata_request.proofs.LengthLemmas.{HaveShortValues, target_short}
use Rattle.odata_request.proofs.StepLemmas.{no_code, same_value, then_ok, there_ok, told_ok}

-- the laws of expressions
pub record Queried : Type 0 where
  pub filters : FiltersAreQueried
  pub expressions : ExpressionsAreQueried

-- ---- what a text reads as

-- tokens of the text that are the tree
pub record HasTree {X : Type 0} (IsTree : List TokenOf → X → Type 0) (text : List ℕ) (tree : X) : Type 0 where
  pub tokens : List Token
  pub are : AreTokens text tokens
  pub is : IsTree (token_views text tokens) tree

tokens_tree : {X : Type 0} (IsDeep : List TokenOf → Type 0) (IsTree : List TokenOf → X → Type 0) (text : List ℕ) (tokens : List Token) (tree : X) → AreTokens text tokens
    → ReadsTokens IsDeep IsTree (token_views text tokens) (Ok tree) → HasTree IsTree text tree
tokens_tree IsDeep IsTree text tokens tree are (too_deep d e) = absurd (no_code tree _ e)
tokens_tree IsDeep IsTree text tokens tree are (no_tree d n e) = absurd (no_code tree _ e)
tokens_tree IsDeep IsTree text tokens tree are (has_tree other d is e) =
    record { tokens = tokens; are = are; is = subst (IsTree (token_views text tokens)) (same_value tree other e) is }

text_tree : {X : Type 0} (IsDeep : List TokenOf → Type 0) (IsTree : List TokenOf → X → Type 0) (text : List ℕ) (tree : X)
    → ReadsText IsDeep IsTree text (Ok tree) → HasTree IsTree text tree
text_tree IsDeep IsTree text tree (bad_token b e) = absurd (no_code tree _ e)
text_tree IsDeep IsTree text tree (too_many m e) = absurd (no_code tree _ e)
text_tree IsDeep IsTree text tree (has_tokens tokens are h) = tokens_tree IsDeep IsTree text tokens tree are h

-- ---- the expressions of a query

apply_queried : Queried → (limit : ℕ) (text : Option (List ℕ)) (ts : List TransformationOf) → IfSome text IsShort → ReadsOr [] (ReadsApply limit) text (Ok ts)
    → All IsQueriedTransformation ts
apply_queried laws limit None ts short h = subst (All IsQueriedTransformation) (same_value ts [] h) (All-nil IsQueriedTransformation)
apply_queried laws limit (Some text) ts short h =
    let read = text_tree _ _ text ts h in laws.expressions.apply text read.tokens ts read.are short read.is

order_queried : Queried → (text : Option (List ℕ)) (items : List OrderItemOf) → IfSome text IsShort → ReadsOr [] (ReadsTree IsOrder) text (Ok items)
    → All IsQueriedItem items
order_queried laws None items short h = subst (All IsQueriedItem) (same_value items [] h) (All-nil IsQueriedItem)
order_queried laws (Some text) items short h =
    let read = text_tree _ _ text items h in laws.expressions.order text read.tokens items read.are short read.is

filter_queried : Queried → (text : Option (List ℕ)) (filter : Option ExprOf) → IfSome text IsShort → ReadsOption (ReadsTree IsFilter) text (Ok filter)
    → IfSome filter IsQueried
filter_queried laws text None short h = tt
filter_queried laws None (Some tree) short h = let bad : ◌≡◌ {A = Result (Option ExprOf) Code} (Ok (Some tree)) (Ok None) = h in absurd (cc bad)
filter_queried laws (Some text) (Some tree) short h =
    let read = text_tree _ _ text tree h in laws.filters text read.tokens tree read.are short read.is

-- ---- queries

-- the texts that hold expressions are short
pub record AreShort (texts : TextsOf) : Type 0 where
  pub apply : IfSome texts.apply IsShort
  pub filter : IfSome texts.filter IsShort
  pub order : IfSome texts.order IsShort

query_queried : Queried → (limit : ℕ) (texts : TextsOf) (query : QueryOf) → AreShort texts → ReadsQuery limit texts (Ok query) → AreQueried query
query_queried laws limit texts query short h =
    let key = then_ok h in
    let apply = then_ok key.2 in
    let filter = then_ok apply.2 in
    let count = then_ok filter.2 in
    let order = then_ok count.2 in
    let skip = then_ok order.2 in
    let top = then_ok skip.2 in
    let select = then_ok top.2 in
    subst AreQueried (same_value query _ select.2) (record {
      apply = apply_queried laws limit texts.apply apply.0 short.apply apply.1;
      filter = filter_queried laws texts.filter filter.0 short.filter filter.1;
      order = order_queried laws texts.order order.0 short.order order.1;
    })

query_typed : Queried → (limit : ℕ) (schema : SchemaOf) (texts : TextsOf) (typed : TypedOf) → AreShort texts → AsksQuery limit schema texts (Ok typed)
    → IsTypedFor schema typed
query_typed laws limit schema texts typed short h =
    let query = then_ok h in
    (query.0, query_queried laws limit texts query.0 short query.1, told_ok type_code (query_typing schema query.0) typed query.2)

-- ---- a request is inside

rows_inside : Queried → (catalog : CatalogOf) (number : ℕ) (texts : TextsOf) (format : Format) (q : RequestOf) → AreShort texts
    → AsksRows catalog number texts format (Ok q) → IsInside catalog q
rows_inside laws catalog number texts format q short h =
    let table = then_ok h in
    let query = then_ok table.2 in
    subst (IsInside catalog) (same_value q (rows (record { table = number; query = query.0; format = format })) query.2) (record {
      table = table.0;
      table_is = there_ok (slice_get catalog.tables number) table.0 table.1;
      typed = query_typed laws catalog.limits.transformations table.0.schema texts query.0 short query.1;
    })

of_inside : Queried → (catalog : CatalogOf) (r : ResourceOf) (options : List QueryOption) (format : Format) (q : RequestOf)
    → ((key : Option (List ℕ)) (counting : Bool) → AreShort (texts_of key counting options)) → AsksOf catalog r options format (Ok q) → IsInside catalog q
of_inside laws catalog resource.service options Json q short h = subst (IsInside catalog) (same_value q service h) tt
of_inside laws catalog resource.service options Csv q short h = absurd (no_code q _ h)
of_inside laws catalog (resource.rows n) options format q short h = rows_inside laws catalog n (texts_of None false options) format q (short None false) h
of_inside laws catalog (resource.count n) options format q short h = rows_inside laws catalog n (texts_of None true options) format q (short None true) h
of_inside laws catalog (resource.key n text) options format q short h = rows_inside laws catalog n (texts_of (Some text) false options) format q (short (Some text) false) h

-- ---- lengths

found_short : (n : ℕ) (b : Bool) (option : QueryOption) (o : Option QueryOption) → length option.1 ≤ n → IfSome (option_map (λ x. x.1) o) (λ text. length text ≤ n)
    → IfSome (option_map (λ x. x.1) (cond b (Some option) o)) (λ text. length text ≤ n)
found_short n true option o h k = h
found_short n false option o h k = k

value_short : (n : ℕ) (wanted : OptionName) (options : List QueryOption) → HaveShortValues n options → IfSome (option_value wanted options) (λ text. length text ≤ n)
value_short n wanted [] h = tt
value_short n wanted (option ∷ options) h = found_short n (is_named wanted option) option (find (is_named wanted) options) h.0 (value_short n wanted options h.1)

widen_short : (n : ℕ) (o : Option (List ℕ)) → n ≤ 2 ^ 30 → IfSome o (λ text. length text ≤ n) → IfSome o IsShort
widen_short n None k h = tt
widen_short n (Some text) k h = omega (arith, h, k)

texts_short : (n : ℕ) (options : List QueryOption) → n ≤ 2 ^ 30 → HaveShortValues n options → (key : Option (List ℕ)) (counting : Bool) → AreShort (texts_of key counting options)
texts_short n options k h key counting = record {
  apply = widen_short n _ k (value_short n name.Apply options h);
  filter = widen_short n _ k (value_short n name.Filter options h);
  order = widen_short n _ k (value_short n name.OrderBy options h);
}

-- ---- targets

pub asks_inside : Queried → (catalog : CatalogOf) (fault : Option HeadFault) (target : List ℕ) (q : RequestOf)
    → length target ≤ 8_192 → Asks catalog fault target (Ok q) → IsInside catalog q
asks_inside laws catalog fault target q k h =
    let head = then_ok h in
    let read = then_ok head.2 in
    let resource = then_ok read.2 in
    let fitting = then_ok resource.2 in
    let format = then_ok fitting.2 in
    let options = read.0.options in
    let short : HaveShortValues 8_193 options = subst (λ r. IfOk r (λ t. HaveShortValues 8_193 t.options)) (told_ok url_code (target_of target) read.0 read.1) (target_short target 8_192 k) in
    of_inside laws catalog resource.0 options format.0 q (texts_short 8_193 options (omega arith) short) format.2
