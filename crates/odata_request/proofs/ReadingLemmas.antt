-- What the calls that read texts and type a query give is how the texts read and what is asked for.
use Rattle.std.proofs.Common.{◌≡◌, ℕ, List, Result, Ok, Err, refl, sym, subst}
use Rattle.odata_lex.specs.Lexer.{AreTokens, IsFault}
use Rattle.odata_lex.specs.Token.{TokenOf, token_views}
use Rattle.odata_lex.specs.declared.fault.LexFault.{LexFault}
use Rattle.odata_lex.specs.declared.fault.LexFault.TheVariants as lex
use Rattle.odata_lex.specs.declared.token.Token.{Token}
use Rattle.odata_parse.specs.declared.fault.ParseFault.{ParseFault}
use Rattle.odata_parse.specs.declared.fault.ParseFault.TheVariants as parse
use Rattle.odata_parse.specs.Parsing.{IsParsedUnless}
use Rattle.odata_types.specs.declared.fault.TypeFault.{TypeFault}
use Rattle.odata_types.specs.declared.fault.TypeFault.TheVariants as type
use Rattle.csvw_meta.specs.Schema.{SchemaOf}
use Rattle.odata_query.specs.Query.{QueryOf, TypedOf, query_typing}
use Rattle.odata_types.specs.Result.{IsCause}
use Rattle.odata_errors.specs.declared.code.Code.{Code}
use Rattle.odata_request.specs.Fault.{TellsCause, Yields, Refuses, fault_of, lex_code, parse_code, type_code}
use Rattle.odata_request.specs.Options.{TextsOf}
use Rattle.odata_request.specs.Query.{AsksQuery, ReadsQuery}
use Rattle.odata_request.specs.Reading.{ReadsText, bad_token, goes_on, has_tokens, goes_on, has_tree, no_tree, too_deep, too_many}
use Rattle.odata_request.proofs.StepLemmas.{go_on, told_as, told_under}

-- ---- texts

syntax_not_deep : {X : Type 0} → ◌≡◌ {A = Result X ParseFault} (Err parse.Syntax) (Err parse.TooDeep) → ⊥
syntax_not_deep e = cc e

tree_not_deep : {X : Type 0} (x : X) → ◌≡◌ {A = Result X ParseFault} (Ok x) (Err parse.TooDeep) → ⊥
tree_not_deep x e = cc e

-- a text that has no tokens
pub unread_lex : {T X : Type 0} (view : T → X) (IsDeep : List TokenOf → Type 0) (IsTree : List TokenOf → X → Type 0) (text : List ℕ) (fault : LexFault)
    → IsFault text fault → Yields view (ReadsText IsDeep IsTree text) (Err (fault_of (lex_code fault)))
unread_lex view IsDeep IsTree text lex.Bad h = bad_token h refl
unread_lex view IsDeep IsTree text lex.TooMany h = too_many h refl
unread_lex view IsDeep IsTree text lex.NoMemory h = tt

-- a text whose tokens have no tree
pub unread_tree : {T X : Type 0} (view : T → X) (IsDeep : List TokenOf → Type 0) (IsTree : List TokenOf → X → Type 0) (text : List ℕ) (tokens : List Token) (fault : ParseFault)
    → AreTokens text tokens → IsParsedUnless IsDeep view IsTree (token_views text tokens) (Err fault)
    → Yields view (ReadsText IsDeep IsTree text) (Err (fault_of (parse_code fault)))
unread_tree view IsDeep IsTree text tokens parse.TooDeep are h = has_tokens tokens are (too_deep (h.too_deep.0 refl) refl)
unread_tree view IsDeep IsTree text tokens parse.Syntax are h = has_tokens tokens are (no_tree (λ d. syntax_not_deep (h.too_deep.1 d)) (h.syntax refl) refl)
unread_tree view IsDeep IsTree text tokens parse.NoMemory are h = tt

-- a text with a tree
pub read_tree : {T X : Type 0} (view : T → X) (IsDeep : List TokenOf → Type 0) (IsTree : List TokenOf → X → Type 0) (text : List ℕ) (tokens : List Token) (tree : T)
    → AreTokens text tokens → IsParsedUnless IsDeep view IsTree (token_views text tokens) (Ok tree) → ReadsText IsDeep IsTree text (Ok (view tree))
read_tree view IsDeep IsTree text tokens tree are h = has_tokens tokens are (has_tree (view tree) (λ d. tree_not_deep tree (h.too_deep.1 d)) h.tree refl)

-- ---- types

-- a query that does not fit
unfit : (schema : SchemaOf) (query : QueryOf) (fault : TypeFault) → IsCause fault (query_typing schema query)
    → Refuses (TellsCause type_code (query_typing schema query)) (fault_of (type_code fault))
unfit schema query type.UnknownName e = told_under type_code (query_typing schema query) type.UnknownName e
unfit schema query type.Mismatch e = told_under type_code (query_typing schema query) type.Mismatch e
unfit schema query type.TooLarge e = told_under type_code (query_typing schema query) type.TooLarge e
unfit schema query type.AliasTaken e = told_under type_code (query_typing schema query) type.AliasTaken e
unfit schema query type.BadKey e = told_under type_code (query_typing schema query) type.BadKey e
unfit schema query type.NoMemory e = tt

pub unfit_query : (limit : ℕ) (schema : SchemaOf) (texts : TextsOf) (query : QueryOf) (fault : TypeFault) → ReadsQuery limit texts (Ok query)
    → IsCause fault (query_typing schema query) → Refuses (AsksQuery limit schema texts) (fault_of (type_code fault))
unfit_query limit schema texts query fault r e = go_on _ _ (fault_of (type_code fault)) query r (unfit schema query fault e)

-- a query that fits
pub fit_query : (limit : ℕ) (schema : SchemaOf) (texts : TextsOf) (query : QueryOf) (typed : TypedOf) → ReadsQuery limit texts (Ok query)
    → query_typing schema query ≡ Ok typed → AsksQuery limit schema texts (Ok typed)
fit_query limit schema texts query typed r e = goes_on query r (told_as type_code (query_typing schema query) typed e)
