-- What is asked for is one thing at most, by the laws of tokens and trees.
use Rattle.std.proofs.Common.{◌≡◌, ℕ, List, Option, Some, None, Result, Ok, Err, ap, sym, ◌∙◌, subst}
use Rattle.odata_lex.specs.Token.{TokenOf, token_views}
use Rattle.odata_lex.specs.Lexer.{AreTokens, HasTokens}
use Rattle.odata_lex.specs.Laws.{OneListOfTokens, TokensOrFault}
use Rattle.odata_lex.specs.declared.token.Token.{Token}
use Rattle.odata_parse.specs.Laws.{HasOneTree}
use Rattle.odata_parse.specs.Apply.{IsApply}
use Rattle.odata_parse.specs.Expression.{IsFilter}
use Rattle.odata_parse.specs.Options.{IsKey, IsOrder, IsSelection}
use Rattle.csvw_meta.specs.Schema.{SchemaOf}
use Rattle.odata_query.specs.Query.{query_typing}
use Rattle.odata_errors.specs.declared.code.Code.{Code}
use Rattle.odata_request.specs.Fault.{type_code}
use Rattle.odata_request.specs.Options.{TextsOf}
use Rattle.odata_request.specs.Query.{AsksQuery, ReadsQuery}
use Rattle.odata_request.specs.Reading.{ReadsFlag, ReadsNumber, ReadsOption, ReadsOr, ReadsText, ReadsTokens, bad_token, has_tokens, has_tree, is_number, no_number, no_tree, too_deep, too_many}
use Rattle.odata_request.proofs.StepLemmas.{HasOne, is_one, steps_one, told_one}

-- the laws of tokens and trees
pub record Grammars : Type 0 where
  pub lists : OneListOfTokens
  pub faults : TokensOrFault
  pub key : HasOneTree IsKey
  pub apply : HasOneTree IsApply
  pub filter : HasOneTree IsFilter
  pub order : HasOneTree IsOrder
  pub select : HasOneTree IsSelection

-- ---- trees and texts

tokens_one : {X : Type 0} (IsDeep : List TokenOf → Type 0) (IsTree : List TokenOf → X → Type 0) → HasOneTree IsTree → (tokens : List TokenOf) (r s : Result X Code)
    → ReadsTokens IsDeep IsTree tokens r → ReadsTokens IsDeep IsTree tokens s → r ≡ s
tokens_one IsDeep IsTree one tokens r s (too_deep d e) (too_deep c f) = e ∙ sym f
tokens_one IsDeep IsTree one tokens r s (too_deep d e) (no_tree c n f) = absurd (c d)
tokens_one IsDeep IsTree one tokens r s (too_deep d e) (has_tree x c i f) = absurd (c d)
tokens_one IsDeep IsTree one tokens r s (no_tree d n e) (too_deep c f) = absurd (d c)
tokens_one IsDeep IsTree one tokens r s (no_tree d n e) (no_tree c m f) = e ∙ sym f
tokens_one IsDeep IsTree one tokens r s (no_tree d n e) (has_tree x c i f) = absurd (n x i)
tokens_one IsDeep IsTree one tokens r s (has_tree y d j e) (too_deep c f) = absurd (d c)
tokens_one IsDeep IsTree one tokens r s (has_tree y d j e) (no_tree c m f) = absurd (m y j)
tokens_one IsDeep IsTree one tokens r s (has_tree y d j e) (has_tree x c i f) = e ∙ ap Ok (one tokens y x j i) ∙ sym f

tokens_of : {text : List ℕ} {tokens : List Token} → AreTokens text tokens → HasTokens text
tokens_of {tokens = tokens} are = (tokens, are.reads, are.few)

text_one : {X : Type 0} (IsDeep : List TokenOf → Type 0) (IsTree : List TokenOf → X → Type 0) → HasOneTree IsTree → Grammars → (text : List ℕ) (r s : Result X Code)
    → ReadsText IsDeep IsTree text r → ReadsText IsDeep IsTree text s → r ≡ s
text_one IsDeep IsTree one laws text r s (bad_token b e) (bad_token c f) = e ∙ sym f
text_one IsDeep IsTree one laws text r s (bad_token b e) (too_many m f) = absurd (laws.faults.bad_not_many text b m)
text_one IsDeep IsTree one laws text r s (bad_token b e) (has_tokens ts are h) = absurd (laws.faults.tokens_not_bad text (tokens_of are) b)
text_one IsDeep IsTree one laws text r s (too_many m e) (bad_token b f) = absurd (laws.faults.bad_not_many text b m)
text_one IsDeep IsTree one laws text r s (too_many m e) (too_many n f) = e ∙ sym f
text_one IsDeep IsTree one laws text r s (too_many m e) (has_tokens ts are h) = absurd (laws.faults.tokens_not_many text (tokens_of are) m)
text_one IsDeep IsTree one laws text r s (has_tokens ts are h) (bad_token b f) = absurd (laws.faults.tokens_not_bad text (tokens_of are) b)
text_one IsDeep IsTree one laws text r s (has_tokens ts are h) (too_many m f) = absurd (laws.faults.tokens_not_many text (tokens_of are) m)
text_one {X} IsDeep IsTree one laws text r s (has_tokens ts are h) (has_tokens us be k) =
    let same = (laws.lists.only text ts us _ _ are.reads be.reads).0 in
    tokens_one IsDeep IsTree one (token_views text us) r s (subst (λ (xs : List Token). ReadsTokens IsDeep IsTree (token_views text xs) r) same h) k

-- ---- options

number_one : (text : List ℕ) → HasOne (ReadsNumber text)
number_one text r s (no_number n e) (no_number m f) = e ∙ sym f
number_one text r s (no_number n e) (is_number i f) = absurd (n i)
number_one text r s (is_number i e) (no_number m f) = absurd (m i)
number_one text r s (is_number i e) (is_number j f) = e ∙ sym f

flag_one : (text : List ℕ) → HasOne (ReadsFlag text)
flag_one text r s e f = e ∙ sym f

or_one : {X : Type 0} (absent : X) (reads : List ℕ → Result X Code → Type 0) → ((text : List ℕ) → HasOne (reads text)) → (text : Option (List ℕ)) → HasOne (ReadsOr absent reads text)
or_one absent reads one None r s e f = e ∙ sym f
or_one absent reads one (Some text) r s e f = one text r s e f

abbrev with_some : {X : Type 0} → Result X Code → Result (Option X) Code
with_some (Ok tree) = Ok (Some tree)
with_some (Err code) = Err code

option_one : {X : Type 0} (reads : List ℕ → Result X Code → Type 0) → ((text : List ℕ) → HasOne (reads text)) → (text : Option (List ℕ)) → HasOne (ReadsOption reads text)
option_one reads one None r s e f = e ∙ sym f
option_one reads one (Some text) (Ok None) s e f = absurd e
option_one reads one (Some text) (Ok (Some t)) (Ok None) e f = absurd f
option_one reads one (Some text) (Ok (Some t)) (Ok (Some u)) e f = ap with_some (one text (Ok t) (Ok u) e f)
option_one reads one (Some text) (Ok (Some t)) (Err d) e f = ap with_some (one text (Ok t) (Err d) e f)
option_one reads one (Some text) (Err c) (Ok None) e f = absurd f
option_one reads one (Some text) (Err c) (Ok (Some u)) e f = ap with_some (one text (Err c) (Ok u) e f)
option_one reads one (Some text) (Err c) (Err d) e f = ap with_some (one text (Err c) (Err d) e f)

-- ---- queries

reading_one : Grammars → (limit : ℕ) (texts : TextsOf) → HasOne (ReadsQuery limit texts)
reading_one laws limit texts =
    steps_one _ _ (option_one _ (text_one _ IsKey laws.key laws) texts.key) (λ key.
    steps_one _ _ (or_one _ _ (text_one _ IsApply laws.apply laws) texts.apply) (λ apply.
    steps_one _ _ (option_one _ (text_one _ IsFilter laws.filter laws) texts.filter) (λ filter.
    steps_one _ _ (or_one _ _ flag_one texts.count) (λ count.
    steps_one _ _ (or_one _ _ (text_one _ IsOrder laws.order laws) texts.order) (λ order.
    steps_one _ _ (or_one _ _ number_one texts.skip) (λ skip.
    steps_one _ _ (option_one _ number_one texts.top) (λ top.
    steps_one _ _ (option_one _ (text_one _ IsSelection laws.select laws) texts.select) (λ select.
    is_one _))))))))

pub query_one : Grammars → (limit : ℕ) (schema : SchemaOf) (texts : TextsOf) → HasOne (AsksQuery limit schema texts)
query_one laws limit schema texts = steps_one _ _ (reading_one laws limit texts) (λ query. told_one type_code (query_typing schema query))
