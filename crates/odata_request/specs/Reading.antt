-- How the value of an option reads (OData 4.01 Part 2, URL Conventions, section 5.1): as the one tree that its tokens have, or under the code
-- of what is wrong first.
use Rattle.std.specs.Prelude.{◌≡◌, ℕ, Bool, List, Option, None, Some, Result, Ok, Err, ⊤}
use Rattle.std.specs.Str.Parse.{digits_value}
use Rattle.odata_lex.specs.Token.{TokenOf, token_views}
use Rattle.odata_lex.specs.Lexer.{AreTokens, IsBad, IsTooMany}
use Rattle.odata_lex.specs.declared.token.Token.{Token}
use Rattle.odata_parse.specs.Depth.{IsTooDeep, IsTooDeepForApply}
use Rattle.odata_parse.specs.Apply.{IsApply}
use Rattle.odata_parse.specs.Flag.{flag_of}
use Rattle.odata_parse.specs.Number.{IsNumberText}
use Rattle.odata_parse.specs.Tree.{TransformationOf}
use Rattle.odata_errors.specs.declared.code.Code.{Code}
use Rattle.odata_errors.specs.declared.code.Code.TheVariants.{BadToken, TooMany, TooDeep, Syntax}

-- One step and then what follows it, which may depend on what the step gives: up to the first code.
pub data Then {X Y : Type 0} (step : Result X Code → Type 0) (next : X → Result Y Code → Type 0) (result : Result Y Code) : Type 0 where
  stops : (code : Code) → step (Err code) → result ≡ Err code → Then step next result
  goes_on : (x : X) → step (Ok x) → next x result → Then step next result

infixl 10 ◌>>=◌
abbrev pub ◌>>=◌ : {X Y : Type 0} → (Result X Code → Type 0) → (X → Result Y Code → Type 0) → Result Y Code → Type 0
step >>= next = λ result. Then step next result

-- this result and no other
abbrev pub IsResult : {X : Type 0} → Result X Code → Result X Code → Type 0
IsResult made result = result ≡ made

-- this, where there is something
abbrev pub IsThere : {X : Type 0} → Option X → Result X Code → Type 0
IsThere None result = ⊥
IsThere (Some x) result = result ≡ Ok x

-- whether to go on: not under a code
abbrev pub passes_unless : Option Code → Result ⊤ Code
passes_unless None = Ok tt
passes_unless (Some code) = Err code

-- how tokens read: that they nest too deep comes before their tree
pub data ReadsTokens {X : Type 0} (IsDeep : List TokenOf → Type 0) (IsTree : List TokenOf → X → Type 0) (tokens : List TokenOf) (result : Result X Code) : Type 0 where
  too_deep : IsDeep tokens → result ≡ Err TooDeep → ReadsTokens IsDeep IsTree tokens result
  no_tree : ¬ (IsDeep tokens) → ((tree : X) → ¬ (IsTree tokens tree)) → result ≡ Err Syntax → ReadsTokens IsDeep IsTree tokens result
  has_tree : (tree : X) → ¬ (IsDeep tokens) → IsTree tokens tree → result ≡ Ok tree → ReadsTokens IsDeep IsTree tokens result

-- how a text reads: its tokens come before their tree
pub data ReadsText {X : Type 0} (IsDeep : List TokenOf → Type 0) (IsTree : List TokenOf → X → Type 0) (text : List ℕ) (result : Result X Code) : Type 0 where
  bad_token : IsBad text → result ≡ Err BadToken → ReadsText IsDeep IsTree text result
  too_many : IsTooMany text → result ≡ Err TooMany → ReadsText IsDeep IsTree text result
  has_tokens : (tokens : List Token) → AreTokens text tokens → ReadsTokens IsDeep IsTree (token_views text tokens) result → ReadsText IsDeep IsTree text result

-- the value of an option, or a key, under its grammar
abbrev pub ReadsTree : {X : Type 0} → (List TokenOf → X → Type 0) → List ℕ → Result X Code → Type 0
ReadsTree IsTree text result = ReadsText IsTooDeep IsTree text result

-- the value of `$apply`, which may have fewer `/` than a limit
abbrev pub ReadsApply : ℕ → List ℕ → Result (List TransformationOf) Code → Type 0
ReadsApply limit text result = ReadsText (IsTooDeepForApply limit) IsApply text result

-- the value of `$count`
abbrev pub flag_in : Option Bool → Result Bool Code
flag_in (Some flag) = Ok flag
flag_in None = Err Syntax

abbrev pub ReadsFlag : List ℕ → Result Bool Code → Type 0
ReadsFlag text result = result ≡ flag_in (flag_of text)

-- the value of `$skip` or `$top`
pub data ReadsNumber (text : List ℕ) (result : Result ℕ Code) : Type 0 where
  no_number : ¬ (IsNumberText text) → result ≡ Err Syntax → ReadsNumber text result
  is_number : IsNumberText text → result ≡ Ok (digits_value 10 text) → ReadsNumber text result

-- how the value of an option reads, and what is meant where the query does not have that option
abbrev pub ReadsOr : {X : Type 0} → X → (List ℕ → Result X Code → Type 0) → Option (List ℕ) → Result X Code → Type 0
ReadsOr absent reads None result = result ≡ Ok absent
ReadsOr absent reads (Some text) result = reads text result

-- how the value of an option reads, where the query has that option
abbrev pub ReadsOption : {X : Type 0} → (List ℕ → Result X Code → Type 0) → Option (List ℕ) → Result (Option X) Code → Type 0
ReadsOption reads None result = result ≡ Ok None
ReadsOption reads (Some text) (Ok None) = ⊥
ReadsOption reads (Some text) (Ok (Some value)) = reads text (Ok value)
ReadsOption reads (Some text) (Err code) = reads text (Err code)
