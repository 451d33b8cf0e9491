-- How deep tokens nest, counted on the tokens alone.
use Rattle.std.specs.Prelude.{ℕ, zero, suc, ◌+◌, ◌-◌, ◌<◌, ◌≤◌, ◌⊎◌, List, [], ◌∷◌, take, drop}
use Rattle.odata_lex.specs.Token.{TokenOf}
use Rattle.odata_lex.specs.declared.token.TokenKind.{TokenKind}
use Rattle.odata_lex.specs.declared.token.TokenKind.TheVariants.{OpenParenthesis, CloseParenthesis, Slash}
use Rattle.odata_parse.specs.declared.depth.TheConstants.{MAX_OPEN, MAX_OPERATORS}
use Rattle.odata_parse.specs.declared.tree.UnaryOperator.{UnaryOperator}
use Rattle.odata_parse.specs.Expression.{IsUnaryOperator}

-- how many `(` are open after a token, where n are before it; a `)` that closes nothing does not count
abbrev pub open_behind : ℕ → TokenKind → ℕ
open_behind n OpenParenthesis = n + 1
open_behind n CloseParenthesis = n - 1
open_behind n _ = n

-- and after these tokens
abbrev pub open_groups_after : ℕ → List TokenOf → ℕ
open_groups_after n [] = n
open_groups_after n (t ∷ tokens) = open_groups_after (open_behind n t.kind) tokens

-- at some place more `(` are open than allowed
pub record OpensTooMany (tokens : List TokenOf) : Type 0 where
  pub place : ℕ
  pub many : MAX_OPEN < open_groups_after 0 (take place tokens)

-- a token is `-` or `not`
abbrev pub IsPrefixToken : TokenOf → Type 0
IsPrefixToken t = (o : UnaryOperator) × IsUnaryOperator o t

-- n tokens `-` or `not` stand first
pub data BeginsWithOperators : ℕ → List TokenOf → Type 0 where
  no_operators : {tokens : List TokenOf} → BeginsWithOperators zero tokens
  more_operators : {n : ℕ} {t : TokenOf} {tokens : List TokenOf} (o : UnaryOperator) → IsUnaryOperator o t → BeginsWithOperators n tokens → BeginsWithOperators (suc n) (t ∷ tokens)

-- at some place more tokens `-` or `not` follow each other than allowed
pub record RepeatsOperators (tokens : List TokenOf) : Type 0 where
  pub place : ℕ
  pub run : BeginsWithOperators (suc MAX_OPERATORS) (drop place tokens)

abbrev pub IsTooDeep : List TokenOf → Type 0
IsTooDeep tokens = OpensTooMany tokens ⊎ RepeatsOperators tokens

abbrev pub slash_of : TokenKind → ℕ
slash_of Slash = 1
slash_of _ = 0

-- how many tokens `/` there are
abbrev pub slashes : List TokenOf → ℕ
slashes [] = 0
slashes (t ∷ tokens) = slash_of t.kind + slashes tokens

-- the same for `$apply`, whose transformations are separated by `/`
abbrev pub IsTooDeepForApply : ℕ → List TokenOf → Type 0
IsTooDeepForApply limit tokens = IsTooDeep tokens ⊎ (limit ≤ slashes tokens)
