-- What holds of every text.
use Rattle.std.specs.Prelude.{◌≡◌, ℕ, List, ◌⊎◌}
use Rattle.odata_lex.specs.Lexer.{BeginsToken, ReadsAll, HasTokens, IsBad, IsTooMany}
use Rattle.odata_lex.specs.declared.token.Token.{Token}
use Rattle.odata_lex.specs.declared.token.TokenKind.{TokenKind}

-- a text begins with at most one token
abbrev pub OneFirstToken : Type 0
OneFirstToken =
    (text : List ℕ) (kind other : TokenKind) (front after more rest : List ℕ) → BeginsToken text kind front after → BeginsToken text other more rest → (kind ≡ other) × (front ≡ more) × (after ≡ rest)

-- a text has one list of tokens, up to its end or up to its one first bad place
pub record OneListOfTokens : Type 0 where
  pub one : (source : List ℕ) → (tokens : List Token) × (rest : List ℕ) × ReadsAll source tokens rest
  pub only : (source : List ℕ) (tokens others : List Token) (rest left : List ℕ) → ReadsAll source tokens rest → ReadsAll source others left → (tokens ≡ others) × (rest ≡ left)

-- a text has tokens, is bad or has too many, and no two of these
pub record TokensOrFault : Type 0 where
  pub one : (source : List ℕ) → HasTokens source ⊎ IsBad source ⊎ IsTooMany source
  pub tokens_not_bad : (source : List ℕ) → HasTokens source → ¬ (IsBad source)
  pub tokens_not_many : (source : List ℕ) → HasTokens source → ¬ (IsTooMany source)
  pub bad_not_many : (source : List ℕ) → IsBad source → ¬ (IsTooMany source)
