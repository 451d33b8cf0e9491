-- The tokens of a text (OData 4.01 URL Conventions, section 5.1.1; OData ABNF Construction Rules, section 9: `RWS` and `BWS` are
-- spaces and tabs). At each place the first kind that fits is taken, and each token is as long as its kind allows.
use Rattle.std.specs.Prelude.{◌≡◌, ℕ, ◌+◌, ◌≤◌, ◌<◌, Bool, ◌==◌, ◌||◌, IsTrue, List, [], ◌∷◌, ◌++◌, length, ◌⊎◌}
use Rattle.std.specs.List.{All}
use Rattle.std.specs.Str.{IsCharBoundary}
use Rattle.odata_lex.specs.Token.{point, AreDigits, IsDateForm, IsOfTokenKind, EndsBefore, token_text}
use Rattle.odata_lex.specs.declared.fault.LexFault.{LexFault}
use Rattle.odata_lex.specs.declared.fault.LexFault.TheVariants.{Bad, TooMany, NoMemory}
use Rattle.odata_lex.specs.declared.token.TheConstants.{MAX_TOKENS}
use Rattle.odata_lex.specs.declared.token.Token.{Token}
use Rattle.odata_lex.specs.declared.token.TokenKind.{TokenKind}
use Rattle.odata_lex.specs.declared.token.TokenKind.TheVariants.{Date, Number}

-- a space or a tab
abbrev pub is_blank : ℕ → Bool
is_blank b = b == 32 || b == 9

-- a text of the form of a date begins here, whether the calendar has that day or not
pub record BeginsDate (text : List ℕ) : Type 0 where
  pub front : List ℕ
  pub after : List ℕ
  pub split : text ≡ front ++ after
  pub form : IsDateForm front
  pub ends : EndsBefore Date after

-- digits, `.` and a digit begin here, whether they are too many for a Decimal or not
pub record BeginsDecimal (text : List ℕ) : Type 0 where
  pub whole : List ℕ
  pub digit : ℕ
  pub after : List ℕ
  pub split : text ≡ whole ++ point ∷ digit ∷ after
  pub before : AreDigits whole
  pub some_before : 0 < length whole
  pub behind : AreDigits (digit ∷ [])

-- The text is a token of this kind with this text, and then what is after it. No other two kinds begin alike: a digit begins a Number
-- only where neither a text of the form of a date nor one of the form of a decimal begins.
pub record BeginsToken (text : List ℕ) (kind : TokenKind) (front after : List ℕ) : Type 0 where
  pub split : text ≡ front ++ after
  pub form : IsOfTokenKind kind front
  pub ends : EndsBefore kind after
  pub no_date : kind ≡ Number → ¬ (BeginsDate text)
  pub no_decimal : kind ≡ Number → ¬ (BeginsDecimal text)

-- The text that stands at a place is these tokens, with spaces and tabs before and between them, and then the rest.
pub data ReadsTokensFrom : ℕ → List ℕ → List Token → List ℕ → Type 0 where
  reads_end : {place : ℕ} {text : List ℕ} → ReadsTokensFrom place text [] text
  reads_blank : {place b : ℕ} {text rest : List ℕ} {tokens : List Token} → IsTrue (is_blank b) → ReadsTokensFrom (place + 1) text tokens rest → ReadsTokensFrom place (b ∷ text) tokens rest
  reads_token : {place : ℕ} {text front after rest : List ℕ} {t : Token} {tokens : List Token} → BeginsToken text t.kind front after → t.start ≡ place → t.end ≡ place + length front → ReadsTokensFrom t.end after tokens rest → ReadsTokensFrom place text (t ∷ tokens) rest

-- the text goes on, and neither a space, a tab nor a token begins it
pub record IsBadPlace (text : List ℕ) : Type 0 where
  pub goes_on : 0 < length text
  pub no_blank : (b : ℕ) (after : List ℕ) → text ≡ b ∷ after → ¬ (IsTrue (is_blank b))
  pub no_token : (kind : TokenKind) (front after : List ℕ) → ¬ (BeginsToken text kind front after)

-- these are the tokens up to the end of the text, or up to its first bad place, and what is left there
pub record ReadsAll (source : List ℕ) (tokens : List Token) (rest : List ℕ) : Type 0 where
  pub reads : ReadsTokensFrom 0 source tokens rest
  pub stops : (rest ≡ []) ⊎ IsBadPlace rest

-- more tokens than allowed, before the end or the first bad place
pub record IsTooMany (source : List ℕ) : Type 0 where
  pub tokens : List Token
  pub rest : List ℕ
  pub reads : ReadsAll source tokens rest
  pub many : MAX_TOKENS < length tokens

-- a bad place, after no more tokens than allowed
pub record IsBad (source : List ℕ) : Type 0 where
  pub tokens : List Token
  pub rest : List ℕ
  pub reads : ReadsAll source tokens rest
  pub few : length tokens ≤ MAX_TOKENS
  pub bad : IsBadPlace rest

-- the fault of a source; of memory that ran out nothing is said
abbrev pub IsFault : List ℕ → LexFault → Type 0
IsFault source Bad = IsBad source
IsFault source TooMany = IsTooMany source
IsFault source NoMemory = Unit {0}

-- this fault, or out of memory
abbrev pub IsOrNoMemory : LexFault → LexFault → Type 0
IsOrNoMemory fault e = (e ≡ fault) ⊎ (e ≡ NoMemory)

-- a token of the source: a nonempty slice between two boundaries of characters, with the form of its kind
pub record IsTokenAt (source : List ℕ) (token : Token) : Type 0 where
  pub nonempty : token.start < token.end
  pub within : token.end ≤ length source
  pub start : IsCharBoundary source token.start
  pub end : IsCharBoundary source token.end
  pub form : IsOfTokenKind token.kind (token_text source token)

-- each token begins where the one before it ends, or later
abbrev pub AreTokensInOrder : ℕ → List Token → Type 0
AreTokensInOrder place [] = Unit {0}
AreTokensInOrder place (token ∷ tokens) = (place ≤ token.start) × AreTokensInOrder token.end tokens

-- the tokens of the source, up to its end
pub record AreTokens (source : List ℕ) (tokens : List Token) : Type 0 where
  pub reads : ReadsAll source tokens []
  pub few : length tokens ≤ MAX_TOKENS
  pub in_order : AreTokensInOrder 0 tokens
  pub each : All (IsTokenAt source) tokens

-- the source has tokens, up to its end, and no more than allowed
abbrev pub HasTokens : List ℕ → Type 0
HasTokens source = (tokens : List Token) × ReadsAll source tokens [] × (length tokens ≤ MAX_TOKENS)
