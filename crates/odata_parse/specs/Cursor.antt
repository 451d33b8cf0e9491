-- What the parsers take from the tokens that are left.
use Rattle.std.specs.Prelude.{◌≡◌, ◌≢◌, ℕ, List, ◌∷◌}
use Rattle.odata_lex.specs.Token.{TokenOf}
use Rattle.odata_lex.specs.declared.token.TokenKind.{TokenKind}
use Rattle.odata_parse.specs.declared.cursor.Lexeme.{Lexeme}
use Rattle.odata_parse.specs.declared.tree.BinaryOperator.{BinaryOperator}
use Rattle.odata_parse.specs.declared.tree.UnaryOperator.{UnaryOperator}
use Rattle.odata_parse.specs.Expression.{IsUnaryOperator, level_of}
use Rattle.odata_parse.specs.Keyword.{IsKeyword, operator_text}

-- a token that the parsers hold
abbrev pub lexeme_view : Lexeme → TokenOf
lexeme_view l = record { kind = l.kind; text = l.text.now }

-- the first token is not such a one
abbrev pub NotFirst : (TokenOf → Type 0) → List TokenOf → Type 0
NotFirst P tokens = (t : TokenOf) (rest : List TokenOf) → tokens ≡ t ∷ rest → ¬ (P t)

-- a token of a kind was the first one, and where none is
abbrev pub TakesKind : TokenKind → Lexeme → List TokenOf → List TokenOf → Type 0
TakesKind kind l old new = (old ≡ lexeme_view l ∷ new) × (l.kind ≡ kind)

abbrev pub StaysNoKind : TokenKind → List TokenOf → List TokenOf → Type 0
StaysNoKind kind old new = (new ≡ old) × NotFirst (λ t. t.kind ≡ kind) old

-- a keyword was the first token, and where none is
abbrev pub TakesKeyword : List ℕ → Lexeme → List TokenOf → List TokenOf → Type 0
TakesKeyword keyword l old new = (old ≡ lexeme_view l ∷ new) × IsKeyword keyword (lexeme_view l)

abbrev pub StaysNoKeyword : List ℕ → List TokenOf → List TokenOf → Type 0
StaysNoKeyword keyword old new = (new ≡ old) × NotFirst (IsKeyword keyword) old

-- an operator of a level was the first token, and where none is
abbrev pub TakesOperator : ℕ → BinaryOperator → List TokenOf → List TokenOf → Type 0
TakesOperator level o old new = (t : TokenOf) × (old ≡ t ∷ new) × IsKeyword (operator_text o) t × (level_of o ≡ level)

abbrev pub NoOperator : ℕ → List TokenOf → Type 0
NoOperator level tokens = (t : TokenOf) (rest : List TokenOf) (o : BinaryOperator) → tokens ≡ t ∷ rest → IsKeyword (operator_text o) t → level_of o ≢ level

-- an operator before its operand was the first token, and where none is
abbrev pub TakesUnaryOperator : UnaryOperator → List TokenOf → List TokenOf → Type 0
TakesUnaryOperator o old new = (t : TokenOf) × (old ≡ t ∷ new) × IsUnaryOperator o t

abbrev pub NoUnaryOperator : List TokenOf → Type 0
NoUnaryOperator tokens = (t : TokenOf) (rest : List TokenOf) (o : UnaryOperator) → tokens ≡ t ∷ rest → ¬ (IsUnaryOperator o t)
