-- That a token begins a text.
use Rattle.std.proofs.Common.{◌≡◌, ℕ, List, length, Option, None, Some}
use Rattle.odata_lex.specs.Lexer.{BeginsToken}
use Rattle.odata_lex.specs.declared.token.TokenKind.{TokenKind}

-- a token of this kind and length begins the text
pub record Finds (text : List ℕ) (kind : TokenKind) (n : ℕ) : Type 0 where
  pub front : List ℕ
  pub after : List ℕ
  pub begins : BeginsToken text kind front after
  pub len : n ≡ length front

abbrev pub FindsIn : List ℕ → Option (TokenKind × ℕ) → Type 0
FindsIn text None = Unit {0}
FindsIn text (Some found) = Finds text found.0 found.1
