-- Items with a sign between each two (OData ABNF Construction Rules: `COMMA`).
use Rattle.std.specs.Prelude.{◌≡◌, List, [], ◌∷◌}
use Rattle.odata_lex.specs.Token.{TokenOf}
use Rattle.odata_lex.specs.declared.token.TokenKind.{TokenKind}
use Rattle.odata_lex.specs.declared.token.TokenKind.TheVariants.{OpenParenthesis, CloseParenthesis}

-- the tokens before are these items, at least one, with the sign between each two, and then the tokens after
pub data Separated {A : Type 0} (Item : List TokenOf → A → List TokenOf → Type 0) (sign : TokenKind) : List TokenOf → List A → List TokenOf → Type 0 where
  last_item : {before after : List TokenOf} {x : A} → Item before x after → Separated Item sign before (x ∷ []) after
  more_items : {before mid after : List TokenOf} {s : TokenOf} {x : A} {xs : List A} → Item before x (s ∷ mid) → s.kind ≡ sign → Separated Item sign mid xs after → Separated Item sign before (x ∷ xs) after

-- such items in parentheses
pub data Enclosed {A : Type 0} (Item : List TokenOf → A → List TokenOf → Type 0) (sign : TokenKind) : List TokenOf → List A → List TokenOf → Type 0 where
  enclosed : {o c : TokenOf} {before after : List TokenOf} {xs : List A} → o.kind ≡ OpenParenthesis → Separated Item sign before xs (c ∷ after) → c.kind ≡ CloseParenthesis → Enclosed Item sign (o ∷ before) xs after

-- all the tokens are such items
abbrev pub IsListOf : {A : Type 0} → (List TokenOf → A → List TokenOf → Type 0) → TokenKind → List TokenOf → List A → Type 0
IsListOf Item sign tokens xs = Separated Item sign tokens xs []
