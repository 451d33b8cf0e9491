-- What a parser of the crate gives, against the grammar.
use Rattle.std.specs.Prelude.{◌≡◌, ◌≢◌, ◌<◌, ◌≤◌, ℕ, codes, List, [], ◌∷◌, map, Result, Ok, Err, Vec, IfOk, IsErrOf, ◌↔◌}
use Rattle.odata_lex.specs.Token.{TokenOf, token_views}
use Rattle.odata_lex.specs.declared.token.Token.{Token}
use Rattle.odata_lex.specs.declared.token.TokenKind.{TokenKind}
use Rattle.odata_lex.specs.declared.token.TokenKind.TheVariants.{OpenParenthesis, CloseParenthesis, Comma, Slash, EqualsSign}
use Rattle.odata_parse.specs.declared.fault.ParseFault.{ParseFault}
use Rattle.odata_parse.specs.declared.fault.ParseFault.TheVariants.{TooDeep, Syntax, NoMemory}
use Rattle.odata_parse.specs.declared.fault.PhraseFault.{PhraseFault}
use Rattle.odata_parse.specs.declared.fault.PhraseFault.TheVariants.{Syntax as NoPhrase, NoMemory as NoMemoryForPhrase}
use Rattle.odata_parse.specs.declared.tree.Expr.{Expr}
use Rattle.odata_parse.specs.declared.tree.Transformation.{Transformation}
use Rattle.odata_parse.specs.declared.tree.BinaryOperator.{BinaryOperator}
use Rattle.odata_parse.specs.declared.tree.UnaryFunction.{UnaryFunction}
use Rattle.odata_parse.specs.declared.tree.BinaryFunction.{BinaryFunction}
use Rattle.odata_parse.specs.Apply.{IsApply}
use Rattle.odata_parse.specs.Depth.{IsTooDeep, IsTooDeepForApply}
use Rattle.odata_parse.specs.Expression.{Reads, level_of, top}
use Rattle.odata_parse.specs.Keyword.{IsKeyword, operator_text, unary_function_text, binary_function_text}
use Rattle.odata_parse.specs.Tree.{ExprOf, expr_view, unary_call, binary_call, apply_view}

abbrev pub parse_fault : PhraseFault → ParseFault
parse_fault NoPhrase = Syntax
parse_fault NoMemoryForPhrase = NoMemory

-- a sign between the items of a list
abbrev pub IsSeparator : TokenKind → Type 0
IsSeparator Comma = Unit {0}
IsSeparator Slash = Unit {0}
IsSeparator _ = ⊥

abbrev pub IsCloseOrSeparator : TokenKind → Type 0
IsCloseOrSeparator CloseParenthesis = Unit {0}
IsCloseOrSeparator Comma = Unit {0}
IsCloseOrSeparator Slash = Unit {0}
IsCloseOrSeparator _ = ⊥

-- an item of a list can end before these tokens
abbrev pub IsAfterItem : List TokenOf → Type 0
IsAfterItem [] = Unit {0}
IsAfterItem (t ∷ _) = IsCloseOrSeparator t.kind

-- a list can end before these tokens
abbrev pub IsAfterList : List TokenOf → Type 0
IsAfterList [] = Unit {0}
IsAfterList (t ∷ _) = t.kind ≡ CloseParenthesis

-- the trees of items
abbrev pub item_trees : {T X A : Type 0} → (T → X) → Vec T A → List X
item_trees tree items = map tree items.items

-- a parser gives this tree and stops before these tokens, unless memory ran out
abbrev pub GivesPhrase : {T X : Type 0} → (T → X) → X → List TokenOf → Result T PhraseFault → List TokenOf → Type 0
GivesPhrase view x after (Ok e) new = (view e ≡ x) × (new ≡ after)
GivesPhrase view x after (Err e) new = e ≡ NoMemoryForPhrase

-- what a parser gives is read from these tokens, and stops before those
abbrev pub Finds : {T X : Type 0} → (T → X) → (List TokenOf → X → List TokenOf → Type 0) → List TokenOf → Result T PhraseFault → List TokenOf → Type 0
Finds view reads old result new = IfOk result (λ x. reads old (view x) new)

-- a parser gives each tree that is read from these tokens and ends where it can end, unless memory ran out: the only one
abbrev pub Parses : {T X : Type 0} → (T → X) → (List TokenOf → X → List TokenOf → Type 0) → (List TokenOf → Type 0) → List TokenOf → Result T PhraseFault → List TokenOf → Type 0
Parses {X = X} view reads ends old result new = (x : X) (after : List TokenOf) → reads old x after → ends after → GivesPhrase view x after result new

-- the same for trees that can end anywhere
abbrev pub ParsesAll : {T X : Type 0} → (T → X) → (List TokenOf → X → List TokenOf → Type 0) → List TokenOf → Result T PhraseFault → List TokenOf → Type 0
ParsesAll {X = X} view reads old result new = (x : X) (after : List TokenOf) → reads old x after → GivesPhrase view x after result new

-- a phrase of level l does not go on with this token
pub record MayFollow (l : ℕ) (t : TokenOf) : Type 0 where
  pub no_call : t.kind ≢ OpenParenthesis
  pub no_list : 1 ≤ l → ¬ (IsKeyword (codes "in") t)
  pub no_operator : (o : BinaryOperator) → IsKeyword (operator_text o) t → l < level_of o

-- a phrase of level l can end before these tokens
abbrev pub CanEnd : ℕ → List TokenOf → Type 0
CanEnd l [] = Unit {0}
CanEnd l (t ∷ _) = MayFollow l t

-- a parser of phrases of a level
abbrev pub FindsExpr : ℕ → List TokenOf → Result Expr PhraseFault → List TokenOf → Type 0
FindsExpr l old result new = Finds expr_view (Reads l) old result new

abbrev pub ParsesExpr : ℕ → List TokenOf → Result Expr PhraseFault → List TokenOf → Type 0
ParsesExpr l old result new = Parses expr_view (Reads l) (CanEnd l) old result new

-- a word is a function, and the tokens before are the rest of its call, from after `(` on
pub data Calls (t : TokenOf) : List TokenOf → ExprOf → List TokenOf → Type 0 where
  calls_unary : {c : TokenOf} {before after : List TokenOf} {f : UnaryFunction} {e : ExprOf} → IsKeyword (unary_function_text f) t → Reads top before e (c ∷ after) → c.kind ≡ CloseParenthesis → Calls t before (unary_call f e) after
  calls_binary : {s c : TokenOf} {before mid after : List TokenOf} {f : BinaryFunction} {a b : ExprOf} → IsKeyword (binary_function_text f) t → Reads top before a (s ∷ mid) → s.kind ≡ Comma → Reads top mid b (c ∷ after) → c.kind ≡ CloseParenthesis → Calls t before (binary_call f a b) after

-- a parser of the rest of a call
abbrev pub FindsCall : TokenOf → List TokenOf → Result Expr PhraseFault → List TokenOf → Type 0
FindsCall t old result new = Finds expr_view (Calls t) old result new

abbrev pub ParsesCall : TokenOf → List TokenOf → Result Expr PhraseFault → List TokenOf → Type 0
ParsesCall t old result new = ParsesAll expr_view (Calls t) old result new

-- nothing is left after the tree
abbrev pub AreAll : {X : Type 0} → (List TokenOf → X → List TokenOf → Type 0) → List TokenOf → X → Type 0
AreAll reads tokens x = reads tokens x []

-- A parser of all the tokens: it gives their tree; `TooDeep` exactly where they nest too deep; `Syntax` only where they have no tree.
-- That memory ran out is all that is left.
pub record IsParsedUnless {T X : Type 0} (IsDeep : List TokenOf → Type 0) (view : T → X) (IsTree : List TokenOf → X → Type 0) (tokens : List TokenOf) (result : Result T ParseFault) : Type 0 where
  pub tree : IfOk result (λ x. IsTree tokens (view x))
  pub too_deep : IsErrOf result TooDeep ↔ IsDeep tokens
  pub syntax : IsErrOf result Syntax → (x : X) → ¬ (IsTree tokens x)

-- the same of the tokens of a text
abbrev pub IsParsed : {T X : Type 0} → (T → X) → (List TokenOf → X → Type 0) → List ℕ → List Token → Result T ParseFault → Type 0
IsParsed view IsTree source tokens result = IsParsedUnless IsTooDeep view IsTree (token_views source tokens) result

-- the same of `$apply`, which may have fewer `/` than a limit
abbrev pub IsParsedApply : {A : Type 0} → ℕ → List ℕ → List Token → Result (Vec Transformation A) ParseFault → Type 0
IsParsedApply limit source tokens result =
    IsParsedUnless (IsTooDeepForApply limit) apply_view IsApply (token_views source tokens) result

-- the second token is `=`
abbrev pub HasEqualsSign : List TokenOf → Type 0
HasEqualsSign [] = ⊥
HasEqualsSign (_ ∷ []) = ⊥
HasEqualsSign (_ ∷ t ∷ _) = t.kind ≡ EqualsSign
