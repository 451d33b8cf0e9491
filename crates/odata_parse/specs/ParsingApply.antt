-- What the parsers of the parts of `$apply` give.
use Rattle.std.specs.Prelude.{◌≡◌, ℕ, List, ◌∷◌, Result, IfOk}
use Rattle.odata_lex.specs.Token.{TokenOf}
use Rattle.odata_lex.specs.declared.token.TokenKind.TheVariants.{Dollar}
use Rattle.odata_parse.specs.declared.fault.PhraseFault.{PhraseFault}
use Rattle.odata_parse.specs.declared.tree.AggregateItem.{AggregateItem}
use Rattle.odata_parse.specs.declared.tree.AggregationMethod.{AggregationMethod}
use Rattle.odata_parse.specs.declared.tree.Transformation.{Transformation}
use Rattle.odata_parse.specs.Apply.{ReadsAggregateItem, ReadsTransformation}
use Rattle.odata_parse.specs.Cursor.{NotFirst}
use Rattle.odata_parse.specs.Keyword.{IsKeyword, method_text}
use Rattle.odata_parse.specs.Parsing.{GivesPhrase}
use Rattle.odata_parse.specs.Tree.{AggregateItemOf, aggregate_item_view, TransformationOf, transformation_view}

-- a method was the first token, and where none is
abbrev pub TakesMethod : AggregationMethod → List TokenOf → List TokenOf → Type 0
TakesMethod m old new = (t : TokenOf) × (old ≡ t ∷ new) × IsKeyword (method_text m) t

abbrev pub NoMethod : List TokenOf → Type 0
NoMethod tokens = (t : TokenOf) (rest : List TokenOf) (m : AggregationMethod) → tokens ≡ t ∷ rest → ¬ (IsKeyword (method_text m) t)

-- a parser gives each item that does not begin with a Dollar
abbrev pub ParsesColumn : List TokenOf → Result AggregateItem PhraseFault → List TokenOf → Type 0
ParsesColumn old result new =
    (x : AggregateItemOf) (after : List TokenOf) → ReadsAggregateItem old x after → NotFirst (λ t. t.kind ≡ Dollar) old → GivesPhrase aggregate_item_view x after result new

-- what a parser gives is, with the keyword before it, a transformation
abbrev pub FindsBehind : List ℕ → List TokenOf → Result Transformation PhraseFault → List TokenOf → Type 0
FindsBehind keyword old result new =
    (t : TokenOf) → IsKeyword keyword t → IfOk result (λ x. ReadsTransformation (t ∷ old) (transformation_view x) new)

-- a parser gives each transformation that begins with the keyword
abbrev pub ParsesBehind : List ℕ → List TokenOf → Result Transformation PhraseFault → List TokenOf → Type 0
ParsesBehind keyword old result new =
    (t : TokenOf) (x : TransformationOf) (after : List TokenOf) → IsKeyword keyword t → ReadsTransformation (t ∷ old) x after → GivesPhrase transformation_view x after result new
