-- What holds of all inputs, and of the expressions that a query has.
use Rattle.std.specs.Prelude.{◌≡◌, ℕ, ◌^◌, All, List}
use Rattle.cell_types.specs.Value.{CellValue}
use Rattle.odata_lex.specs.Lexer.{AreTokens}
use Rattle.odata_lex.specs.Token.{token_views}
use Rattle.odata_lex.specs.declared.token.Token.{Token}
use Rattle.odata_parse.specs.Apply.{IsApply}
use Rattle.odata_parse.specs.Expression.{IsFilter}
use Rattle.odata_parse.specs.Options.{IsOrder}
use Rattle.odata_parse.specs.Tree.{ExprOf, OrderItemOf, TransformationOf}
use Rattle.csvw_meta.specs.Schema.{SchemaOf}
use Rattle.typed_trees.specs.declared.tree.TheConstants.{MILLIONTHS}
use Rattle.odata_types.specs.declared.types.TheConstants.{COLUMN_SIZE, FUNCTION_SIZE, MOST_SIZE}
use Rattle.odata_types.specs.Input.{IsInput, IsQueried, IsQueriedItem, IsQueriedTransformation, IsRowOf, IsShort, IsTableRow}
use Rattle.odata_types.specs.Schema.{inputs_of}

-- a filter of the tokens of a short source has few nodes and short texts
abbrev pub FiltersAreQueried : Type 0
FiltersAreQueried = (source : List ℕ) (tokens : List Token) (e : ExprOf) → AreTokens source tokens → IsShort source → IsFilter (token_views source tokens) e → IsQueried e

-- so have the expressions of `$orderby` and of `$apply`
pub record ExpressionsAreQueried : Type 0 where
  pub order : (source : List ℕ) (tokens : List Token) (items : List OrderItemOf)
      → AreTokens source tokens → IsShort source → IsOrder (token_views source tokens) items → All IsQueriedItem items
  pub apply : (source : List ℕ) (tokens : List Token) (transformations : List TransformationOf)
      → AreTokens source tokens → IsShort source → IsApply (token_views source tokens) transformations → All IsQueriedTransformation transformations

-- the columns of a table are an input, and its rows are rows of that input
pub record TablesAreInputs : Type 0 where
  pub input : (schema : SchemaOf) → IsInput (inputs_of schema)
  pub rows : (schema : SchemaOf) (row : List CellValue) → IsTableRow schema.columns row → IsRowOf (inputs_of schema) row

-- the numbers of the profile
pub record Sizes : Type 0 where
  pub most : MOST_SIZE ≡ 2 ^ 126
  pub column : COLUMN_SIZE ≡ 2 ^ 63
  pub function : FUNCTION_SIZE ≡ 2 ^ 40
  pub millionths : MILLIONTHS ≡ 10 ^ 6
