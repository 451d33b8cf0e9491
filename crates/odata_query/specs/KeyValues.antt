-- The values of a key predicate (OData 4.01 URL Conventions, section 4.3.1), as a relation.
pub use Rattle.odata_types.specs.KeyValue.{AnswersOnly}
use Rattle.std.specs.Prelude.{◌≡◌, ◌≢◌, ◌⊎◌, ℕ, List, [], ◌∷◌, length, Some, slice_get}
use Rattle.cell_types.specs.Value.{CellValue}
use Rattle.odata_parse.specs.Tree.{KeyOf, KeyPairOf, LiteralOf, key_pair, named, single}
use Rattle.odata_types.specs.declared.types.ColumnType.{ColumnType}
use Rattle.odata_types.specs.Columns.{InputOf}
use Rattle.odata_types.specs.KeyValue.{IsKindValue}
use Rattle.odata_query.specs.Key.{key_typing}

-- a literal has this value in a column of the type
abbrev pub IsValueIn : ColumnType → LiteralOf → CellValue → Type 0
IsValueIn type literal v = IsKindValue type.kind literal v

-- the literal has this value in the column with the number
pub record IsValueAt (inputs : List InputOf) (place : ℕ) (literal : LiteralOf) (v : CellValue) : Type 0 where
  pub column : InputOf
  pub there : slice_get inputs place ≡ Some column
  pub fits : IsValueIn column.column_type literal v

-- the first literal under a name
abbrev pub IsUnder : List KeyPairOf → List ℕ → LiteralOf → Type 0
IsUnder [] name literal = ⊥
IsUnder (key_pair n l ∷ pairs) name literal = ((name ≡ n) × (l ≡ literal)) ⊎ ((name ≢ n) × IsUnder pairs name literal)

-- the literal under the name of the column with the number has this value there
pub record IsNamedAt (inputs : List InputOf) (pairs : List KeyPairOf) (place : ℕ) (v : CellValue) : Type 0 where
  pub column : InputOf
  pub literal : LiteralOf
  pub there : slice_get inputs place ≡ Some column
  pub under : IsUnder pairs column.name literal
  pub fits : IsValueIn column.column_type literal v

-- a value for each of the columns, in their order
abbrev pub AreNamed : List InputOf → List KeyPairOf → List ℕ → List CellValue → Type 0
AreNamed inputs pairs [] [] = Unit {0}
AreNamed inputs pairs (place ∷ places) (v ∷ vs) = IsNamedAt inputs pairs place v × AreNamed inputs pairs places vs
AreNamed inputs pairs places values = ⊥

-- A key of these columns has these values: a literal alone that of the key's one column; under names there are as many literals as columns, in any order,
-- and one under the name of each.
abbrev pub IsKeyOf : List InputOf → List ℕ → KeyOf → List CellValue → Type 0
IsKeyOf inputs [] key values = ⊥
IsKeyOf inputs (place ∷ []) (single literal) (v ∷ []) = IsValueAt inputs place literal v
IsKeyOf inputs places (single literal) values = ⊥
IsKeyOf inputs places (named pairs) values = (length pairs ≡ length places) × AreNamed inputs pairs places values

-- a key predicate has a type just where it has values in the columns of the key, and these are they
abbrev pub KeysAreTyped : Type 0
KeysAreTyped = (inputs : List InputOf) (places : List ℕ) (key : KeyOf) → AnswersOnly (IsKeyOf inputs places key) (key_typing inputs places key)
