-- The values of literals in the columns of a key (OData 4.01 URL Conventions, section 4.3.1).
use Rattle.std.specs.Prelude.{◌≡◌, ◌≤◌, ℤ, ◌*◌, pos, ◌*ℤ◌, unsigned_abs, nat_le, Result, Ok, Err, if◌then◌else◌}
use Rattle.cell_types.specs.Value as value
use Rattle.cell_types.specs.Value.{CellValue}
use Rattle.odata_parse.specs.Tree as tree
use Rattle.odata_parse.specs.Tree.{LiteralOf}
use Rattle.odata_types.specs.declared.fault.TypeFault.{TypeFault}
use Rattle.odata_types.specs.declared.fault.TypeFault.TheVariants.{BadKey}
use Rattle.cell_types.specs.declared.kind.ColumnKind.{ColumnKind}
use Rattle.cell_types.specs.declared.kind.ColumnKind.TheVariants.{Text, Number}
use Rattle.cell_types.specs.declared.kind.NumberKind.TheVariants as numbers
use Rattle.typed_trees.specs.declared.tree.TheConstants.{MILLIONTHS}
use Rattle.odata_types.specs.declared.types.TheConstants.{MOST_SIZE}

-- an integer counts as its value times 1,000,000 in a column of decimals, if it is not too large
abbrev pub scaled_value : ℤ → Result CellValue TypeFault
scaled_value n = if nat_le (unsigned_abs n * MILLIONTHS) MOST_SIZE then Ok (value.decimal (n *ℤ pos MILLIONTHS)) else Err BadKey

-- a literal in a column of the key: one of the column's kind, and not null
abbrev pub kind_value : ColumnKind → LiteralOf → Result CellValue TypeFault
kind_value (Number numbers.Integer) (tree.number n) = Ok (value.integer n)
kind_value Text (tree.text t) = Ok (value.text t)
kind_value (Number numbers.Boolean) (tree.boolean b) = Ok (value.boolean b)
kind_value (Number numbers.Date) (tree.date y m d) = Ok (value.date y m d)
kind_value (Number numbers.Decimal) (tree.decimal n) = Ok (value.decimal n)
kind_value (Number numbers.Decimal) (tree.number n) = scaled_value n
kind_value kind v = Err BadKey

-- a literal has this value in a column of the kind: that of a literal of the kind, or the millionths of a whole number
abbrev pub IsKindValue : ColumnKind → LiteralOf → CellValue → Type 0
IsKindValue (Number numbers.Integer) (tree.number n) v = v ≡ value.integer n
IsKindValue Text (tree.text t) v = v ≡ value.text t
IsKindValue (Number numbers.Boolean) (tree.boolean b) v = v ≡ value.boolean b
IsKindValue (Number numbers.Date) (tree.date y m d) v = v ≡ value.date y m d
IsKindValue (Number numbers.Decimal) (tree.decimal n) v = v ≡ value.decimal n
IsKindValue (Number numbers.Decimal) (tree.number n) v = (unsigned_abs n * MILLIONTHS ≤ MOST_SIZE) × (v ≡ value.decimal (n *ℤ pos MILLIONTHS))
IsKindValue kind literal v = ⊥

-- an answer is the one that the relation gives; it is refused just where the relation gives none
abbrev pub AnswersOnly : {X : Type 0} → (X → Type 0) → Result X TypeFault → Type 0
AnswersOnly Is (Ok x) = Is x × ((y : _) → Is y → y ≡ x)
AnswersOnly Is (Err cause) = (cause ≡ BadKey) × ((y : _) → Is y → ⊥)

-- a literal has a value in a column of a kind just where the relation gives one, and this is it
abbrev pub LiteralsHaveValues : Type 0
LiteralsHaveValues = (kind : ColumnKind) (literal : LiteralOf) → AnswersOnly (IsKindValue kind literal) (kind_value kind literal)
