-- Expressions that are columns, and the kinds of expressions.
use Rattle.std.specs.Prelude.{◌≡◌, ℕ, Option, Some, None}
use Rattle.cell_types.specs.declared.kind.ColumnKind.{ColumnKind}
use Rattle.cell_types.specs.declared.kind.ColumnKind.TheVariants.{Text, Number}
use Rattle.cell_types.specs.declared.kind.NumberKind.TheVariants as numbers
use Rattle.typed_trees.specs.TypedTree as typed
use Rattle.typed_trees.specs.TypedTree.{TypedExprOf}
use Rattle.typed_trees.specs.declared.plain.PlainColumn.{PlainColumn}

abbrev pub plain_at : ColumnKind → ℕ → PlainColumn
plain_at kind place = record { kind = kind; place = place }

-- the column that an expression is, where it is one
abbrev pub as_column : TypedExprOf → Option PlainColumn
as_column (typed.integer (typed.number_column numbers.Integer place) bound) = Some (plain_at (Number numbers.Integer) place)
as_column (typed.text (typed.text_column place)) = Some (plain_at Text place)
as_column (typed.truth (typed.truth_column place)) = Some (plain_at (Number numbers.Boolean) place)
as_column (typed.date (typed.date_column place)) = Some (plain_at (Number numbers.Date) place)
as_column (typed.decimal (typed.number_column numbers.Decimal place) bound) = Some (plain_at (Number numbers.Decimal) place)
as_column _ = None

-- the column of a kind with a number; beside a number its bound
abbrev pub kind_expr : ℕ → ColumnKind → ℕ → TypedExprOf
kind_expr place (Number numbers.Integer) size = typed.integer (typed.number_column numbers.Integer place) size
kind_expr place Text size = typed.text (typed.text_column place)
kind_expr place (Number numbers.Boolean) size = typed.truth (typed.truth_column place)
kind_expr place (Number numbers.Date) size = typed.date (typed.date_column place)
kind_expr place (Number numbers.Decimal) size = typed.decimal (typed.number_column numbers.Decimal place) size

-- the column of a kind is a column of that kind
abbrev pub ColumnsAreColumns : Type 0
ColumnsAreColumns = (place : ℕ) (kind : ColumnKind) (size : ℕ) → as_column (kind_expr place kind size) ≡ Some (plain_at kind place)

-- the kind of an expression's values
abbrev pub expression_kind : TypedExprOf → ColumnKind
expression_kind typed.nothing = Text
expression_kind (typed.integer e bound) = Number numbers.Integer
expression_kind (typed.text e) = Text
expression_kind (typed.truth e) = Number numbers.Boolean
expression_kind (typed.date e) = Number numbers.Date
expression_kind (typed.decimal e bound) = Number numbers.Decimal
