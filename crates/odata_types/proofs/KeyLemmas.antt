-- A literal has the value that it is typed with, and no other.
use Rattle.std.proofs.Common.{◌≡◌, ◌*◌, ◌*ℤ◌, pos, Bool, true, false, nat_le, refl, if◌then◌else◌}
use Rattle.std.specs.Prelude.{ℤ, unsigned_abs, Ok, Err}
use Rattle.std.proofs.lemmas.Bool.{le-leb, leb-true}
use Rattle.cell_types.specs.Value as value
use Rattle.odata_parse.specs.Tree as tree
use Rattle.odata_parse.specs.Tree.{LiteralOf}
use Rattle.odata_types.specs.declared.fault.TypeFault.TheVariants.{BadKey}
use Rattle.cell_types.specs.declared.kind.ColumnKind.{ColumnKind}
use Rattle.cell_types.specs.declared.kind.ColumnKind.TheVariants.{Text, Number}
use Rattle.cell_types.specs.declared.kind.NumberKind.TheVariants as numbers
use Rattle.typed_trees.specs.declared.tree.TheConstants.{MILLIONTHS}
use Rattle.odata_types.specs.declared.types.TheConstants.{MOST_SIZE}
use Rattle.odata_types.specs.KeyValue.{kind_value, scaled_value, AnswersOnly, IsKindValue}

scaled_answers : (n : ℤ) → AnswersOnly (IsKindValue (Number numbers.Decimal) (tree.number n)) (scaled_value n)
scaled_answers n = by (nat_le (unsigned_abs n * MILLIONTHS) MOST_SIZE) refl
  where
    by : (c : Bool) → nat_le (unsigned_abs n * MILLIONTHS) MOST_SIZE ≡ c
        → AnswersOnly (IsKindValue (Number numbers.Decimal) (tree.number n)) (if c then Ok (value.decimal (n *ℤ pos MILLIONTHS)) else Err BadKey)
    by true e = ((leb-true (unsigned_abs n * MILLIONTHS) MOST_SIZE e, refl), (λ y h. h.1))
    by false e = (refl, (λ y h. let other_way = le-leb (unsigned_abs n * MILLIONTHS) MOST_SIZE h.0 in absurd (cc)))

pub kind_answers : (kind : ColumnKind) (literal : LiteralOf) → AnswersOnly (IsKindValue kind literal) (kind_value kind literal)
kind_answers (Number numbers.Integer) tree.null = (refl, (λ y h. h))
kind_answers (Number numbers.Integer) (tree.boolean b) = (refl, (λ y h. h))
kind_answers (Number numbers.Integer) (tree.number n) = (refl, (λ y h. h))
kind_answers (Number numbers.Integer) (tree.text t) = (refl, (λ y h. h))
kind_answers (Number numbers.Integer) (tree.date y m d) = (refl, (λ y h. h))
kind_answers (Number numbers.Integer) (tree.decimal n) = (refl, (λ y h. h))
kind_answers Text tree.null = (refl, (λ y h. h))
kind_answers Text (tree.boolean b) = (refl, (λ y h. h))
kind_answers Text (tree.number n) = (refl, (λ y h. h))
kind_answers Text (tree.text t) = (refl, (λ y h. h))
kind_answers Text (tree.date y m d) = (refl, (λ y h. h))
kind_answers Text (tree.decimal n) = (refl, (λ y h. h))
kind_answers (Number numbers.Boolean) tree.null = (refl, (λ y h. h))
kind_answers (Number numbers.Boolean) (tree.boolean b) = (refl, (λ y h. h))
kind_answers (Number numbers.Boolean) (tree.number n) = (refl, (λ y h. h))
kind_answers (Number numbers.Boolean) (tree.text t) = (refl, (λ y h. h))
kind_answers (Number numbers.Boolean) (tree.date y m d) = (refl, (λ y h. h))
kind_answers (Number numbers.Boolean) (tree.decimal n) = (refl, (λ y h. h))
kind_answers (Number numbers.Date) tree.null = (refl, (λ y h. h))
kind_answers (Number numbers.Date) (tree.boolean b) = (refl, (λ y h. h))
kind_answers (Number numbers.Date) (tree.number n) = (refl, (λ y h. h))
kind_answers (Number numbers.Date) (tree.text t) = (refl, (λ y h. h))
kind_answers (Number numbers.Date) (tree.date y m d) = (refl, (λ y h. h))
kind_answers (Number numbers.Date) (tree.decimal n) = (refl, (λ y h. h))
kind_answers (Number numbers.Decimal) tree.null = (refl, (λ y h. h))
kind_answers (Number numbers.Decimal) (tree.boolean b) = (refl, (λ y h. h))
kind_answers (Number numbers.Decimal) (tree.number n) = scaled_answers n
kind_answers (Number numbers.Decimal) (tree.text t) = (refl, (λ y h. h))
kind_answers (Number numbers.Decimal) (tree.date y m d) = (refl, (λ y h. h))
kind_answers (Number numbers.Decimal) (tree.decimal n) = (refl, (λ y h. h))
