-- The values of a column, and the numbers that stand for them.
use Rattle.std.proofs.Common.{◌≡◌, ℕ, Option, Some, refl, sym, ap, ◌∙◌, subst}
use Rattle.std.specs.Prelude.{ℤ, pos}
use Rattle.jiff_core.specs.Calendar.{IsDate}
use Rattle.cell_types.specs.Column.{ColumnOf}
use Rattle.cell_types.specs.Datatype as datatype
use Rattle.cell_types.specs.Datatype.{DatatypeOf}
use Rattle.cell_types.specs.Laws.{DatesReadBack, IsOfColumn, IsOfDatatype}
use Rattle.cell_types.specs.Value.{CellValue, null, integer, boolean, date, decimal}
use Rattle.cell_types.specs.Kind.{day_number, kind_of, typed_cell, FitsKind, IsNumberOf}
use Rattle.cell_types.specs.declared.kind.ColumnKind.TheVariants.{Text, Number}
use Rattle.cell_types.specs.declared.kind.NumberKind.{NumberKind}
use Rattle.cell_types.specs.declared.kind.NumberKind.TheVariants.{Integer, Decimal, Boolean, Date}
use Rattle.cell_types.proofs.KindLemmas.{number-parts, typed_cell-date, IsPlace}

same-kind : (a b : NumberKind) → Number a ≡ Number b → a ≡ b
same-kind a b e = cc

no-kind : (b : NumberKind) → Text ≡ Number b → ⊥
no-kind b e = cc

fits : (a kind : NumberKind) (v : CellValue) → Number a ≡ Number kind → FitsKind a v → FitsKind kind v
fits a kind v e is = subst (λ t. FitsKind t v) (same-kind a kind e) is

fits-datatype : DatesReadBack → (d : DatatypeOf) (kind : NumberKind) (v : CellValue) → kind_of d ≡ Number kind → IsOfDatatype d v → FitsKind kind v
fits-datatype laws datatype.integer kind (integer z) e is = fits Integer kind (integer z) e is
fits-datatype laws datatype.integer kind _ e is = absurd is
fits-datatype laws datatype.text kind v e is = absurd (no-kind kind e)
fits-datatype laws (datatype.boolean of_true of_false) kind (boolean b) e is = fits Boolean kind (boolean b) e is
fits-datatype laws (datatype.boolean of_true of_false) kind _ e is = absurd is
fits-datatype laws (datatype.date form) kind (date year month day) e is =
    fits Date kind (date year month day) e (subst (λ y. IsDate y (pos month) (pos day)) (sym is.1) ((laws.calendar is.0 month day).0 is.2).1)
fits-datatype laws (datatype.date form) kind _ e is = absurd is
fits-datatype laws datatype.decimal kind (decimal z) e is = fits Decimal kind (decimal z) e is
fits-datatype laws datatype.decimal kind _ e is = absurd is

fits-null : (kind : NumberKind) → FitsKind kind null
fits-null Integer = tt
fits-null Decimal = tt
fits-null Boolean = tt
fits-null Date = tt

pub fits-column : DatesReadBack → (column : ColumnOf) (kind : NumberKind) (v : CellValue) → kind_of column.datatype ≡ Number kind → IsOfColumn column v → FitsKind kind v
fits-column laws column kind null e is = fits-null kind
fits-column laws column kind v e is = fits-datatype laws column.datatype kind v e is

pub date-kind : (kind : NumberKind) (year : ℤ) (month day : ℕ) → FitsKind kind (date year month day) → kind ≡ Date
date-kind Integer year month day is = absurd is
date-kind Decimal year month day is = absurd is
date-kind Boolean year month day is = absurd is
date-kind Date year month day is = refl

pub date-cell : (kind : NumberKind) (number year : ℤ) (month day : ℕ) → FitsKind kind (date year month day) → IsPlace month day → number ≡ day_number year month day
    → typed_cell kind number ≡ date year month day
date-cell kind number year month day is place e =
    ap (λ t. typed_cell t number) (date-kind kind year month day is) ∙ typed_cell-date number year month day (number-parts number year month day place e)

pub date-number : (kind : NumberKind) (number x year : ℤ) (month day : ℕ) → FitsKind kind (date year month day) → IsNumberOf Date number
    → ◌≡◌ {A = Option ℤ} (Some number) (Some x) → IsNumberOf kind x
date-number kind number x year month day is stands e =
    let same : number ≡ x = cc in
    subst (λ t. IsNumberOf t x) (sym (date-kind kind year month day is)) (subst (IsNumberOf Date) same stands)
