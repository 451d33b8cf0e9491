-- Expressions that are sound on a row: its numbers fit 128 bits and are within their bounds, its texts are short. Values and columns are.
use Rattle.std.proofs.Common.{◌≡◌, ℕ, zero, suc, ◌*◌, ◌^◌, ◌≤◌, Bool, true, false, Option, Some, None, List, [], ◌∷◌, length, refl, arith, if◌then◌else◌}
use Rattle.std.specs.Prelude.{unsigned_abs, IfSome, IfOk, Result, Ok, Err, nat_le, option_and_then, slice_get}
use Rattle.std.proofs.lemmas.Bool.{leb-true}
use Rattle.cell_types.specs.Value as cells
use Rattle.cell_types.specs.Value.{CellValue}
use Rattle.odata_parse.specs.Tree as tree
use Rattle.odata_parse.specs.Tree.{LiteralOf}
use Rattle.cell_types.specs.declared.kind.NumberKind.TheVariants as numbers
use Rattle.typed_trees.specs.declared.tree.TheConstants.{MILLIONTHS}
use Rattle.odata_types.specs.declared.types.TheConstants.{MOST_SIZE}
use Rattle.odata_types.specs.declared.types.ColumnType.{ColumnType}
use Rattle.cell_types.specs.declared.kind.ColumnKind.{ColumnKind}
use Rattle.cell_types.specs.declared.kind.ColumnKind.TheVariants.{Text, Number}
use Rattle.odata_types.specs.declared.types.ExprType.{ExprType}
use Rattle.odata_types.specs.declared.types.ExprType.TheVariants as kind
use Rattle.odata_types.specs.declared.fault.TypeFault.{TypeFault}
use Rattle.odata_types.specs.declared.fault.TypeFault.TheVariants.{TooLarge}
use Rattle.odata_types.specs.Columns.{InputOf}
use Rattle.odata_types.specs.Result.{◌>>=◌}
use Rattle.typed_trees.specs.TypedTree as typed
use Rattle.typed_trees.specs.TypedTree.{DateExprOf, TextExprOf, NumberExprOf, TypedExprOf, number_of_date}
use Rattle.typed_trees.specs.Plain.{kind_expr}
use Rattle.odata_types.specs.Typing.{as_date, as_decimal, as_integer, as_number, as_text, as_truth, column_at, column_expr, literal_typing, name_typing, place_of, within}
use Rattle.row_eval.specs.Bounds.{NumberFits, TruthFits}
use Rattle.odata_types.specs.Input.{IsBounded, IsDay, IsInput, IsOfKind, IsOfType, IsRowOf, IsShortLiteral}
use Rattle.row_eval.specs.Outcome.{date_outcome, number_outcome, text_outcome}
use Rattle.row_eval.specs.Row.{day_in, number_in, text_in}
use Rattle.query_meaning.proofs.SizeLemmas.{AtMost, Sized, fits_of, scaled_sized}

-- ---- sound expressions: of that many nodes, on that row

abbrev pub NumberSound : List CellValue → NumberExprOf × ℕ → Type 0
NumberSound row p = (p.1 ≤ MOST_SIZE) × NumberFits p.0 row × Sized (number_outcome p.0 row) p.1

abbrev pub TextSound : List CellValue → ℕ → TextExprOf → Type 0
TextSound row k e = IfSome (text_outcome e row) (λ t. length t ≤ k * 2 ^ 30)

abbrev pub DateSound : List CellValue → DateExprOf → Type 0
DateSound row e = IfSome (date_outcome e row) (λ d. IsDay (unsigned_abs d.year) d.month d.day)

abbrev pub Sound : List CellValue → ℕ → TypedExprOf → Type 0
Sound row k typed.nothing = Unit {0}
Sound row k (typed.integer e b) = NumberSound row (e, b)
Sound row k (typed.text e) = TextSound row k e
Sound row k (typed.truth e) = TruthFits e row
Sound row k (typed.date e) = DateSound row e
Sound row k (typed.decimal e b) = NumberSound row (e, b)

pub bind : {A B : Type 0} (r : Result A TypeFault) (f : A → Result B TypeFault) (P : A → Type 0) (Q : B → Type 0) → IfOk r P → ((x : A) → P x → IfOk (f x) Q) → IfOk (r >>= f) Q
bind (Ok x) f P Q p g = g x p
bind (Err e) f P Q p g = tt

pub if_within : {X : Type 0} (size : ℕ) (x : X) (Q : X → Type 0) → (size ≤ MOST_SIZE → Q x) → IfOk (within size x) Q
if_within size x Q f = by (nat_le size MOST_SIZE) refl
  where
    by : (c : Bool) → nat_le size MOST_SIZE ≡ c → IfOk (if c then Ok x else Err TooLarge) Q
    by true e = f (leb-true size MOST_SIZE e)
    by false e = tt

pub always : {X : Type 0} (r : Result X TypeFault) → IfOk r (λ _. Unit {0})
always (Ok x) = tt
always (Err e) = tt

pub as_integer_sound : (row : List CellValue) (k : ℕ) (t : TypedExprOf) → Sound row k t → IfOk (as_integer t) (NumberSound row)
as_integer_sound row k typed.nothing h = (omega arith, tt, tt)
as_integer_sound row k (typed.integer e b) h = h
as_integer_sound row k t h = tt

pub as_decimal_sound : (row : List CellValue) (k : ℕ) (t : TypedExprOf) → Sound row k t → IfOk (as_decimal t) (NumberSound row)
as_decimal_sound row k typed.nothing h = (omega arith, tt, tt)
as_decimal_sound row k (typed.integer e b) h = if_within (b * MILLIONTHS) (typed.scaled e, b * MILLIONTHS) (NumberSound row) (λ limit.
    let s = scaled_sized (number_outcome e row) b h.2 in (limit, (h.1, fits_of (number_outcome (typed.scaled e) row) (b * MILLIONTHS) limit s), s))
as_decimal_sound row k (typed.decimal e b) h = h
as_decimal_sound row k t h = tt

pub as_text_sound : (row : List CellValue) (k : ℕ) (t : TypedExprOf) → Sound row k t → IfOk (as_text t) (TextSound row k)
as_text_sound row k (typed.text e) h = h
as_text_sound row k t h = tt

pub as_date_sound : (row : List CellValue) (k : ℕ) (t : TypedExprOf) → Sound row k t → IfOk (as_date t) (DateSound row)
as_date_sound row k (typed.date e) h = h
as_date_sound row k t h = tt

date_fits : (row : List CellValue) (d : DateExprOf) → NumberFits (number_of_date d) row
date_fits row typed.null_date = tt
date_fits row (typed.date_column p) = tt
date_fits row (typed.date_literal d) = tt

integer_fits : (row : List CellValue) (k : ℕ) (t : TypedExprOf) → Sound row k t → IfOk (as_integer t >>= λ x. Ok x.0) (λ e. NumberFits e row)
integer_fits row k t h = bind (as_integer t) _ (NumberSound row) (λ e. NumberFits e row) (as_integer_sound row k t h) (λ x px. px.1)

pub as_number_sound : (row : List CellValue) (k : ℕ) (type : ExprType) (t : TypedExprOf) → Sound row k t → IfOk (as_number type t) (λ e. NumberFits e row)
as_number_sound row k kind.Decimal t h = bind (as_decimal t) _ (NumberSound row) (λ e. NumberFits e row) (as_decimal_sound row k t h) (λ x px. px.1)
as_number_sound row k kind.Date t h = bind (as_date t) _ (λ _. Unit {0}) (λ e. NumberFits e row) (always (as_date t)) (λ d _. date_fits row d)
as_number_sound row k type t h = integer_fits row k t h

pub as_truth_sound : (row : List CellValue) (k : ℕ) (t : TypedExprOf) → Sound row k t → IfOk (as_truth t) (λ e. TruthFits e row)
as_truth_sound row k typed.nothing h = tt
as_truth_sound row k (typed.integer e b) h = tt
as_truth_sound row k (typed.text e) h = tt
as_truth_sound row k (typed.truth e) h = h
as_truth_sound row k (typed.date e) h = tt
as_truth_sound row k (typed.decimal e b) h = tt

-- ---- values and columns

pub literal_sound : (row : List CellValue) (v : LiteralOf) → IsShortLiteral v → IfOk (literal_typing v) (Sound row 1)
literal_sound row tree.null h = tt
literal_sound row (tree.boolean b) h = tt
literal_sound row (tree.number n) h = if_within (unsigned_abs n) (typed.integer (typed.number_literal n) (unsigned_abs n)) (Sound row 1) (λ limit. (limit, tt, omega arith))
literal_sound row (tree.text t) h = omega (arith, h)
literal_sound row (tree.date y m d) h = h
literal_sound row (tree.decimal n) h = if_within (unsigned_abs n) (typed.decimal (typed.number_literal n) (unsigned_abs n)) (Sound row 1) (λ limit. (limit, tt, omega arith))

integer_cell : (o : Option CellValue) (b : ℕ) → IfSome o (IsOfKind (Number numbers.Integer) b) → AtMost b (option_and_then (number_in numbers.Integer) o)
integer_cell (Some (cells.integer n)) b h = h
integer_cell o b h = tt

decimal_cell : (o : Option CellValue) (b : ℕ) → IfSome o (IsOfKind (Number numbers.Decimal) b) → AtMost b (option_and_then (number_in numbers.Decimal) o)
decimal_cell (Some (cells.decimal n)) b h = h
decimal_cell o b h = tt

text_cell : (o : Option CellValue) (b : ℕ) → IfSome o (IsOfKind Text b) → IfSome (option_and_then text_in o) (λ t. length t ≤ 1 * 2 ^ 30)
text_cell (Some (cells.text t)) b h = omega (arith, h)
text_cell o b h = tt

date_cell : (o : Option CellValue) (b : ℕ) → IfSome o (IsOfKind (Number numbers.Date) b) → IfSome (option_and_then day_in o) (λ d. IsDay (unsigned_abs d.year) d.month d.day)
date_cell (Some (cells.date y m d)) b h = h
date_cell o b h = tt

kind_sound : (row : List CellValue) (place : ℕ) (kind : ColumnKind) (b : ℕ) → b ≤ MOST_SIZE → IfSome (slice_get row place) (IsOfKind kind b) → Sound row 1 (kind_expr place kind b)
kind_sound row place (Number numbers.Integer) b limit h = (limit, tt, integer_cell (slice_get row place) b h)
kind_sound row place Text b limit h = text_cell (slice_get row place) b h
kind_sound row place (Number numbers.Boolean) b limit h = tt
kind_sound row place (Number numbers.Date) b limit h = date_cell (slice_get row place) b h
kind_sound row place (Number numbers.Decimal) b limit h = (limit, tt, decimal_cell (slice_get row place) b h)

column_sound : (row : List CellValue) (place : ℕ) (type : ColumnType) → IsBounded type → IfSome (slice_get row place) (IsOfType type) → Sound row 1 (column_expr place type)
column_sound row place type limit h = kind_sound row place type.kind type.size limit h

cell_at : (inputs : List InputOf) (row : List CellValue) (place : ℕ) (c : InputOf) → IsInput inputs → IsRowOf inputs row → slice_get inputs place ≡ Some c → IsBounded c.column_type × IfSome (slice_get row place) (IsOfType c.column_type)
cell_at [] row place c limit h e = absurd (cc)
cell_at (i ∷ is) [] place c limit h e = absurd h
cell_at (i ∷ is) (v ∷ vs) zero c limit h e = let same : i ≡ c = cc in rw (← same) (limit.0, h.0)
cell_at (i ∷ is) (v ∷ vs) (suc place) c limit h e = cell_at is vs place c limit.1 h.1 e

pub name_sound : (inputs : List InputOf) (row : List CellValue) (n : List ℕ) → IsInput inputs → IsRowOf inputs row → IfOk (name_typing inputs n) (Sound row 1)
name_sound inputs row n limit h = by (slice_get inputs (place_of inputs n)) refl
  where
    by : (o : Option InputOf) → slice_get inputs (place_of inputs n) ≡ o → IfOk (column_at (place_of inputs n) o) (Sound row 1)
    by None e = tt
    by (Some c) e = let at = cell_at inputs row (place_of inputs n) c limit h e in column_sound row (place_of inputs n) c.column_type at.0 at.1
