-- One more cell in a buffer.
use Rattle.std.proofs.Common.{◌≡◌, ℕ, zero, suc, ◌+◌, ◌<◌, ◌≤◌, Bool, true, false, List, [], ◌∷◌, ◌++◌, length, get_or, take, set, Option, None, Some, refl, sym, ap, ◌∙◌, subst, arith, add-one}
use Rattle.std.specs.Prelude.{ℤ, pos, is_none, is_some, not, unwrap_or}
use Rattle.std.specs.Option.{ForSome}
use Rattle.std.proofs.Math.Seq.{take-suc-set}
use Rattle.std.proofs.lemmas.Bool.{true≢false}
use Rattle.std.proofs.lemmas.List.{length-map, length-set, length-take}
use Rattle.block_summary.specs.Reading.{BufferOf, buffer_with_cell}
use Rattle.block_summary.specs.Cells.{number_or_null, cells_of}
use Rattle.cell_types.specs.Kind.{cell_of, IsNumberOf}
use Rattle.block_summary.specs.Types.{cells_of_kind, number_cells, AllNumbersOf, AreNumbersOf}
use Rattle.cell_types.specs.declared.kind.NumberKind.{NumberKind}
use Rattle.block_summary.proofs.CellLemmas.{cells_of-at, length-cells_of}

cells-more : (nulls : List Bool) (values : List ℤ) (b : Bool) (v : ℤ) → length nulls ≡ length values → cells_of (nulls ++ b ∷ []) (values ++ v ∷ []) ≡ cells_of nulls values ++ number_or_null b v ∷ []
cells-more [] [] b v e = refl
cells-more [] (x ∷ xs) b v e = absurd (omega arith)
cells-more (n ∷ ns) [] b v e = absurd (omega arith)
cells-more (n ∷ ns) (x ∷ xs) b v e = ap (λ rest. number_or_null n x ∷ rest) (cells-more ns xs b v (omega arith))

typed-more : (kind : NumberKind) (numbers : List (Option ℤ)) (o : Option ℤ) → cells_of_kind kind (numbers ++ o ∷ []) ≡ cells_of_kind kind numbers ++ cell_of kind o ∷ []
typed-more kind [] o = refl
typed-more kind (x ∷ xs) o = ap (λ rest. cell_of kind x ∷ rest) (typed-more kind xs o)

cell-option : (o : Option ℤ) → number_or_null (is_none o) (unwrap_or o (pos 0)) ≡ o
cell-option None = refl
cell-option (Some z) = refl

-- a place in a buffer that is free
pub record IsFree (nulls : List Bool) (values : List ℤ) (len : ℕ) : Type 0 where
  pub long : length nulls ≡ length values
  pub lt : len < length values

cells-pushed : (nulls : List Bool) (values : List ℤ) (len : ℕ) (o : Option ℤ) → IsFree nulls values len
    → cells_of (take (len + 1) (set nulls len (is_none o))) (take (len + 1) (set values len (unwrap_or o (pos 0)))) ≡ cells_of (take len nulls) (take len values) ++ o ∷ []
cells-pushed nulls values len o free =
    ap (λ k. cells_of (take k (set nulls len (is_none o))) (take k (set values len (unwrap_or o (pos 0))))) (add-one len)
    ∙ ap (λ ns. cells_of ns (take (suc len) (set values len (unwrap_or o (pos 0))))) (take-suc-set nulls len (is_none o) (omega (arith, free.long, free.lt)))
    ∙ ap (λ vs. cells_of (take len nulls ++ is_none o ∷ []) vs) (take-suc-set values len (unwrap_or o (pos 0)) free.lt)
    ∙ cells-more (take len nulls) (take len values) (is_none o) (unwrap_or o (pos 0))
    (omega (arith, length-take len nulls, length-take len values, free.long))
    ∙ ap (λ x. cells_of (take len nulls) (take len values) ++ x ∷ []) (cell-option o)

pub pushed : (kind : NumberKind) (nulls : List Bool) (values : List ℤ) (len : ℕ) (o : Option ℤ) → IsFree nulls values len
    → number_cells kind (take (len + 1) (set nulls len (is_none o))) (take (len + 1) (set values len (unwrap_or o (pos 0)))) ≡ number_cells kind (take len nulls) (take len values) ++ cell_of kind o ∷ []
pushed kind nulls values len o free = ap (cells_of_kind kind) (cells-pushed nulls values len o free) ∙ typed-more kind (cells_of (take len nulls) (take len values)) o

all-more : (kind : NumberKind) (numbers : List (Option ℤ)) (o : Option ℤ) → AllNumbersOf kind numbers → ForSome o (IsNumberOf kind) → AllNumbersOf kind (numbers ++ o ∷ [])
all-more kind [] o all is zero z e = is z e
all-more kind [] o all is (suc i) z e = absurd (cc)
all-more kind (x ∷ xs) o all is zero z e = all zero z e
all-more kind (x ∷ xs) o all is (suc i) z e = all-more kind xs o (λ j. all (suc j)) is i z e

pub all-pushed : (kind : NumberKind) (nulls : List Bool) (values : List ℤ) (len : ℕ) (o : Option ℤ) → IsFree nulls values len → AllNumbersOf kind (cells_of (take len nulls) (take len values))
    → ForSome o (IsNumberOf kind) → AllNumbersOf kind (cells_of (take (len + 1) (set nulls len (is_none o))) (take (len + 1) (set values len (unwrap_or o (pos 0)))))
all-pushed kind nulls values len o free all is =
    subst (AllNumbersOf kind) (sym (cells-pushed nulls values len o free)) (all-more kind (cells_of (take len nulls) (take len values)) o all is)

pub length-packed : (kind : NumberKind) (nulls : List Bool) (values : List ℤ) (len : ℕ) → len ≤ length values → length (number_cells kind (take len nulls) (take len values)) ≡ len
length-packed kind nulls values len le =
    length-map (cells_of (take len nulls) (take len values)) (cell_of kind)
    ∙ length-cells_of (take len nulls) (take len values)
    ∙ omega (arith, length-take len values)

pub numbers-of-all : (kind : NumberKind) (nulls : List Bool) (values : List ℤ) → AllNumbersOf kind (cells_of nulls values) → AreNumbersOf kind nulls values
numbers-of-all kind nulls values all = λ i lt number.
    all i (get_or values i (pos 0)) (cells_of-at nulls values i lt ∙ ap (λ b. number_or_null b (get_or values i (pos 0))) number)

-- ---- a push

abbrev view : NumberKind → List Bool → List ℤ → ℕ → BufferOf
view kind nulls values len = record { kind = kind; room = length values; cells = number_cells kind (take len nulls) (take len values) }

pub free-of : (kind : NumberKind) (nulls : List Bool) (values : List ℤ) (len : ℕ) (buffer : BufferOf) → view kind nulls values len ≡ buffer → length buffer.cells < buffer.room
    → length nulls ≡ length values → len ≤ length values → IsFree nulls values len
free-of kind nulls values len buffer is room long le = record {
  long = long;
  lt =
      let cells = ap (λ (b : BufferOf). length b.cells) is in
      let rooms = ap (λ (b : BufferOf). b.room) is in
      omega (arith, length-packed kind nulls values len le);
}

pub all-put : (kind : NumberKind) (nulls : List Bool) (values : List ℤ) (len : ℕ) (o : Option ℤ) (b : Bool) (v : ℤ) → b ≡ is_none o → v ≡ unwrap_or o (pos 0) → IsFree nulls values len
    → AllNumbersOf kind (cells_of (take len nulls) (take len values)) → ForSome o (IsNumberOf kind)
    → (length (set nulls len b) ≡ length (set values len v)) × (len + 1 ≤ length (set values len v))
    × AllNumbersOf kind (cells_of (take (len + 1) (set nulls len b)) (take (len + 1) (set values len v)))
all-put kind nulls values len o b v null value free all is = (
  omega (arith, free.long, length-set nulls len b, length-set values len v),
  omega (arith, free.lt, length-set values len v),
  subst (λ x. AllNumbersOf kind (cells_of (take (len + 1) (set nulls len x)) (take (len + 1) (set values len v)))) (sym null)
      (subst (λ y. AllNumbersOf kind (cells_of (take (len + 1) (set nulls len (is_none o))) (take (len + 1) (set values len y)))) (sym value)
      (all-pushed kind nulls values len o free all is)),
)

pub view-put : (kind : NumberKind) (nulls : List Bool) (values : List ℤ) (len : ℕ) (buffer : BufferOf) (o : Option ℤ) (b : Bool) (v : ℤ) → b ≡ is_none o → v ≡ unwrap_or o (pos 0)
    → IsFree nulls values len → view kind nulls values len ≡ buffer → view kind (set nulls len b) (set values len v) (len + 1) ≡ buffer_with_cell buffer (cell_of buffer.kind o)
view-put kind nulls values len buffer o b v null value free is =
    ap (λ x. view kind (set nulls len x) (set values len v) (len + 1)) null
    ∙ ap (λ y. view kind (set nulls len (is_none o)) (set values len y) (len + 1)) value
    ∙ ap (λ n. record { kind = kind; room = n; cells = number_cells kind (take (len + 1) (set nulls len (is_none o))) (take (len + 1) (set values len (unwrap_or o (pos 0)))) })
    (length-set values len (unwrap_or o (pos 0)))
    ∙ ap (λ cells. record { kind = kind; room = length values; cells = cells }) (pushed kind nulls values len o free)
    ∙ ap (λ (r : BufferOf). buffer_with_cell r (cell_of r.kind o)) is

pub none-of : (o : Option ℤ) (b : Bool) → is_some o ≡ not b → b ≡ is_none o
none-of None true e = refl
none-of None false e = absurd (true≢false (sym e))
none-of (Some z) true e = absurd (true≢false e)
none-of (Some z) false e = refl
