-- A key has the values that it is typed with, and no others.
use Rattle.std.proofs.Common.{◌≡◌, ◌*◌, ◌*ℤ◌, ℕ, pos, Bool, true, false, nat_le, nat_eq, List, [], ◌∷◌, length, refl, ap, inl, inr, if◌then◌else◌}
use Rattle.std.specs.Prelude.{ℤ, unsigned_abs, Option, Some, None, Result, Ok, Err, slice_get}
use Rattle.std.specs.Str.{bytes_eq}
use Rattle.std.specs.Cmp.{unsigned_Decides}
use Rattle.std.proofs.lemmas.Bool.{cases_Bool, le-leb, leb-true}
use Rattle.std.proofs.lemmas.Slice.Eq.{bytes_eq-Decides}
use Rattle.cell_types.specs.Value as value
use Rattle.cell_types.specs.Value.{CellValue}
use Rattle.odata_parse.specs.Tree as tree
use Rattle.odata_parse.specs.Tree.{KeyOf, KeyPairOf, LiteralOf, key_pair, named, single}
use Rattle.odata_types.specs.declared.fault.TypeFault.{TypeFault}
use Rattle.odata_types.specs.declared.fault.TypeFault.TheVariants.{BadKey}
use Rattle.odata_types.specs.declared.types.ColumnType.{ColumnType}
use Rattle.cell_types.specs.declared.kind.ColumnKind.{ColumnKind}
use Rattle.cell_types.specs.declared.kind.ColumnKind.TheVariants.{Text, Number}
use Rattle.cell_types.specs.declared.kind.NumberKind.TheVariants as numbers
use Rattle.typed_trees.specs.declared.tree.TheConstants.{MILLIONTHS}
use Rattle.odata_types.specs.declared.types.TheConstants.{MOST_SIZE}
use Rattle.odata_types.specs.Columns.{InputOf}
use Rattle.odata_types.specs.Result.{◌>>=◌}
use Rattle.odata_types.specs.KeyValue.{LiteralsHaveValues}
use Rattle.odata_query.specs.Key.{key_typing, key_value, literal_in, named_value, named_value_in, named_values, value_in_place, value_of_type, value_under}
use Rattle.odata_query.specs.KeyValues.{AnswersOnly, AreNamed, IsKeyOf, IsNamedAt, IsUnder, IsValueAt, IsValueIn}

-- the same answer to another relation that gives the same
pub other : {X : Type 0} (P Q : X → Type 0) (r : Result X TypeFault) → ((x : X) → P x → Q x) → ((x : X) → Q x → P x) → AnswersOnly P r → AnswersOnly Q r
other P Q (Ok x) to from a = (to x a.0, (λ y q. a.1 y (from y q)))
other P Q (Err e) to from a = (a.0, (λ y q. a.1 y (from y q)))

-- ---- a literal alone

at : LiteralsHaveValues → (inputs : List InputOf) (place : ℕ) (literal : LiteralOf) (o : Option InputOf) → slice_get inputs place ≡ o
    → AnswersOnly (IsValueAt inputs place literal) (literal_in o literal)
at law inputs place literal None e = (refl, (λ y h. let there = h.there in absurd (cc)))
at law inputs place literal (Some c) e =
    other (IsValueIn c.column_type literal) (IsValueAt inputs place literal) (key_value c.column_type literal)
    (λ x h. record { column = c; there = e; fits = h })
    (λ x h. let there = h.there in let same : c ≡ h.column = cc in rw same h.fits)
    (law c.column_type.kind literal)

alone : (inputs : List InputOf) (place : ℕ) (literal : LiteralOf) (r : Result CellValue TypeFault) → AnswersOnly (IsValueAt inputs place literal) r
    → AnswersOnly (IsKeyOf inputs (place ∷ []) (single literal)) (r >>= λ x. Ok (x ∷ []))
alone inputs place literal (Ok x) a = (a.0, only)
  where
    only : (y : List CellValue) → IsKeyOf inputs (place ∷ []) (single literal) y → y ≡ x ∷ []
    only [] h = absurd h
    only (v ∷ []) h = ap (λ z. z ∷ []) (a.1 v h)
    only (v ∷ w ∷ vs) h = absurd h
alone inputs place literal (Err e) a = (a.0, none)
  where
    none : (y : List CellValue) → IsKeyOf inputs (place ∷ []) (single literal) y → ⊥
    none [] h = h
    none (v ∷ []) h = a.1 v h
    none (v ∷ w ∷ vs) h = h

-- ---- literals under names

found : (pairs : List KeyPairOf) (name : List ℕ) (literal : LiteralOf) → value_under pairs name ≡ Some literal → IsUnder pairs name literal
found [] name literal h = absurd (cc)
found (key_pair n l ∷ pairs) name literal h =
    elim (cases_Bool (bytes_eq name n)) [
      | inl e ↦ let k = rw e at h in inl ((bytes_eq-Decides name n).0 e, cc)
      | inr e ↦ let k = rw e at h in inr ((λ q. let b = (bytes_eq-Decides name n).1 q in absurd (cc)), found pairs name literal k)
    ]

under : (pairs : List KeyPairOf) (name : List ℕ) (literal : LiteralOf) → IsUnder pairs name literal → value_under pairs name ≡ Some literal
under [] name literal h = absurd h
under (key_pair n l ∷ pairs) name literal (inl h) = let b = (bytes_eq-Decides name n).1 h.0 in rw b (ap (λ (x : LiteralOf). Some x) h.1)
under (key_pair n l ∷ pairs) name literal (inr h) =
    elim (cases_Bool (bytes_eq name n)) [
      | inl e ↦ absurd (h.0 ((bytes_eq-Decides name n).0 e))
      | inr e ↦ rw e (under pairs name literal h.1)
    ]

named_in : LiteralsHaveValues → (inputs : List InputOf) (pairs : List KeyPairOf) (place : ℕ) (c : InputOf) → slice_get inputs place ≡ Some c
    → (o : Option LiteralOf) → value_under pairs c.name ≡ o → AnswersOnly (IsNamedAt inputs pairs place) (value_of_type c.column_type o)
named_in law inputs pairs place c e None u = (refl, none)
  where
    none : (y : CellValue) → IsNamedAt inputs pairs place y → ⊥
    none y h =
        let there = h.there in
        let same : c ≡ h.column = cc in
        let there_is : value_under pairs c.name ≡ Some h.literal = rw same (under pairs h.column.name h.literal h.under) in
        absurd (cc)
named_in law inputs pairs place c e (Some l) u =
    other (IsValueIn c.column_type l) (IsNamedAt inputs pairs place) (key_value c.column_type l)
    (λ x h. record { column = c; literal = l; there = e; under = found pairs c.name l u; fits = h }) back (law c.column_type.kind l)
  where
    back : (x : CellValue) → IsNamedAt inputs pairs place x → IsValueIn c.column_type l x
    back x h =
        let there = h.there in
        let same : c ≡ h.column = cc in
        let there_is : value_under pairs c.name ≡ Some h.literal = rw same (under pairs h.column.name h.literal h.under) in
        let alike : l ≡ h.literal = cc in
        rw (alike, same) h.fits

named_at : LiteralsHaveValues → (inputs : List InputOf) (pairs : List KeyPairOf) (place : ℕ) (o : Option InputOf) → slice_get inputs place ≡ o
    → AnswersOnly (IsNamedAt inputs pairs place) (named_value_in o pairs)
named_at law inputs pairs place None e = (refl, (λ y h. let there = h.there in absurd (cc)))
named_at law inputs pairs place (Some c) e = named_in law inputs pairs place c e (value_under pairs c.name) refl

one_more : (inputs : List InputOf) (pairs : List KeyPairOf) (place : ℕ) (places : List ℕ) (a : Result CellValue TypeFault) (b : Result (List CellValue) TypeFault)
    → AnswersOnly (IsNamedAt inputs pairs place) a → AnswersOnly (AreNamed inputs pairs places) b
    → AnswersOnly (AreNamed inputs pairs (place ∷ places)) (a >>= λ v. b >>= λ vs. Ok (v ∷ vs))
one_more inputs pairs place places (Err e) b p q = (p.0, none)
  where
    none : (y : List CellValue) → AreNamed inputs pairs (place ∷ places) y → ⊥
    none [] h = h
    none (v ∷ vs) h = p.1 v h.0
one_more inputs pairs place places (Ok x) (Err e) p q = (q.0, none)
  where
    none : (y : List CellValue) → AreNamed inputs pairs (place ∷ places) y → ⊥
    none [] h = h
    none (v ∷ vs) h = q.1 vs h.1
one_more inputs pairs place places (Ok x) (Ok xs) p q = ((p.0, q.0), only)
  where
    only : (y : List CellValue) → AreNamed inputs pairs (place ∷ places) y → y ≡ x ∷ xs
    only [] h = absurd h
    only (v ∷ vs) h = let first = p.1 v h.0 in let others = q.1 vs h.1 in cc

no_more : (y : List CellValue) (inputs : List InputOf) (pairs : List KeyPairOf) → AreNamed inputs pairs [] y → y ≡ []
no_more [] inputs pairs h = refl
no_more (v ∷ vs) inputs pairs h = absurd h

all_named : LiteralsHaveValues → (inputs : List InputOf) (pairs : List KeyPairOf) (places : List ℕ) → AnswersOnly (AreNamed inputs pairs places) (named_values inputs pairs places)
all_named law inputs pairs [] = (tt, (λ y h. no_more y inputs pairs h))
all_named law inputs pairs (place ∷ places) =
    one_more inputs pairs place places (named_value inputs pairs place) (named_values inputs pairs places)
    (named_at law inputs pairs place (slice_get inputs place) refl) (all_named law inputs pairs places)

as_many : LiteralsHaveValues → (inputs : List InputOf) (pairs : List KeyPairOf) (places : List ℕ) (c : Bool) → nat_eq (length pairs) (length places) ≡ c
    → AnswersOnly (λ values. (length pairs ≡ length places) × AreNamed inputs pairs places values) (if c then named_values inputs pairs places else Err BadKey)
as_many law inputs pairs places true e =
    let many = (unsigned_Decides (length pairs) (length places)).0 e in
    other (AreNamed inputs pairs places) (λ values. (length pairs ≡ length places) × AreNamed inputs pairs places values) (named_values inputs pairs places)
    (λ x h. (many, h)) (λ x h. h.1) (all_named law inputs pairs places)
as_many law inputs pairs places false e = (refl, (λ y h. let many = (unsigned_Decides (length pairs) (length places)).1 h.0 in absurd (cc)))

-- ---- keys

pub key_answers : LiteralsHaveValues → (inputs : List InputOf) (places : List ℕ) (key : KeyOf) → AnswersOnly (IsKeyOf inputs places key) (key_typing inputs places key)
key_answers law inputs [] (single literal) = (refl, (λ y h. h))
key_answers law inputs [] (named pairs) = (refl, (λ y h. h))
key_answers law inputs (place ∷ []) (single literal) =
    alone inputs place literal (value_in_place inputs place literal) (at law inputs place literal (slice_get inputs place) refl)
key_answers law inputs (place ∷ next ∷ places) (single literal) = (refl, (λ y h. h))
key_answers law inputs (place ∷ []) (named pairs) = as_many law inputs pairs (place ∷ []) (nat_eq (length pairs) (length (place ∷ []))) refl
key_answers law inputs (place ∷ next ∷ places) (named pairs) =
    as_many law inputs pairs (place ∷ next ∷ places) (nat_eq (length pairs) (length (place ∷ next ∷ places))) refl
