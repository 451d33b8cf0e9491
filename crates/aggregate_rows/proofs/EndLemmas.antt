-- The least and the greatest value of a column by the ends that it is kept with.
use Rattle.std.proofs.Common.{◌≡◌, ◌<◌, ◌≤◌, ℕ, false, Option, Some, None, List, [], get_or, length, inl, inr, refl, sym, ap, ◌∙◌, subst}
use Rattle.std.specs.Prelude.{◌≢◌, unwrap_or, IsTrue}
use Rattle.std.specs.declared.cmp.Ordering.{Ordering}
use Rattle.std.specs.declared.cmp.Ordering.TheVariants.{Equal}
use Rattle.std.specs.Ordering.{is_le, is_lt}
use Rattle.std.proofs.lemmas.Bool.{cases_lt, false≢true}
use Rattle.std.proofs.lemmas.List.{get_or-map, get_or_default, get_or_past, length-map}
use Rattle.block_summary.specs.Ranges.{column_of, is_null, AreAllNull, HasGreatest, HasLeast, IsGreatest, IsLeast}
use Rattle.cell_types.specs.Value.{CellValue, null, value_cmp}
use Rattle.odata_query.specs.declared.aggregate.Aggregate.TheVariants.{Max, Min}
use Rattle.query_meaning.specs.Apply.{computed_value}
use Rattle.query_meaning.specs.Laws.{ExtremesAreValues, StandsInColumn}

is_some : (v : CellValue) → v ≢ null → is_null v ≡ false
is_some null other = absurd (other refl)
is_some v other = refl

is_other : (v : CellValue) → is_null v ≡ false → v ≢ null
is_other v some is = false≢true (sym some ∙ ap is_null is)

-- ---- cells of a column

module _ (place : ℕ) (rows : List (List CellValue)) where
  abbrev none : List CellValue
  none = []

  cell_at : (i : ℕ) → i < length rows → get_or (column_of rows place) i null ≡ get_or (get_or rows i none) place null
  cell_at i inside = get_or-map (λ row. get_or row place null) rows i none null inside

  stands : (v : CellValue) (i : ℕ) → v ≢ null → get_or (column_of rows place) i null ≡ v → StandsInColumn place rows v
  stands v i other is = elim (cases_lt i (length rows)) [
    | inl inside ↦ (
      other,
      (i, get_or rows i none, inside, get_or_default rows i (get_or rows i none) none inside, sym (cell_at i inside) ∙ is),
    )
    | inr beyond ↦ absurd (other (sym is ∙ get_or_past (column_of rows place) i null (subst (λ n. n ≤ i) (sym (length-map rows (λ row. get_or row place null))) beyond)))
  ]

  there : (v : CellValue) → StandsInColumn place rows v → (i : ℕ) × (get_or (column_of rows place) i null ≡ v)
  there v (other, (i, row, inside, is, e)) =
      (i, cell_at i inside ∙ ap (λ r. get_or r place null) (get_or_default rows i none row inside ∙ is) ∙ e)

  all_null : ExtremesAreValues → AreAllNull (column_of rows place) → (null ≡ computed_value rows (Min place)) × (null ≡ computed_value rows (Max place))
  all_null law nulls =
      let it = law.none place rows (λ i d inside. ap (λ r. get_or r place null) (get_or_default rows i d none inside) ∙ sym (cell_at i inside) ∙ nulls i) in
      (sym it.0, sym it.1)

  module _ (law : ExtremesAreValues) (same : (a b : CellValue) → value_cmp a b ≡ Equal → a ≡ b) where
    not_apart : (a b : CellValue) (o : Ordering) → value_cmp a b ≡ o → IsTrue (is_le o) → is_lt o ≡ false → a ≡ b
    not_apart a b Equal e most least = same a b e
    not_apart a b o e most least = absurd (cc (most, least))

    least_is : (v : CellValue) → IsLeast v (column_of rows place) → v ≡ computed_value rows (Min place)
    least_is v is =
        let m = computed_value rows (Min place) in
        let it = law.least place rows v (stands v is.among.0 (is_other v is.value) is.among.1) in
        let at = there m it.0 in
        let below = is.below at.0 (ap is_null at.1 ∙ is_some m it.0.0) in
        not_apart v m (value_cmp v m) refl (subst (λ w. IsTrue (is_le (value_cmp v w))) at.1 below) it.1

    greatest_is : (v : CellValue) → IsGreatest v (column_of rows place) → v ≡ computed_value rows (Max place)
    greatest_is v is =
        let m = computed_value rows (Max place) in
        let it = law.greatest place rows v (stands v is.among.0 (is_other v is.value) is.among.1) in
        let at = there m it.0 in
        let above = is.above at.0 (ap is_null at.1 ∙ is_some m it.0.0) in
        sym (not_apart m v (value_cmp m v) refl (subst (λ w. IsTrue (is_le (value_cmp w v))) at.1 above) it.1)

    -- the end that a column is kept with, if it has one
    pub least_end : (o : Option CellValue) → HasLeast o (column_of rows place) → unwrap_or o null ≡ computed_value rows (Min place)
    least_end None nulls = (all_null law nulls).0
    least_end (Some v) is = least_is v is

    pub greatest_end : (o : Option CellValue) → HasGreatest o (column_of rows place) → unwrap_or o null ≡ computed_value rows (Max place)
    greatest_end None nulls = (all_null law nulls).1
    greatest_end (Some v) is = greatest_is v is
