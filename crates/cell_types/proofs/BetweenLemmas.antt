-- Between two values of a kind are values of that kind alone.
use Rattle.std.proofs.Common.{◌≡◌, true, false, refl}
use Rattle.std.specs.Prelude.{◌≢◌}
use Rattle.std.specs.declared.cmp.Ordering.TheVariants.{Greater}
use Rattle.std.proofs.lemmas.Bool.{false≢true, true≢false}
use Rattle.cell_types.specs.Value.{CellValue, null, integer, text, boolean, date, decimal, is_null, value_cmp}
use Rattle.cell_types.specs.Kind.{is_of_kind}
use Rattle.cell_types.specs.declared.kind.ColumnKind.{ColumnKind}
use Rattle.cell_types.specs.declared.kind.ColumnKind.TheVariants.{Text, Number}
use Rattle.cell_types.specs.declared.kind.NumberKind.TheVariants.{Integer, Decimal, Boolean, Date}

pub together : (kind : ColumnKind) (a b value : CellValue) → is_of_kind kind a ≡ true → is_of_kind kind b ≡ true → is_null a ≡ false
    → value_cmp a value ≢ Greater → value_cmp value b ≢ Greater → is_of_kind kind value ≡ true
unfolding value_cmp
together kind null b value e f n h g = absurd (true≢false n)
together (Number Integer) (integer x) b null e f n h g = absurd (h refl)
together (Number Integer) (integer x) b (integer z) e f n h g = refl
together (Number Integer) (integer x) null value e f n h g = absurd (g refl)
together (Number Integer) (integer x) (integer w) value e f n h g = absurd (g refl)
together (Number Integer) (integer x) b value e f n h g = absurd (false≢true f)
together Text (text x) b null e f n h g = absurd (h refl)
together Text (text x) b (integer z) e f n h g = absurd (h refl)
together Text (text x) b (text z) e f n h g = refl
together Text (text x) null value e f n h g = absurd (g refl)
together Text (text x) (text w) value e f n h g = absurd (g refl)
together Text (text x) b value e f n h g = absurd (false≢true f)
together (Number Boolean) (boolean x) b null e f n h g = absurd (h refl)
together (Number Boolean) (boolean x) b (integer z) e f n h g = absurd (h refl)
together (Number Boolean) (boolean x) b (text z) e f n h g = absurd (h refl)
together (Number Boolean) (boolean x) b (boolean z) e f n h g = refl
together (Number Boolean) (boolean x) null value e f n h g = absurd (g refl)
together (Number Boolean) (boolean x) (boolean w) value e f n h g = absurd (g refl)
together (Number Boolean) (boolean x) b value e f n h g = absurd (false≢true f)
together (Number Date) (date y m d) b null e f n h g = absurd (h refl)
together (Number Date) (date y m d) b (integer z) e f n h g = absurd (h refl)
together (Number Date) (date y m d) b (text z) e f n h g = absurd (h refl)
together (Number Date) (date y m d) b (boolean z) e f n h g = absurd (h refl)
together (Number Date) (date y m d) b (date z o p) e f n h g = refl
together (Number Date) (date y m d) null value e f n h g = absurd (g refl)
together (Number Date) (date y m d) (date w q r) value e f n h g = absurd (g refl)
together (Number Date) (date y m d) b value e f n h g = absurd (false≢true f)
together (Number Decimal) (decimal x) b null e f n h g = absurd (h refl)
together (Number Decimal) (decimal x) b (integer z) e f n h g = absurd (h refl)
together (Number Decimal) (decimal x) b (text z) e f n h g = absurd (h refl)
together (Number Decimal) (decimal x) b (boolean z) e f n h g = absurd (h refl)
together (Number Decimal) (decimal x) b (date z o p) e f n h g = absurd (h refl)
together (Number Decimal) (decimal x) b (decimal z) e f n h g = refl
together kind a b value e f n h g = absurd (false≢true e)
