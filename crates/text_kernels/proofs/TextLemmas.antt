-- Texts that are the same, and what is said of texts under other names.
use Rattle.std.proofs.Common.{◌≡◌, ℕ, Option, Some, List, refl, ap, ◌∙◌}
use Rattle.std.specs.Cmp.Lexicographic.{slice_cmp}
use Rattle.std.specs.Ordering.{is_eq, nat_cmp}
use Rattle.std.specs.Str.{bytes_eq}
use Rattle.std.specs.declared.cmp.Ordering.{Ordering}
use Rattle.std.specs.declared.cmp.Ordering.TheVariants.{Less, Equal, Greater}
use Rattle.std.proofs.lemmas.Map.Text.{is_eq-slice_cmp}
use Rattle.row_eval.specs.declared.truth.Truth.{Truth}
use Rattle.row_eval.specs.Comparison.{is_equal}
use Rattle.text_kernels.specs.declared.relation.TextRelation.{TextRelation}
use Rattle.text_kernels.specs.Texts.{related}

-- texts are the same where none comes before the other
order_is_equal : (o : Ordering) → is_equal (Some o) ≡ is_eq o
order_is_equal Less = refl
order_is_equal Equal = refl
order_is_equal Greater = refl

pub same_text : (s t : List ℕ) → is_equal (Some (slice_cmp nat_cmp s t)) ≡ bytes_eq s t
same_text s t = order_is_equal (slice_cmp nat_cmp s t) ∙ is_eq-slice_cmp s t

-- a truth of two texts that are known under other names
pub of-lanes : (r : TextRelation) {x y a b : Option (List ℕ)} (t : Truth) → t ≡ related r x y → x ≡ a → y ≡ b → t ≡ related r a b
of-lanes r {x} {y} {a} {b} t e f g = e ∙ ap (λ z. related r z y) f ∙ ap (related r a) g
