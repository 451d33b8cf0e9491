-- The names of tables.
use Rattle.std.proofs.Common.{◌≡◌, List, [], ◌∷◌, ◌++◌, Bool, true, false, map, refl, sym, ap, ◌∙◌}
use Rattle.std.proofs.lemmas.List.Elements.{All-head, All-tail}
use Rattle.std.proofs.lemmas.Slice.Eq.{bytes_eq-Decides}
use Rattle.std.specs.Cmp.Lexicographic.{same_text}
use Rattle.std.specs.List.{All, AllByRecursion, IsDistinct}
use Rattle.std.specs.Str.{bytes_eq}
use Rattle.csvw_meta.specs.Limits.{LimitsOf}
use Rattle.csvw_meta.specs.Forms.{url_end}
use Rattle.csvw_meta.specs.Schema.{SchemaOf}
use Rattle.csvw_meta.specs.Laws.{IsAccepted}

apart_at : (limits : LimitsOf) (a b : SchemaOf) (same : Bool) → bytes_eq a.name b.name ≡ same → IsAccepted limits a → IsAccepted limits b
    → bytes_eq a.url b.url ≡ false → same ≡ false
apart_at limits a b false e accepted also apart = refl
apart_at limits a b true e accepted also apart =
    let names : a.name ≡ b.name = same_text a.name b.name (sym e) in
    let urls : a.url ≡ b.url = accepted.name ∙ (ap (λ name. name ++ url_end) names ∙ sym also.name) in
    let one = (bytes_eq-Decides a.url b.url).1 urls in
    absurd (cc)

name-apart : (limits : LimitsOf) (schema : SchemaOf) (schemas : List SchemaOf) → IsAccepted limits schema → All (IsAccepted limits) schemas
    → AllByRecursion (λ url. bytes_eq schema.url url ≡ false) (map (λ (s : SchemaOf). s.url) schemas)
    → AllByRecursion (λ name. bytes_eq schema.name name ≡ false) (map (λ (s : SchemaOf). s.name) schemas)
name-apart limits schema [] accepted all apart = tt
name-apart limits schema (other ∷ others) accepted all apart = (
  apart_at limits schema other (bytes_eq schema.name other.name) refl accepted (All-head (IsAccepted limits) other others all) apart.0,
  name-apart limits schema others accepted (All-tail (IsAccepted limits) other others all) apart.1,
)

-- tables of different urls have different names
pub names-distinct : (limits : LimitsOf) (schemas : List SchemaOf) → All (IsAccepted limits) schemas
    → IsDistinct bytes_eq (map (λ (s : SchemaOf). s.url) schemas) → IsDistinct bytes_eq (map (λ (s : SchemaOf). s.name) schemas)
unfolding IsDistinct
names-distinct limits [] all apart = tt
names-distinct limits (schema ∷ schemas) all apart =
    let rest = All-tail (IsAccepted limits) schema schemas all in
    (name-apart limits schema schemas (All-head (IsAccepted limits) schema schemas all) rest apart.0, names-distinct limits schemas rest apart.1)
