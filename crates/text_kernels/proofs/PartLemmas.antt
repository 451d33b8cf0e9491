-- A part stands in a text just where its bytes occur there, and so a mark of that says what `contains` says.
use Rattle.std.proofs.Common.{◌≡◌, ℕ, zero, suc, ◌+◌, ◌<◌, ◌≤◌, Bool, true, false, List, [], ◌∷◌, ◌++◌, Option, None, Some, length, get_or, take, drop, nat_eq, refl, subst, ap, ◌∙◌, arith, length-append, length-drop}
use Rattle.std.specs.Prelude.{◌↔◌, is_some, option_map, if◌then◌else◌}
use Rattle.std.specs.List.{starts_with}
use Rattle.std.proofs.Math.Seq.{take-append_seam}
use Rattle.std.proofs.lemmas.Bool.Decides.{Decides-eqb, same_from_decides}
use Rattle.std.proofs.lemmas.Slice.Eq.{starts_is}
use Rattle.memchr.specs.Find.{OccursAt}
use Rattle.memchr.proofs.lemmas.MatchLemmas.{OccursAt-split, OccursAt-from_part}
use Rattle.cell_types.specs.Value.{CellValue, null, text}
use Rattle.typed_trees.specs.declared.tree.TextTest.TheVariants.{Contains}
use Rattle.row_eval.specs.declared.truth.Truth.{Truth}
use Rattle.row_eval.specs.Logic.{truth_of}
use Rattle.row_eval.specs.Row.{text_in}
use Rattle.row_eval.specs.Text.{has_part, place_of_part}
use Rattle.text_columns.specs.Search.{AreMarksOfPart, CellHasPart, HasPart}
use Rattle.cell_types.proofs.ListLaws.{starts_with-append}
use Rattle.text_kernels.specs.declared.relation.TextRelation.TheVariants.{Test}
use Rattle.number_kernels.specs.Lanes.{truth_lane, HasTruths}
use Rattle.text_kernels.specs.Texts.{marked_truth, related}

occurs : (hay part rest : List ℕ) (k : ℕ) → k ≤ length hay → drop k hay ≡ part ++ rest → OccursAt hay part k
occurs hay part rest k within h =
    let size : length (drop k hay) ≡ length part + length rest = ap length h ∙ length-append part rest in
    let fits : k + length part ≤ length hay = omega (arith, length-drop k hay) in
    OccursAt-from_part hay part k fits (ap (take (length part)) h ∙ take-append_seam part rest)

occurs_first : (hay part : List ℕ) → starts_with nat_eq hay part ≡ true → OccursAt hay part 0
occurs_first hay part e = occurs hay part (drop (length part) hay) 0 (omega arith) ((starts_is Decides-eqb hay part _ refl).0 e)

occurs_later : (b : ℕ) (bs part : List ℕ) (k : ℕ) → OccursAt bs part k → OccursAt (b ∷ bs) part (suc k)
occurs_later b bs part k o = occurs (b ∷ bs) part _ (suc k) (omega (arith, o.fits)) (OccursAt-split bs part k o)

occurs_earlier : (b : ℕ) (bs part : List ℕ) (k : ℕ) → OccursAt (b ∷ bs) part (suc k) → OccursAt bs part k
occurs_earlier b bs part k o = occurs bs part _ k (omega (arith, o.fits)) (OccursAt-split (b ∷ bs) part (suc k) o)

stands : (hay part : List ℕ) → has_part hay part ≡ true → HasPart part hay
stands [] part e = by (starts_with nat_eq [] part) refl e
  where
    by : (s : Bool) → starts_with nat_eq [] part ≡ s → is_some {T = ℕ} (if s then Some 0 else None) ≡ true → HasPart part []
    by true f e = (0, occurs_first [] part f)
    by false f e = absurd (cc)
stands (b ∷ bs) part e = by (starts_with nat_eq (b ∷ bs) part) refl (place_of_part bs part) (stands bs part) e
  where
    by : (s : Bool) → starts_with nat_eq (b ∷ bs) part ≡ s → (r : Option ℕ) → (is_some r ≡ true → HasPart part bs) → is_some {T = ℕ} (if s then Some 0 else option_map suc r) ≡ true
        → HasPart part (b ∷ bs)
    by true f r h e = (0, occurs_first (b ∷ bs) part f)
    by false f (Some k) h e = let at : HasPart part bs = h refl in (suc at.0, occurs_later b bs part at.0 at.1)
    by false f None h e = absurd (cc)

stands_there : (hay part : List ℕ) (k : ℕ) → OccursAt hay part k → has_part hay part ≡ true
stands_there [] part k o =
    let first : k ≡ 0 = omega (arith, o.fits) in
    let there : OccursAt [] part 0 = subst (OccursAt [] part) first o in
    ap (λ s. is_some {T = ℕ} (if s then Some 0 else None)) (starts_with-append [] part _ (OccursAt-split [] part 0 there))
stands_there (b ∷ bs) part zero o =
    ap (λ s. is_some {T = ℕ} (if s then Some 0 else option_map suc (place_of_part bs part))) (starts_with-append (b ∷ bs) part _ (OccursAt-split (b ∷ bs) part 0 o))
stands_there (b ∷ bs) part (suc k) o = by (starts_with nat_eq (b ∷ bs) part) (place_of_part bs part) (stands_there bs part k (occurs_earlier b bs part k o))
  where
    by : (s : Bool) (r : Option ℕ) → is_some r ≡ true → is_some {T = ℕ} (if s then Some 0 else option_map suc r) ≡ true
    by true r h = refl
    by false (Some j) h = refl
    by false None h = h

-- a mark of the cells in which a part stands says what `contains` says of the text there, which is null where there is none
pub marked-is : (part : List ℕ) (v : CellValue) (mark : Bool) → (mark ≡ true) ↔ CellHasPart part v → marked_truth mark (text_in v) ≡ related (Test Contains) (text_in v) (Some part)
marked-is part (text t) mark h = ap truth_of (same_from_decides mark (has_part t part) h (λ e. stands t part e, λ at. stands_there t part at.0 at.1))
marked-is part v mark h = refl

-- and so it is on each row
pub search-gives : (part : List ℕ) (cells : List CellValue) (marks : List Bool) (ts : List Truth) → AreMarksOfPart part cells marks
    → ((row : ℕ) → row < length cells → truth_lane ts row ≡ marked_truth (get_or marks row false) (text_in (get_or cells row null))) → length ts ≡ length cells
    → HasTruths (length cells) (λ row. related (Test Contains) (text_in (get_or cells row null)) (Some part)) ts
search-gives part cells marks ts are is long = record {
  each = λ row h. is row h ∙ marked-is part (get_or cells row null) (get_or marks row false) (are.each row h);
  long = long;
}
