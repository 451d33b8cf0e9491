use Rattle.std.proofs.Common.{◌≡◌, ◌∙◌, List, [], ℕ, ◌<◌, ◌||◌, Bool, arith, false, get_or, ap, sym}
use Rattle.std.specs.Str.{bytes_eq}
use Rattle.std.proofs.lemmas.List.Folds.{list_any_more}
use Rattle.column_forms.specs.CellsSeen.{null_texts}
use Rattle.column_forms.proofs.seen.null_place.Goals as goal

pub loop-place-preserved : goal.loop-place-preserved
loop-place-preserved c =
    let place = c.loop-place.place in
    let cell = c.args.cell.now in
    let below : place < 9 = omega arith in
    let text : c.as_bytes.result.now ≡ get_or null_texts place [] = c.as_bytes.ensures.value ∙ c.null_text.ensures in
    let other : bytes_eq (get_or null_texts place []) cell ≡ false = ap (λ (text : List ℕ). bytes_eq text cell) (sym text) ∙ (sym c.eq.ensures ∙ c.if-eq.false) in
    list_any_more (λ text. bytes_eq text cell) null_texts place [] below
    ∙ (ap (λ (found : Bool). found || bytes_eq (get_or null_texts place []) cell) c.loop-place.invariant ∙ other)
