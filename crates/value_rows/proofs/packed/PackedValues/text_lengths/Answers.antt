use Rattle.std.proofs.Common.{◌<◌, ◌+◌, ◌*◌, ℕ, List, get_or, length, map, string_bytes, subst, sym, ap, arith}
use Rattle.std.specs.Prelude.{slice_range}
use Rattle.std.proofs.lemmas.List.{length-map}
use Rattle.cell_types.specs.Value.{CellValue, null}
use Rattle.value_rows.specs.declared.slots.Slot.{Slot}
use Rattle.value_rows.specs.Packed.{slot_view, AreSpanned, AreTextsWithin}
use Rattle.value_rows.proofs.TextLemmas.{span-fits, texts-within}
use Rattle.value_rows.proofs.packed.PackedValues.text_lengths.Goals as goal

pub slice_bounds-result-end : goal.slice_bounds-result-end
slice_bounds-result-end c =
    let texts = string_bytes c.self.inside.texts in
    let others = c.self.inside.others.items in
    let slots = c.self.inside.slots.items in
    let inside : (i : ℕ) → i < length c.text_lengths.new.lengths → c.args.from + i * c.args.step < length slots =
    λ i less. omega (arith, c.requires.within i (omega (arith, less, c.in_ok-low.ensures.long)), ap length c.self.view_is, length-map slots (slot_view texts others)) in
    let spanned = subst (λ (all : List Slot). AreSpanned all c.args.from c.args.step c.text_lengths.new.lengths c.in_ok-low.low c.in_ok-low.high) c.as_slice.ensures.value c.in_ok-low.ensures.spanned in
    omega (arith, span-fits texts others slots c.self.invariant c.args.from c.args.step c.in_ok-low.low c.in_ok-low.high c.text_lengths.new.lengths inside spanned, ap length c.as_bytes.ensures.value)

pub returns-clause-texts : goal.returns-clause-texts
returns-clause-texts c =
    let texts = string_bytes c.self.inside.texts in
    let others = c.self.inside.others.items in
    let slots = c.self.inside.slots.items in
    let inside : (i : ℕ) → i < length c.text_lengths.new.lengths → c.args.from + i * c.args.step < length slots =
    λ i less. omega (arith, c.requires.within i (omega (arith, less, c.in_ok-low.ensures.long)), ap length c.self.view_is, length-map slots (slot_view texts others)) in
    let spanned = subst (λ (all : List Slot). AreSpanned all c.args.from c.args.step c.text_lengths.new.lengths c.in_ok-low.low c.in_ok-low.high) c.as_slice.ensures.value c.in_ok-low.ensures.spanned in
    let within = texts-within texts others slots c.self.invariant c.args.from c.args.step c.in_ok-low.low c.in_ok-low.high c.text_lengths.new.lengths inside spanned in
    subst (λ (vs : List CellValue). AreTextsWithin (λ i. get_or vs (c.args.from + i * c.args.step) null) c.text_lengths.new.lengths (slice_range c.as_bytes.result.now c.in_ok-low.low c.in_ok-low.high)) c.self.view_is
    (subst (λ (bs : List ℕ). AreTextsWithin (λ i. get_or (map (slot_view texts others) slots) (c.args.from + i * c.args.step) null) c.text_lengths.new.lengths (slice_range bs c.in_ok-low.low c.in_ok-low.high)) (sym c.as_bytes.ensures.value) within)
