-- The field is between its places.
use Rattle.std.proofs.Common.{◌≡◌, ◌+◌, ◌*◌, Some, arith, sym, subst, ap, ◌∙◌, true}
use Rattle.std.specs.List.{slice_index, slice_range}
use Rattle.std.specs.Str.{is_utf8, IsCharBoundary}
use Rattle.csv_fields.specs.Between.{raw_between}
use Rattle.csv_fields.proofs.PartLemmas.{cell_place}
use Rattle.csv_fields.proofs.part.Part.field.Goals as goal

pub overflow_mul-n : goal.overflow_mul-n
overflow_mul-n c =
    let at = cell_place c.self.inside c.args.self.now c.args.row c.args.col c.self.view_is c.self.invariant c.requires.row c.requires.col in
    omega (arith, at.within)

pub overflow_add-n : goal.overflow_add-n
overflow_add-n c =
    let at = cell_place c.self.inside c.args.self.now c.args.row c.args.col c.self.view_is c.self.invariant c.requires.row c.requires.col in
    omega (arith, at.within)

pub place_at-start-requires : goal.place_at-start-requires
place_at-start-requires c =
    let at = cell_place c.self.inside c.args.self.now c.args.row c.args.col c.self.view_is c.self.invariant c.requires.row c.requires.col in
    omega (arith, at.within)

pub overflow_add-start : goal.overflow_add-start
overflow_add-start c =
    let at = cell_place c.self.inside c.args.self.now c.args.row c.args.col c.self.view_is c.self.invariant c.requires.row c.requires.col in
    omega (arith, c.place_at-start.ensures, at.place.order, at.place.size)

pub overflow_add-n-2 : goal.overflow_add-n-2
overflow_add-n-2 c =
    let at = cell_place c.self.inside c.args.self.now c.args.row c.args.col c.self.view_is c.self.invariant c.requires.row c.requires.col in
    omega (arith, at.within)

pub place_at-requires : goal.place_at-requires
place_at-requires c =
    let at = cell_place c.self.inside c.args.self.now c.args.row c.args.col c.self.view_is c.self.invariant c.requires.row c.requires.col in
    omega (arith, at.within)

pub piece-requires-clause-order : goal.piece-requires-clause-order
piece-requires-clause-order c =
    let at = cell_place c.self.inside c.args.self.now c.args.row c.args.col c.self.view_is c.self.invariant c.requires.row c.requires.col in
    omega (arith, c.place_at-start.ensures, c.place_at.ensures, at.place.order)

pub piece-requires-clause-start : goal.piece-requires-clause-start
piece-requires-clause-start c =
    let at = cell_place c.self.inside c.args.self.now c.args.row c.args.col c.self.view_is c.self.invariant c.requires.row c.requires.col in
    subst (λ k. IsCharBoundary c.self.inside.text.now (k + 1)) (sym c.place_at-start.ensures) at.place.start

pub piece-requires-clause-end : goal.piece-requires-clause-end
piece-requires-clause-end c =
    let at = cell_place c.self.inside c.args.self.now c.args.row c.args.col c.self.view_is c.self.invariant c.requires.row c.requires.col in
    subst (IsCharBoundary c.self.inside.text.now) (sym c.place_at.ensures) at.place.end

pub between-requires : goal.between-requires
between-requires c =
    let at = cell_place c.self.inside c.args.self.now c.args.row c.args.col c.self.view_is c.self.invariant c.requires.row c.requires.col in
    let n = c.args.row * c.self.inside.width + c.args.col in
    let piece : slice_range c.self.inside.text.now (slice_index c.self.inside.places.now n + 1) (slice_index c.self.inside.places.now (n + 1)) ≡ c.piece.result.now =
    ap (λ k. slice_range c.self.inside.text.now (k + 1) (slice_index c.self.inside.places.now (n + 1))) (sym c.place_at-start.ensures)
    ∙ ap (slice_range c.self.inside.text.now (c.place_at-start.result + 1)) (sym c.place_at.ensures) ∙ sym c.piece.ensures in
    subst (λ bytes. is_utf8 (raw_between bytes).bytes ≡ true) piece at.place.utf8

pub returns : goal.returns
returns c =
    let at = cell_place c.self.inside c.args.self.now c.args.row c.args.col c.self.view_is c.self.invariant c.requires.row c.requires.col in
    let n = c.args.row * c.self.inside.width + c.args.col in
    let piece : slice_range c.self.inside.text.now (slice_index c.self.inside.places.now n + 1) (slice_index c.self.inside.places.now (n + 1)) ≡ c.piece.result.now =
    ap (λ k. slice_range c.self.inside.text.now (k + 1) (slice_index c.self.inside.places.now (n + 1))) (sym c.place_at-start.ensures)
    ∙ ap (slice_range c.self.inside.text.now (c.place_at-start.result + 1)) (sym c.place_at.ensures) ∙ sym c.piece.ensures in
    at.cell ∙ ap (λ bytes. Some (raw_between bytes)) piece ∙ ap Some c.between.ensures
