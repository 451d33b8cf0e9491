-- The field's bytes stand in the file from there on.
use Rattle.std.proofs.Common.{◌≡◌, ◌+◌, ◌*◌, length, take, arith, sym, ap, ◌∙◌}
use Rattle.std.proofs.lemmas.Option.{same_Some}
use Rattle.std.specs.List.{slice_index, slice_range}
use Rattle.csv_fields.specs.Raw.{raw_view}
use Rattle.csv_fields.specs.Between.{raw_between}
use Rattle.csv_fields.proofs.PartLemmas.{cell_place}
use Rattle.csv_fields.proofs.RestLemmas.{quote_len, rest_at}
use Rattle.csv_fields.proofs.part.Part.field_and_rest.Goals as goal

pub overflow_mul-n : goal.overflow_mul-n
overflow_mul-n c =
    let at = cell_place c.self.inside c.args.self.now c.args.row c.args.col c.self.view_is c.self.invariant c.requires.row c.requires.col in
    omega (arith, at.within)

pub overflow_add-n : goal.overflow_add-n
overflow_add-n c =
    let at = cell_place c.self.inside c.args.self.now c.args.row c.args.col c.self.view_is c.self.invariant c.requires.row c.requires.col in
    omega (arith, at.within)

pub place_at-start-requires : goal.place_at-start-requires
place_at-start-requires c =
    let at = cell_place c.self.inside c.args.self.now c.args.row c.args.col c.self.view_is c.self.invariant c.requires.row c.requires.col in
    omega (arith, at.within)

pub overflow_add-start : goal.overflow_add-start
overflow_add-start c =
    let at = cell_place c.self.inside c.args.self.now c.args.row c.args.col c.self.view_is c.self.invariant c.requires.row c.requires.col in
    omega (arith, c.place_at-start.ensures, at.place.order, at.place.size)

pub bytes_past-requires : goal.bytes_past-requires
bytes_past-requires c =
    let at = cell_place c.self.inside c.args.self.now c.args.row c.args.col c.self.view_is c.self.invariant c.requires.row c.requires.col in
    omega (arith, c.place_at-start.ensures, at.place.order, at.place.size)

pub returns-then-raw-clause-rest : goal.returns-then-raw-clause-rest
returns-then-raw-clause-rest c =
    let at = cell_place c.self.inside c.args.self.now c.args.row c.args.col c.self.view_is c.self.invariant c.requires.row c.requires.col in
    let n = c.args.row * c.self.inside.width + c.args.col in
    let places = c.self.inside.places.now in
    let raw = raw_view c.field-raw.result in
    let is : raw ≡ raw_between (slice_range c.self.inside.text.now (slice_index places n + 1) (slice_index places (n + 1))) =
    same_Some raw _ (sym c.field-raw.ensures ∙ at.cell) in
    let past : c.place_at-start.result + 1 + 1 ≡ slice_index places n + 1 + quote_len raw.quoted = omega (arith, c.place_at-start.ensures, ap quote_len c.if-raw.true) in
    ap (take (length c.field-raw.result.bytes.now)) c.bytes_past.ensures
    ∙ rest_at c.self.inside.text.now (slice_index places n + 1) (slice_index places (n + 1)) (c.place_at-start.result + 1 + 1) raw is past

pub returns-clause-rest : goal.returns-clause-rest
returns-clause-rest c =
    let at = cell_place c.self.inside c.args.self.now c.args.row c.args.col c.self.view_is c.self.invariant c.requires.row c.requires.col in
    let n = c.args.row * c.self.inside.width + c.args.col in
    let places = c.self.inside.places.now in
    let raw = raw_view c.field-raw.result in
    let is : raw ≡ raw_between (slice_range c.self.inside.text.now (slice_index places n + 1) (slice_index places (n + 1))) =
    same_Some raw _ (sym c.field-raw.ensures ∙ at.cell) in
    let past : c.place_at-start.result + 1 ≡ slice_index places n + 1 + quote_len raw.quoted = omega (arith, c.place_at-start.ensures, ap quote_len c.if-raw.false) in
    ap (take (length c.field-raw.result.bytes.now)) c.bytes_from.ensures
    ∙ rest_at c.self.inside.text.now (slice_index places n + 1) (slice_index places (n + 1)) (c.place_at-start.result + 1) raw is past
