use Rattle.std.proofs.Common.{◌*◌, subst, sym, ap, ◌∙◌}
use Rattle.csv_fields.specs.Part.{part_between, StandBetween}
use Rattle.csv_index.proofs.PartPlaces.{fields_stand, part_is}
use Rattle.csv_index.proofs.parts.Parts.part.Goals as goal

pub new-requires : goal.new-requires
new-requires c =
    let p = c.self.inside in
    subst (λ places. StandBetween p.text.now places (p.rows * p.width)) (sym c.as_slice.ensures.value) (fields_stand p c.self.invariant)

pub returns : goal.returns
returns c =
    let p = c.self.inside in
    c.new.ensures ∙ ap (part_between p.text.now p.width p.rows) c.as_slice.ensures.value ∙ part_is p c.args.self.now c.self.view_is c.self.invariant
