-- The next field is between where it begins and the next place.
use Rattle.std.proofs.Common.{◌+◌, ◌∷◌, subst, map, sym, ap, ◌∙◌}
use Rattle.csv_fields.specs.Between.{cut, raw_between}
use Rattle.csv_index.specs.Fields.{AreLeft}
use Rattle.csv_index.proofs.Boundaries.{left_behind}
use Rattle.csv_index.proofs.fields.Fields.next_field.Goals as goal

pub returns : goal.returns
returns c =
    sym c.self.view_is
    ∙ ap (λ ends. map raw_between (cut c.self.inside.start ends c.self.inside.bytes.now)) c.in_ok-end.ensures
    ∙ ap (λ piece. raw_between piece ∷ map raw_between (cut (c.in_ok-end.end + 1) c.next.new.self c.self.inside.bytes.now)) (sym c.range-field.ensures.value)
    ∙ ap (λ raw. raw ∷ map raw_between (cut (c.in_ok-end.end + 1) c.next.new.self c.self.inside.bytes.now)) c.between.ensures

pub invariant_of-self-2 : goal.invariant_of-self-2
invariant_of-self-2 c =
    left_behind c.self.inside.start c.in_ok-end.end c.next.new.self c.self.inside.bytes.now
    (subst (λ ends. AreLeft c.self.inside.start ends c.self.inside.bytes.now) c.in_ok-end.ensures c.self.invariant)
