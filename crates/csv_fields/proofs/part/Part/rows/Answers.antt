use Rattle.std.proofs.Common.{◌*◌, length, sym, ap, ◌∙◌}
use Rattle.csv_fields.specs.Part.{fields_between, PartOf}
use Rattle.csv_fields.proofs.PartLemmas.{length-rows_cut}
use Rattle.csv_fields.proofs.part.Part.rows.Goals as goal

pub returns : goal.returns
returns c =
    sym (length-rows_cut c.self.inside.rows c.self.inside.width (fields_between c.self.inside.text.now c.self.inside.places.now (c.self.inside.rows * c.self.inside.width)))
    ∙ ap (λ (part : PartOf). length part.rows) c.self.view_is
