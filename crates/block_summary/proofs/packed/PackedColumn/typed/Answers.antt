use Rattle.std.proofs.Common.{rules, ap, ap₂, sym, ◌∙◌, None, slice_index_or, w64}
use Rattle.std.specs.Prelude.{FitsSigned}
use Rattle.std.proofs.Math.ListN.{get_or-map as get_or-map_default}
use Rattle.std.proofs.lemmas.Int.{to_z-of_z}
use Rattle.cell_types.specs.Kind.{cell_of, typed_cell}
use Rattle.cell_types.specs.Value.{null}
use Rattle.block_summary.proofs.packed.PackedColumn.typed.Goals as goal

pub returns-in-Some : goal.returns-in-Some
returns-in-Some c =
    let kind = c.self.inside.kind in
    let fits : FitsSigned w64 c.in-Some.number = search rules in
    ap₂ typed_cell c.new.ensures.kind (simp to_z-of_z at c.new.ensures.number) ∙ ap (cell_of kind) (sym c.in-Some.is ∙ c.get.ensures)
    ∙ sym (get_or-map_default (cell_of kind) c.self.inside.numbers c.args.row None) ∙ ap (λ cs. slice_index_or cs c.args.row null) c.self.view_is
