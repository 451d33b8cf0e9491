use Rattle.std.proofs.Common.{map, sym, ap, ◌∙◌}
use Rattle.row_columns.specs.Kinds.{of_kind}
use Rattle.cell_types.specs.Kind.{kind_of}
use Rattle.cell_types.specs.Datatype.{datatype_view}
use Rattle.cell_types.specs.declared.column.Column.{Column}
use Rattle.row_columns.proofs.StoreLemmas.{kind_at_more}
use Rattle.row_columns.proofs.store.kinds_at_places.Goals as goal

pub loop-place-preserved : goal.loop-place-preserved
loop-place-preserved c =
    let i = c.loop-place.place-index in
    ap (map of_kind) c.in_ok-push.ensures.items
    ∙ kind_at_more c.args.columns.now c.args.places.now i c.index-columns-place.result c.loop-place.made.items c.kind.result c.loop-place-test.true
    (c.requires i 0 c.loop-place-test.true) c.index-columns-place.is (c.kind.ensures ∙ ap (λ (column : Column). kind_of (datatype_view column.datatype)) (sym c.index-columns-place.is)) c.loop-place.invariant
