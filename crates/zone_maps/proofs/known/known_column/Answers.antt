use Rattle.std.proofs.Common.{false, refl, true}
use Rattle.cell_types.specs.Value.{boolean, null}
use Rattle.row_eval.specs.declared.truth.Truth.TheVariants.{False, Null, True}
use Rattle.zone_maps.proofs.KnownLemmas.{column-known}
use Rattle.zone_maps.proofs.known.known_column.Goals as goal

pub returns-then-is_each : goal.returns-then-is_each
returns-then-is_each c = column-known c.args.place (boolean true) c.args.summary.now True refl (c.if-is_each.ensures refl)

pub returns-then-is_each-2 : goal.returns-then-is_each-2
returns-then-is_each-2 c = column-known c.args.place (boolean false) c.args.summary.now False refl (c.if-is_each-2.ensures refl)

pub returns-then-is_each-3 : goal.returns-then-is_each-3
returns-then-is_each-3 c = column-known c.args.place null c.args.summary.now Null refl (c.if-is_each-3.ensures refl)
