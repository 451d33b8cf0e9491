use Rattle.std.proofs.Common.{arith}
use Rattle.std.proofs.lemmas.List.{take_all}
use Rattle.std.proofs.lemmas.Slice.Zip.{AllZip-long}
use Rattle.row_columns.proofs.PieceLemmas.{shared_alone, shared_more, shared_row, AreShared, IsShared}
use Rattle.row_columns.proofs.piece.Piece.of_places.Goals as goal
use Rattle.row_columns.proofs.piece.Piece.of_places.Goals.{After-loop-place}

pub loop-place-preserved : goal.loop-place-preserved
loop-place-preserved c =
    shared_more c.args.block.now c.args.places.now c.loop-place.place-index c.loop-place.columns.items c.push.new.self.items c.in_ok-shared.field-0
    c.loop-place-test.true c.in_ok-shared.ensures c.in_ok-push.ensures.items c.loop-place.invariant

whole : (c : After-loop-place) → AreShared c.args.block.now c.args.places.now c.loop-place.columns.items
whole c = rw (take_all c.loop-place.place-index c.args.places.now (omega (arith, c.loop-place-test.false))) at c.loop-place.invariant

pub invariant_of-result : goal.invariant_of-result
invariant_of-result c = shared_alone c.args.block.now c.args.places.now c.loop-place.columns.items c.values_fit.ensures (whole (goal.at.invariant_of-result c).After-loop-place)

pub returns-clause-wide : goal.returns-clause-wide
returns-clause-wide c = AllZip-long (IsShared c.args.block.now) c.args.places.now c.loop-place.columns.items (whole (goal.at.returns-clause-wide c).After-loop-place)

pub returns-clause-rows : goal.returns-clause-rows
returns-clause-rows c = λ row within. shared_row c.args.block.now c.args.places.now c.loop-place.columns.items row (whole (goal.at.returns-clause-rows c).After-loop-place)
