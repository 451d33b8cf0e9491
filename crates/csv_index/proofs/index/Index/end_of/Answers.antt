-- The place is a block's, or the end of the last record.
use Rattle.std.proofs.Common.{◌<◌, ◌≤◌, length, Some, arith, ap, ◌∙◌}
use Rattle.csv_index.specs.Blocks.{block_places}
use Rattle.csv_index.specs.Structure.{ends_of}
use Rattle.csv_index.proofs.FindLemmas.{found_end, last_place, no_last}
use Rattle.csv_index.proofs.index.Index.end_of.Goals as goal

pub unreachable-requires : goal.unreachable-requires
unreachable-requires c =
    let past : length (block_places 0 c.self.inside.blocks.masks.items) ≤ c.args.n = rw c.in-None-None.is-0 at c.find.ensures in
    let within : c.args.n < length (ends_of c.self.inside.start c.self.inside.blocks.masks.items c.self.inside.last) = rw (← c.self.view_is) at c.requires.n in
    no_last c.self.inside.start c.args.n c.self.inside.blocks.masks.items past (rw c.in-None-None.is-1 at within)

pub returns-in-Some-default : goal.returns-in-Some-default
returns-in-Some-default c =
    rw (← c.self.view_is)
    (found_end c.self.inside.start c.args.n c.in-Some-default.number c.in-Some-default.bit c.self.inside.blocks.masks.items c.self.inside.last c.in-Some-default.ensures
    ∙ ap Some (omega arith))

pub returns-in-None-Some : goal.returns-in-None-Some
returns-in-None-Some c =
    let past : length (block_places 0 c.self.inside.blocks.masks.items) ≤ c.args.n = rw c.in-None-Some.is-0 at c.find.ensures in
    let within : c.args.n < length (ends_of c.self.inside.start c.self.inside.blocks.masks.items c.self.inside.last) = rw (← c.self.view_is) at c.requires.n in
    rw (← c.self.view_is) ((last_place c.self.inside.start c.args.n c.self.inside.blocks.masks.items c.self.inside.last past within).0 ∙ c.in-None-Some.is-1)
