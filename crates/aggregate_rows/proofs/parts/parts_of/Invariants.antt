use Rattle.std.proofs.Common.{◌≡◌, length, take}
use Rattle.aggregate_rows.specs.Parts.{ArePartsFrom}
use Rattle.aggregate_rows.proofs.parts.parts_of.Given as goal

-- the first numbers, by their groups
abbrev pub invariant-loop-i : goal.invariant-loop-i
invariant-loop-i l = record {
  long : length l.parts.items ≡ l.len;
  parts : ArePartsFrom 0 (take l.i l.numbers) (take l.i l.groups) l.parts.items;
}
