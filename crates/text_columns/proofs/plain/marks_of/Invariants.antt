use Rattle.std.proofs.Common.{◌≡◌, length}
use Rattle.text_columns.specs.PlainParts.{ArePlainParts}
use Rattle.text_columns.specs.contracts.plain.marks_of.{JSON-type}
use denote.Param.{number}
use Rattle.text_columns.proofs.plain.marks_of.Given as goal

abbrev pub invariant-loop-part : goal.invariant-loop-part
invariant-loop-part g l = record {
  long : length l.marks ≡ 64;
  marked : ArePlainParts (JSON-type (number g.row.JSON)) l.texts l.marks;
}
