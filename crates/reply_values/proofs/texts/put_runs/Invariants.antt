use Rattle.std.proofs.Common.{◌≡◌, ◌+◌, ◌++◌, length, take}
use Rattle.std.specs.List.{flat_map}
use Rattle.reply_values.specs.Printed.{printed_byte}
use Rattle.reply_values.specs.contracts.texts.put_runs.{JSON-type}
use denote.Param.{number}
use Rattle.reply_values.proofs.texts.put_runs.Given as goal

abbrev pub invariant-loop-byte : goal.invariant-loop-byte
invariant-loop-byte g l =
    (length l.out ≡ length l.initial.out)
    × ((take l.end l.out ++ flat_map (printed_byte (JSON-type (number g.row.JSON))) l.rest ≡ take l.at l.initial.out ++ flat_map (printed_byte (JSON-type (number g.row.JSON))) l.text)
    × (l.end + length (flat_map (printed_byte (JSON-type (number g.row.JSON))) l.rest) ≡ l.at + length (flat_map (printed_byte (JSON-type (number g.row.JSON))) l.text)))

abbrev pub decreases-loop-byte : goal.decreases-loop-byte
decreases-loop-byte g l = length l.rest
