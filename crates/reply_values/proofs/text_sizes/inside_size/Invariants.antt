use Rattle.std.proofs.Common.{◌≡◌, ◌+◌, length}
use Rattle.std.specs.List.{flat_map}
use Rattle.reply_values.specs.Printed.{printed_byte}
use Rattle.reply_values.specs.Size.{told}
use Rattle.reply_values.specs.contracts.text_sizes.inside_size.{JSON-type}
use denote.Param.{number}
use Rattle.reply_values.proofs.text_sizes.inside_size.Given as goal

abbrev pub invariant-loop-byte : goal.invariant-loop-byte
invariant-loop-byte g l = told (l.size + length (flat_map (printed_byte (JSON-type (number g.row.JSON))) l.rest)) ≡ told (length (flat_map (printed_byte (JSON-type (number g.row.JSON))) l.text))

abbrev pub decreases-loop-byte : goal.decreases-loop-byte
decreases-loop-byte g l = length l.rest
