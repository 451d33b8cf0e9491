use Rattle.std.proofs.Common.{◌≡◌, ◌++◌, codes, length, string_bytes, take}
use Rattle.std.specs.List.{flat_map}
use Rattle.reply_values.specs.Printed.{json_text}
use Rattle.reply_values.specs.Size.{told}
use Rattle.reply_text.proofs.row_sizes.labels_size.Given as goal

abbrev pub invariant-loop-name : goal.invariant-loop-name
invariant-loop-name g l = l.size ≡ told (length (flat_map (λ name. json_text (string_bytes name) ++ codes ":") (take l.name-index l.names)))
