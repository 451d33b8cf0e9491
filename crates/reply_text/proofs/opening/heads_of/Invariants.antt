use Rattle.std.proofs.Common.{map, string_bytes, take}
use Rattle.reply_text.specs.Pieces.{AreHeads}
use Rattle.reply_text.specs.contracts.opening.heads_of.{JSON-type}
use denote.Param.{number}
use Rattle.reply_text.proofs.opening.heads_of.Given as goal

abbrev pub invariant-loop-place : goal.invariant-loop-place
invariant-loop-place g l = AreHeads (JSON-type (number g.row.JSON)) (map string_bytes (take l.place l.names)) l.heads.items
