use Rattle.std.proofs.Common.{◌≡◌, ◌++◌, take}
use Rattle.std.specs.List.{concat}
use Rattle.reply_text.specs.Pieces.{row_pieces}
use Rattle.reply_text.specs.contracts.push_rows.push_rows.{JSON-type}
use denote.Param.{number}
use Rattle.reply_text.proofs.push_rows.push_rows.Given as goal

abbrev pub invariant-loop-row : goal.invariant-loop-row
invariant-loop-row g l = l.out.items ≡ l.initial.out.items ++ concat (take l.row (row_pieces (JSON-type (number g.row.JSON)) l.rows.names l.rows.rows))
