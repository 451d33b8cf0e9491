use Rattle.std.proofs.Common.{◌++◌, [], get_or, take}
use Rattle.std.specs.List.{join_with_byte}
use Rattle.reply_values.specs.Size.{IsWrittenAt}
use Rattle.reply_text.proofs.RowLemmas.{before_values, members}
use Rattle.reply_text.specs.contracts.put_rows.put_row.{JSON-type}
use denote.Param.{number}
use Rattle.reply_text.proofs.put_rows.put_row.Given as goal

abbrev pub invariant-loop-col : goal.invariant-loop-col
invariant-loop-col g l =
    let json = JSON-type (number g.row.JSON) in
    IsWrittenAt l.fn.out l.out l.at l.end (before_values json ++ join_with_byte 44 (take l.col (members json l.rows.names (get_or l.rows.rows l.row []))))
