use Rattle.std.proofs.Common.{◌≡◌, ◌+◌}
use Rattle.reply_text.specs.RowSizes.{CountsMore}
use Rattle.reply_text.specs.contracts.row_sizes.RowSizes.count_few.{JSON-type}
use denote.Param.{number}
use Rattle.reply_text.proofs.row_sizes.RowSizes.count_few.Given as goal

abbrev pub invariant-loop-i : goal.invariant-loop-i
invariant-loop-i g l = record {
  len : l.self.len ≡ l.fn.self.len + l.i;
  counts : CountsMore (JSON-type (number g.row.JSON)) l.fn.frame l.columns l.fn.self l.self;
}
