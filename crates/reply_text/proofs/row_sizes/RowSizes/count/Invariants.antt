use Rattle.std.proofs.Common.{◌≡◌, ◌-◌, ◌≤◌, length}
use Rattle.std.specs.Prelude.{max}
use Rattle.reply_text.specs.RowSizes.{CountsMore}
use Rattle.reply_text.specs.contracts.row_sizes.RowSizes.count.{JSON-type}
use denote.Param.{number}
use Rattle.reply_text.proofs.row_sizes.RowSizes.count.Given as goal

abbrev pub invariant-loop-self : goal.invariant-loop-self
invariant-loop-self g l = record {
  room : length l.room ≡ 64;
  least : l.fn.self.len ≤ l.self.len;
  most : l.self.len ≤ max l.fn.self.len (length l.columns.rows);
  counts : CountsMore (JSON-type (number g.row.JSON)) l.frame l.columns l.fn.self l.self;
}

abbrev pub decreases-loop-self : goal.decreases-loop-self
decreases-loop-self g l = length l.columns.rows - l.self.len
