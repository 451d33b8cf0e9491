use Rattle.order_columns.proofs.ExtendedLemmas.{extended_none}
use Rattle.order_columns.proofs.item_columns.ItemColumns.of.Goals as goal

pub returns : goal.returns
returns c = extended_none c.args.columns.now.rows
