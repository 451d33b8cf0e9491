use Rattle.std.proofs.Common.{subst}
use Rattle.table_store.specs.Fits.{HasTableRows}
use Rattle.table_store.proofs.table.Table.values_fit.Goals as goal

pub returns : goal.returns
returns c = subst HasTableRows c.self.view_is c.self.invariant.fit
