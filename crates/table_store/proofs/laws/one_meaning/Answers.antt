use Rattle.table_store.proofs.OneMeaning.{one_catalog, one_cause, not_both}
use Rattle.table_store.proofs.SomeMeaning.{some_meaning}
use Rattle.table_store.proofs.laws.one_meaning.Goals as goal

pub returns : goal.returns
returns c = record {
  some = some_meaning c.table_or_fault.ensures;
  meaning = one_catalog c.one_table.ensures;
  cause = one_cause c.one_table.ensures c.one_file_fault.ensures;
  not_both = not_both c.one_table.ensures c.one_file_fault.ensures;
}
