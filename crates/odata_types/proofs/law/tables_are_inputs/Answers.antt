use Rattle.odata_types.proofs.RowLemmas.{table_input, table_rows}
use Rattle.odata_types.proofs.law.tables_are_inputs.Goals as goal

pub returns : goal.returns
returns c = record { input = table_input; rows = table_rows }
