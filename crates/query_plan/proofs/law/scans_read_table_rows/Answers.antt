use Rattle.query_plan.proofs.ScanLemmas.{scans_read_table_rows}
use Rattle.query_plan.proofs.law.scans_read_table_rows.Goals as goal

pub returns : goal.returns
returns c = scans_read_table_rows
