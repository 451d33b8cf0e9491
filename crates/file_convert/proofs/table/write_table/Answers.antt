use Rattle.std.proofs.Common.{map}
use Rattle.csv_records.specs.Exchange.{exchanged}
use Rattle.file_convert.specs.Rows.{plan_of}
use Rattle.file_convert.proofs.TableLemmas.{table_written}
use Rattle.file_convert.proofs.table.write_table.Goals as goal

pub returns-clause-table : goal.returns-clause-table
returns-clause-table c =
    let begun = c.in_ok-begun.begun in
    let how = c.args.how in
    table_written (map plan_of c.args.reports.now) how begun.width c.args.text.now (map (exchanged how.separator) begun.rest.now) c.args.out.now.items
    c.put_header.new.out.items c.put_rows.new.out.items c.rows_read_back.ensures c.in_ok-begun.ensures c.in_ok-put_rows.ensures.rows
