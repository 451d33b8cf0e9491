use Rattle.std.proofs.Common.{arith}
use Rattle.index_bench.proofs.RowLemmas.{few_rows}
use Rattle.index_bench.proofs.index_rows.Goals as goal

pub rows_of-requires : goal.rows_of-requires
rows_of-requires c = few_rows _ c.args.bytes.now (omega arith) c.build.ensures.table
