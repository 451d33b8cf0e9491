use Rattle.std.proofs.Common.{◌≡◌, ◌≢◌, ◌^◌, ◌<◌, length, map, sym, ◌∙◌, arith}
use Rattle.std.proofs.lemmas.List.{length-map}
use Rattle.std.proofs.lemmas.Int.{to_z_pos}
use Rattle.std.specs.Int.{w64}
use Rattle.csv_index.specs.declared.fault.TextFault.TheVariants.{NoMemory}
use Rattle.csv_grammar.specs.Raw.{field_of}
use Rattle.csv_index.specs.Index.{table_in}
use Rattle.index_bench.specs.Rows.{table, refused, no_memory}
use Rattle.index_bench.proofs.RowLemmas.{fault_told}
use Rattle.index_bench.proofs.rows_of.Goals as goal

pub returns-in-Ok : goal.returns-in-Ok
returns-in-Ok c = λ bytes ok err.
    let t = rw c.in-Ok.is at ok in
    let small : c.in-Ok.index.rows < 2 ^ 63 = rw c.in-Ok.is at c.requires in
    let raw = table_in c.in-Ok.index bytes in
    let count : c.in-Ok.index.rows ≡ length (map (map field_of) raw.rows) = sym t.row_count ∙ sym (length-map raw.rows (map field_of)) in
    rw (to_z_pos w64 c.rows.result (omega (arith, small, c.rows.ensures)), c.rows.ensures, count) (table (map field_of raw.header) (map (map field_of) raw.rows) t.table.is)

pub returns-in-Err : goal.returns-in-Err
returns-in-Err c = λ bytes ok err. no_memory

pub returns-in-Err-2 : goal.returns-in-Err-2
returns-in-Err-2 c = λ bytes ok err.
    let other : c.in-Err.fault ≢ NoMemory = search (arith, c.eq.ensures, c.if-eq.false) in
    let told = fault_told c.in-Err.fault bytes other (rw c.in-Err.is at err) in refused told.0 told.1
