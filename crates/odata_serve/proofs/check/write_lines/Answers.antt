use Rattle.std.proofs.Common.{◌≡◌, ◌≤◌, ◌∙◌, ℕ, List, length, subst, take}
use Rattle.std.specs.Io.KnownBytes.{Appends}
use Rattle.odata_serve.specs.Check.{table_line}
use Rattle.odata_serve.proofs.LineLemmas.{listed_front, listed_more}
use Rattle.odata_serve.proofs.check.write_lines.Goals as goal

pub returns-in-Err : goal.returns-in-Err
returns-in-Err g c =
    let is : c.as_bytes.result.now ≡ table_line c.table-item.result = c.as_bytes.ensures.value ∙ c.in_ok-line.ensures in
    let before = g.W.Sink.sink c.loop-table.out in
    let after = g.W.Sink.sink c.send.new.out in
    let Front : List ℕ → Type 0 = λ line. (n : ℕ) × (n ≤ length line) × Appends before.taken after.taken (take n line) in
    listed_front c.args.tables.now c.loop-table.table-index c.table-item.result c.loop-table-test.true c.table-item.is c.loop-table.invariant
    (subst Front is c.in-Err.ensures.err) c.in-Err.ensures.failed

pub loop-table-preserved : goal.loop-table-preserved
loop-table-preserved g c =
    let is : c.as_bytes.result.now ≡ table_line c.table-item.result = c.as_bytes.ensures.value ∙ c.in_ok-line.ensures in
    let before = g.W.Sink.sink c.loop-table.out in
    let after = g.W.Sink.sink c.send.new.out in
    listed_more c.args.tables.now c.loop-table.table-index c.table-item.result c.loop-table-test.true c.table-item.is c.loop-table.invariant
    (subst (λ (line : List ℕ). Appends before.taken after.taken line) is c.in-Ok.ensures.ok) c.in-Ok.ensures.failed
