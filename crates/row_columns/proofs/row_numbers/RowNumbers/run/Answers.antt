use Rattle.std.proofs.Common.{◌≡◌, [], arith, sym, ◌∙◌}
use Rattle.std.proofs.lemmas.Bool.{eqb-true}
use Rattle.std.proofs.lemmas.List.{nil_from_length}
use Rattle.row_columns.proofs.ChunkLemmas.{run_of}
use Rattle.row_columns.proofs.row_numbers.RowNumbers.run.Goals as goal

pub returns : goal.returns
returns c =
    let v = c.self.inside in
    let none : v.listed.items ≡ [] = nil_from_length v.listed.items (omega (arith, eqb-true v.listed.len 0 (sym c.is_empty.ensures ∙ c.if-not-is_empty.false), v.listed.ok.0)) in
    sym c.self.view_is
    ∙ run_of v.chunks.items v.listed.items c.index.result.now c.index-2.result.now v.count (omega (arith, c.len.ensures, c.if-len-ne1.false, v.chunks.ok.0)) c.index.ensures c.index-2.ensures
    (c.is_all.ensures c.if-not-is_all.false) none c.self.invariant.count
