use Rattle.std.proofs.Common.{length, sym, ◌∙◌, arith}
use Rattle.std.proofs.lemmas.Bool.{eqb-false}
use Rattle.key_index.proofs.RowLemmas.{length-typed_keys}
use Rattle.key_index.proofs.reading.key_count.Goals as goal

pub returns-else-is_empty-clause-count : goal.returns-else-is_empty-clause-count
returns-else-is_empty-clause-count c = λ columns.
    let some = eqb-false (length c.args.places.now) 0 (sym c.is_empty.ensures ∙ c.if-is_empty.false) in
    sym (length-typed_keys c.args.places.now columns c.args.rows (omega (arith, some)))
