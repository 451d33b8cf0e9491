use Rattle.std.proofs.Common.{◌∷◌}
use Rattle.std.proofs.lemmas.Result.{err_from_is_err_and}
use Rattle.odata_parse.specs.Apply.{of_column}
use Rattle.odata_parse.proofs.ApplyLemmas.{same_method, column_parts}
use Rattle.odata_parse.proofs.PrimaryLemmas.{same_rest}
use Rattle.odata_parse.proofs.apply.aggregated.Goals as goal

pub returns-in_err-column-clause-each : goal.returns-in_err-column-clause-each
returns-in_err-column-clause-each c = λ x after r d.
    let p = err_from_is_err_and c.from_residual.result c.from_residual.ensures.1 in
    let q = column_parts r d in rw (p.1, p.2) (c.in_err-column.ensures.each q.column (q.word ∷ q.key ∷ q.mid) q.reads_column)

pub returns-in_err-expect_keyword-clause-each : goal.returns-in_err-expect_keyword-clause-each
returns-in_err-expect_keyword-clause-each c = λ x after r d.
    let q = column_parts r d in
    let n = c.in_ok-column.ensures.each q.column (q.word ∷ q.key ∷ q.mid) q.reads_column in
    absurd (c.in_err-expect_keyword.ensures.err q.word (q.key ∷ q.mid) n.1 q.is_with)

pub returns-in_err-method-clause-each : goal.returns-in_err-method-clause-each
returns-in_err-method-clause-each c = λ x after r d.
    let q = column_parts r d in
    let n = c.in_ok-column.ensures.each q.column (q.word ∷ q.key ∷ q.mid) q.reads_column in
    let m = same_rest c.in_ok-expect_keyword.ensures.ok.0 n.1 in
    absurd (c.in_err-method.ensures.none q.key q.mid q.by m q.is_method)

pub returns-in_err-alias-clause-each : goal.returns-in_err-alias-clause-each
returns-in_err-alias-clause-each c = λ x after r d.
    let p = err_from_is_err_and c.from_residual-in_err-alias.result c.from_residual-in_err-alias.ensures.1 in
    let q = column_parts r d in
    let n = c.in_ok-column.ensures.each q.column (q.word ∷ q.key ∷ q.mid) q.reads_column in
    let m = same_rest c.in_ok-expect_keyword.ensures.ok.0 n.1 in
    let f = c.in_ok-method.ensures.found in
    let k = same_rest m f.1 in
    rw (p.1, p.2) (c.in_err-alias.ensures.each q.alias after (rw k at q.reads_alias))

pub returns-clause-found : goal.returns-clause-found
returns-clause-found c =
    let w = c.in_ok-expect_keyword.ensures.ok in
    let f = c.in_ok-method.ensures.found in
    of_column (rw (w.0, f.1) at c.in_ok-column.ensures.found) w.1 f.2 c.in_ok-alias.ensures.found

pub returns-clause-each : goal.returns-clause-each
returns-clause-each c = λ x after r d.
    let q = column_parts r d in
    let n = c.in_ok-column.ensures.each q.column (q.word ∷ q.key ∷ q.mid) q.reads_column in
    let m = same_rest c.in_ok-expect_keyword.ensures.ok.0 n.1 in
    let f = c.in_ok-method.ensures.found in
    let k = same_rest m f.1 in
    let a = c.in_ok-alias.ensures.each q.alias after (rw k at q.reads_alias) in
    let u = same_method _ q.by f.1 m f.2 q.is_method in
    (rw (n.0, u, a.0) q.is, a.1)
