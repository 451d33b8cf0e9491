use Rattle.std.proofs.Common.{ap}
use Rattle.odata_lex.specs.Token.{TokenOf}
use Rattle.odata_parse.specs.Options.{key_value}
use Rattle.odata_parse.proofs.OptionLemmas.{pair_parts, same_two}
use Rattle.odata_parse.proofs.options.KeyPairItem.read.Goals as goal

pub returns-clause-found : goal.returns-clause-found
returns-clause-found c =
    let n = c.in_ok-name.ensures.ok in
    let s = c.in_ok-expect.ensures.ok in
    rw (n.0, s.0) (key_value n.1 c.in_ok-from_str.ensures.ok s.1 c.in_ok-value.ensures.found)

pub returns-clause-each : goal.returns-clause-each
returns-clause-each c = λ x after r h.
    let q = pair_parts r in
    let n = c.in_ok-name.ensures.ok in
    let s = c.in_ok-expect.ensures.ok in
    let m = same_two q.begins n.0 s.0 in
    let v = c.in_ok-value.ensures.each q.value after (rw (m.1) at q.reads) h in
    let k = ap (λ (t : TokenOf). t.text) m.0 in
    (rw (c.in_ok-from_str.ensures.ok, ← k, v.0) q.is, v.1)
