-- One text further: it stands again after, or those left decide.
use Rattle.std.proofs.Common.{◌≡◌, ◌+◌, ◌-◌, length, take, drop, refl, sym}
use Rattle.std.specs.List.{list_any}
use Rattle.std.specs.Str.{bytes_eq}
use Rattle.serde_json.specs.View.{view}
use Rattle.csvw_meta.specs.Key.{text_or_empty}
use Rattle.csvw_meta.proofs.KeyLemmas.{are_different-from}
use Rattle.csvw_meta.proofs.key.are_different.Goals as goal

pub returns-then-has_text : goal.returns-then-has_text
returns-then-has_text c =
    let vs = c.args.values.now in
    let i = c.loop-i.i in
    let twice : c.has_text.result ≡ list_any (λ value. bytes_eq c.text_of.result.now (text_or_empty (view value))) (take (length vs - (i + 1)) (drop (i + 1) vs)) = c.has_text.ensures in
    rw (c.loop-i.invariant, are_different-from vs i c.index-values-i.result c.text_of.result.now c.has_text.result c.loop-i-test.true (sym c.index-values-i.is) c.text_of.ensures twice, c.if-has_text.true) refl

pub loop-i-preserved : goal.loop-i-preserved
loop-i-preserved c =
    let vs = c.args.values.now in
    let i = c.loop-i.i in
    let twice : c.has_text.result ≡ list_any (λ value. bytes_eq c.text_of.result.now (text_or_empty (view value))) (take (length vs - (i + 1)) (drop (i + 1) vs)) = c.has_text.ensures in
    rw (c.loop-i.invariant, are_different-from vs i c.index-values-i.result c.text_of.result.now c.has_text.result c.loop-i-test.true (sym c.index-values-i.is) c.text_of.ensures twice, c.if-has_text.false) refl
