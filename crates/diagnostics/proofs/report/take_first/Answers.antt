-- The line that is taken out is the first with the front.
use Rattle.std.proofs.Common.{◌≡◌, ◌∙◌, ◌<◌, ◌++◌, List, String, Global, Some, ap, arith, drop, false, length, map, nat_eq, string_bytes, suc, sym, take, true, vec_items, vec_len}
use Rattle.std.proofs.lemmas.List.{get_or_default}
use Rattle.std.specs.List.{starts_with}
use Rattle.diagnostics.proofs.LineLemmas.{first-found, first-passed, others-found, others-passed, removed, text-at}
use Rattle.diagnostics.proofs.report.take_first.Goals as goal

pub returns-then-starts_with-clause-first : goal.returns-then-starts_with-clause-first
returns-then-starts_with-clause-first c =
    let place = c.loop-place.place in
    let line = c.index.result.now in
    let seen = c.loop-place.lines.items in
    let within : place < length seen = omega (arith, ap vec_len c.loop-place.invariant.0) in
    let at = text-at c.args.lines.now.items seen place line (ap vec_items c.loop-place.invariant.0) within c.index.ensures in
    let has : starts_with nat_eq (string_bytes line) c.args.front.now ≡ true =
    rw (← c.as_bytes.ensures.value, ← c.as_bytes-in-loop-place.ensures.value) (sym c.starts_with.ensures.value ∙ c.if-starts_with.true) in
    let taken = c.remove.ensures.value ∙ get_or_default seen place c.remove.result line within ∙ sym c.index.ensures in
    sym (first-found c.args.front.now _ place (string_bytes line) at.0 at.1 has c.loop-place.invariant.1
    ∙ ap (λ (text : String Global). Some (string_bytes text)) (sym taken))

pub returns-then-starts_with-clause-others : goal.returns-then-starts_with-clause-others
returns-then-starts_with-clause-others c =
    let place = c.loop-place.place in
    let line = c.index.result.now in
    let seen = c.loop-place.lines.items in
    let same = ap vec_items c.loop-place.invariant.0 in
    let within : place < length seen = omega (arith, ap vec_len c.loop-place.invariant.0) in
    let at = text-at c.args.lines.now.items seen place line same within c.index.ensures in
    let has : starts_with nat_eq (string_bytes line) c.args.front.now ≡ true =
    rw (← c.as_bytes.ensures.value, ← c.as_bytes-in-loop-place.ensures.value) (sym c.starts_with.ensures.value ∙ c.if-starts_with.true) in
    ap (map string_bytes) (c.remove.ensures.items ∙ ap (λ (xs : List (String Global)). take place xs ++ drop (suc place) xs) same)
    ∙ removed string_bytes c.args.lines.now.items place
    ∙ sym (others-found c.args.front.now _ place (string_bytes line) at.0 at.1 has c.loop-place.invariant.2)

pub loop-place-preserved : goal.loop-place-preserved
loop-place-preserved c =
    let place = c.loop-place.place in
    let line = c.index.result.now in
    let seen = c.loop-place.lines.items in
    let within : place < length seen = omega (arith, ap vec_len c.loop-place.invariant.0) in
    let at = text-at c.args.lines.now.items seen place line (ap vec_items c.loop-place.invariant.0) within c.index.ensures in
    let lacks : starts_with nat_eq (string_bytes line) c.args.front.now ≡ false =
    rw (← c.as_bytes.ensures.value, ← c.as_bytes-in-loop-place.ensures.value) (sym c.starts_with.ensures.value ∙ c.if-starts_with.false) in (
      c.loop-place.invariant.0,
      first-passed c.args.front.now _ place (string_bytes line) at.0 at.1 lacks c.loop-place.invariant.1,
      others-passed c.args.front.now _ place (string_bytes line) at.0 at.1 lacks c.loop-place.invariant.2,
    )
