use Rattle.std.proofs.Common.{◌≡◌, ◌<◌, ℕ, length, ap, sym, subst, ◌∙◌, eqb-true, arith}
use Rattle.text_columns.specs.Places.{place_list}
use Rattle.text_columns.specs.Search.{IsRight}
use Rattle.text_columns.specs.Texts.{EndsRise}
use Rattle.text_columns.proofs.SearchLemmas.{marks-end, right-empty}
use Rattle.text_columns.proofs.TextLemmas.{length-text_cells}
use Rattle.text_columns.proofs.column.TextColumn.mark_containing.Goals as goal

pub mark_hits-requires-clause-long : goal.mark_hits-requires-clause-long
mark_hits-requires-clause-long c =
    let b = c.self.inside in
    omega (arith, c.requires, c.fill.ensures.len, ap length c.self.view_is, length-text_cells b.nulls.now (place_list b.ends.now) b.bytes.now)

pub mark_hits-requires-clause-rise : goal.mark_hits-requires-clause-rise
mark_hits-requires-clause-rise c =
    let b = c.self.inside in
    subst (λ bytes. EndsRise (place_list b.ends.now) (length bytes)) (sym c.as_bytes.ensures.value) c.self.invariant.0.texts.rise

pub returns-then-is_empty : goal.returns-then-is_empty
returns-then-is_empty c =
    let b = c.self.inside in
    let long : length c.mark_texts.new.out ≡ length (place_list b.ends.now) = omega (arith, c.requires, c.mark_texts.ensures.long, ap length c.self.view_is, length-text_cells b.nulls.now (place_list b.ends.now) b.bytes.now) in
    marks-end b.nulls.now (place_list b.ends.now) b.bytes.now c.args.part.now c.mark_texts.new.out c.args.self.now c.self.view_is long
    (λ r h. right-empty b.nulls.now (place_list b.ends.now) b.bytes.now c.args.part.now c.mark_texts.new.out r (eqb-true (length c.args.part.now) 0 (sym c.is_empty.ensures ∙ c.if-is_empty.true)) (c.mark_texts.ensures.marks r (omega (arith, h, long))))

pub returns-else-is_empty : goal.returns-else-is_empty
returns-else-is_empty c =
    let b = c.self.inside in
    let out = c.mark_hits.new.out in
    let long : length out ≡ length (place_list b.ends.now) =
    omega (arith, c.requires, c.fill.ensures.len, c.mark_hits.ensures.long, ap length c.self.view_is, length-text_cells b.nulls.now (place_list b.ends.now) b.bytes.now) in
    let right = subst (λ part. (r : ℕ) → r < length out → IsRight b.nulls.now (place_list b.ends.now) b.bytes.now part out r) c.as_bytes-else-is_empty.ensures.value
    (subst (λ bytes. (r : ℕ) → r < length out → IsRight b.nulls.now (place_list b.ends.now) bytes c.as_bytes-else-is_empty.result.now out r) c.as_bytes.ensures.value c.mark_hits.ensures.marks) in
    marks-end b.nulls.now (place_list b.ends.now) b.bytes.now c.args.part.now out c.args.self.now c.self.view_is long (λ r h. right r (omega (arith, h, long)))
