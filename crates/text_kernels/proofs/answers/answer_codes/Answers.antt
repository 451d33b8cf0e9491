use Rattle.std.proofs.Common.{◌≡◌, ◌<◌, ℕ, true, length, get_or, replicate, sym, subst, ap, ◌∙◌, arith}
use Rattle.row_eval.specs.Row.{text_in}
use Rattle.number_kernels.specs.Lanes.{truth_lane, HasTruths}
use Rattle.text_kernels.specs.Texts.{answered}
use Rattle.text_kernels.proofs.CodeLemmas.{codes-answered, codes-within, spread-gives}
use Rattle.text_kernels.proofs.answers.answer_codes.Goals as goal

pub answer_texts-requires : goal.answer_texts-requires
answer_texts-requires c =
    let codes = c.args.codes.now in
    let rows : c.as_slice.result.now ≡ codes.rows.items = c.as_slice.ensures.value in (
      omega (arith, ap length rows, ap length c.as_slice-2.ensures.value, c.in_ok-wanted.ensures.len, c.in_ok-wanted.wanted.ok.0, codes.rows.ok.0, c.len.ensures),
      λ i h. subst (λ rs. get_or rs i 0 < length c.args.texts.now) (sym rows) (c.requires.rows.1 i (omega (arith, h, ap length c.as_slice-2.ensures.value, c.in_ok-wanted.ensures.len, c.in_ok-wanted.wanted.ok.0, codes.rows.ok.0, c.len.ensures))),
    )

pub spread-requires : goal.spread-requires
spread-requires c =
    let codes = c.args.codes.now in
    let long : length c.as_slice-4.result.now ≡ length codes.rows.items =
    omega (arith, ap length c.as_slice-4.ensures.value, c.in_ok-answers.ensures.long, ap length c.as_slice-2.ensures.value, c.in_ok-wanted.ensures.len, c.in_ok-wanted.wanted.ok.0, codes.rows.ok.0, c.len.ensures) in
    subst (λ cs. (row : ℕ) → row < length cs → get_or cs row 0 < length c.as_slice-4.result.now) (sym c.as_slice-3.ensures.value)
    (codes-within c.args.texts.now codes c.as_slice-4.result.now c.requires long)

pub returns : goal.returns
returns c =
    let codes = c.args.codes.now in
    let wanted = c.as_slice-2.result.now in
    let all : wanted ≡ replicate (length codes.rows.items) true =
    c.as_slice-2.ensures.value ∙ c.in_ok-wanted.ensures.items_if_clones_equal (λ y e. e) ∙ ap (λ n. replicate n true) (omega (arith, codes.rows.ok.0, c.len.ensures)) in
    let long : length wanted ≡ length codes.rows.items = omega (arith, ap length c.as_slice-2.ensures.value, c.in_ok-wanted.ensures.len, c.in_ok-wanted.wanted.ok.0, codes.rows.ok.0, c.len.ensures) in
    let has = subst (λ cs. HasTruths (length cs) (λ row. truth_lane c.as_slice-4.result.now (get_or cs row 0)) c.in_ok-truths.truths.items) c.as_slice-3.ensures.value c.in_ok-truths.ensures in
    let asked = codes-answered (answered c.args.question) c.args.texts c.as_slice.result codes wanted c.in_ok-answers.answers.items c.as_slice.ensures.value all long c.in_ok-answers.ensures in
    spread-gives (λ cell. answered c.args.question (text_in cell)) c.args.texts.now codes c.as_slice-4.result.now c.in_ok-truths.truths.items c.requires
    (λ code h. ap (λ xs. truth_lane xs code) c.as_slice-4.ensures.value ∙ asked code h) has
