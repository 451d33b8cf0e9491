use Rattle.std.proofs.Common.{◌≡◌, string_bytes, take, subst, ap, ◌∙◌}
use Rattle.std.specs.Prelude.{IfOk}
use Rattle.text_columns.specs.Places.{place_list}
use Rattle.text_columns.specs.Texts.{AreNullMarks}
use Rattle.text_columns.proofs.ReadLemmas.{packed-cells, packed-texts}
use Rattle.text_columns.proofs.buffer.TextBuffer.pack.Goals as goal

pub of_texts-requires : goal.of_texts-requires
of_texts-requires c =
    let b = c.self.inside in
    let kept = c.in_ok-nulls.nulls in
    let ends : place_list c.in_ok-ends.ends ≡ take b.len b.ends.items = c.in_ok-ends.ensures ∙ ap (take b.len) c.as_slice.ensures.value in
    let front : string_bytes c.in_ok-bytes.bytes ≡ take b.at b.bytes.items = c.in_ok-bytes.ensures.text in
    let marks = subst (λ ns. AreNullMarks (take b.len ns) kept.items) c.as_slice-2.ensures.value c.in_ok-nulls.ensures in
    record {
      codes = tt;
      texts = packed-texts b.at b.len b.nulls.items kept.items b.ends.items b.bytes.items (place_list c.in_ok-ends.ends) (string_bytes c.in_ok-bytes.bytes) ends front
          c.self.invariant.within c.self.invariant.marks c.self.invariant.read marks;
    }

pub returns-clause-block : goal.returns-clause-block
returns-clause-block c =
    let b = c.self.inside in
    let kept = c.in_ok-nulls.nulls in
    let ends : place_list c.in_ok-ends.ends ≡ take b.len b.ends.items = c.in_ok-ends.ensures ∙ ap (take b.len) c.as_slice.ensures.value in
    let front : string_bytes c.in_ok-bytes.bytes ≡ take b.at b.bytes.items = c.in_ok-bytes.ensures.text in
    let marks = subst (λ ns. AreNullMarks (take b.len ns) kept.items) c.as_slice-2.ensures.value c.in_ok-nulls.ensures in
    subst (λ cells. IfOk c.of_texts.result (λ block. block ≡ cells))
    (packed-cells b.at b.len b.nulls.items kept.items b.ends.items b.bytes.items (place_list c.in_ok-ends.ends) (string_bytes c.in_ok-bytes.bytes) c.args.self.now c.self.view_is ends front
    c.self.invariant.read marks) c.of_texts.ensures
