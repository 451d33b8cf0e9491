use Rattle.std.proofs.Common.{◌≡◌, ℕ, Bool, List, ◌++◌, ap, sym, subst, ◌∙◌, append_assoc}
use Rattle.text_encodings.specs.declared.encoding.Encoding.{Encoding}
use Rattle.text_encodings.specs.Decoders.{Decodes, EndsSo, IsFrontIn}
use Rattle.text_encodings.proofs.DecodeLemmas.{decode_more}
use Rattle.text_encodings.proofs.decoder.Decoder.read.Goals as goal

pub returns-clause-text : goal.returns-clause-text
returns-clause-text c = λ given text read.
    let self = c.args.self.now in
    let after = c.take_front.new.self in
    let same = c.take_front.ensures.same in
    let front = c.in_ok-front.front.items in
    let made = c.in_ok-is_utf8.ensures in
    let is = c.in_ok-is_utf8.is_utf8 in
    let D : List ℕ → Type 0 = λ l. Decodes after.encoding after.is_utf8 is l made.0 in
    let F : Encoding → Type 0 = λ e. IsFrontIn e self.is_utf8 read.front text in
    let G : Bool → Type 0 = λ b. IsFrontIn after.encoding b read.front text in
    let E : Encoding → Type 0 = λ e. EndsSo e front in (
      made.0,
      made.1,
      record {
        front = read.front ++ front;
        given_is = ap (λ l. l ++ c.args.piece.now) read.given_is ∙ (append_assoc read.front self.left.items c.args.piece.now
            ∙ (ap (λ l. read.front ++ l) c.in_ok-front.ensures.bytes ∙ sym (append_assoc read.front front after.left.items)));
        is = decode_more after.encoding after.is_utf8 is read.front text front made.0 (subst G (sym same.1) (subst F (sym same.0) read.is)) (subst E (sym same.0) c.in_ok-front.ensures.ends)
            (subst D c.as_slice.ensures.value made.2);
      },
    )
