use Rattle.std.proofs.Common.{ℕ, List, ◌++◌, ap, sym, subst, ◌∙◌}
use Rattle.text_encodings.specs.Encodings.{IsTextIn}
use Rattle.text_encodings.specs.Decoders.{Decodes}
use Rattle.text_encodings.proofs.DecodeLemmas.{decode_end}
use Rattle.text_encodings.proofs.decoder.Decoder.end.Goals as goal

pub returns-then-may_end : goal.returns-then-may_end
returns-then-may_end c = λ given text read.
    let self = c.args.self in
    let made = c.in_ok-is_utf8.ensures in
    let D : List ℕ → Type 0 = λ l. Decodes self.encoding self.is_utf8 c.in_ok-is_utf8.is_utf8 l made.0 in
    let T : List ℕ → Type 0 = λ l. IsTextIn self.encoding l (text ++ made.0) in (
      made.0,
      made.1,
      subst T (sym read.given_is)
          (decode_end self.encoding self.is_utf8 c.in_ok-is_utf8.is_utf8 read.front text self.left.items made.0 read.is (subst D c.as_slice.ensures.value made.2)
          (c.may_end.ensures c.if-may_end.true)),
    )
