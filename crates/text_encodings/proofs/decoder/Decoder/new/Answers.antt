use Rattle.std.proofs.Common.{ap, sym, ◌++◌, ◌∙◌, append-nil}
use Rattle.text_encodings.specs.Decoders.{mark_of}
use Rattle.text_encodings.proofs.DecodeLemmas.{no_byte}
use Rattle.text_encodings.proofs.decoder.Decoder.new.Goals as goal

pub returns-clause-is : goal.returns-clause-is
returns-clause-is c = record {
  front = mark_of c.args.encoding;
  given_is = sym (ap (λ l. mark_of c.args.encoding ++ l) c.new.ensures.items ∙ append-nil (mark_of c.args.encoding));
  is = no_byte c.args.encoding;
}
