-- The words say of each byte what the carry before it says, and so the masks are those of the block.
use Rattle.std.proofs.Common.{◌-◌, ◌∙◌, arith, bit_or}
use Rattle.quote_parity.proofs.StepWords.{AreWords, top_bit, masks_fit}
use Rattle.quote_parity.proofs.StepLemmas.{carry_after, masks_after}
use Rattle.quote_parity.proofs.carry.Carry.step_by.Goals as goal

pub invariant_of-result : goal.invariant_of-result
invariant_of-result c =
    let last = c.args.len - 1 in record {
      parity = top_bit c.prefix_xor-quoted.result last;
      ends = top_bit (bit_or c.args.c.comma c.args.c.lf) last;
      quotes = top_bit c.args.c.quote last;
      returns = top_bit c.args.c.cr last;
    }

pub returns-clause-carry : goal.returns-clause-carry
returns-clause-carry c text block carry long classes =
    let words : AreWords c.args.c c.prefix_xor-quoted.result c.self.inside.odd c.self.inside.start c.self.inside.quote c.self.inside.cr = record {
      quoted = c.prefix_xor-quoted.ensures;
      bits = c.self.invariant;
      quote = omega arith;
      comma = omega arith;
      cr = omega arith;
      lf = omega arith;
      parities = omega arith;
    } in
    carry_after words c.requires.some c.requires.most text block (c.self.view_is ∙ carry) long classes

pub returns-clause-masks : goal.returns-clause-masks
returns-clause-masks c text block carry long classes viable =
    let words : AreWords c.args.c c.prefix_xor-quoted.result c.self.inside.odd c.self.inside.start c.self.inside.quote c.self.inside.cr = record {
      quoted = c.prefix_xor-quoted.ensures;
      bits = c.self.invariant;
      quote = omega arith;
      comma = omega arith;
      cr = omega arith;
      lf = omega arith;
      parities = omega arith;
    } in
    masks_after words c.requires.some c.requires.most text block (c.self.view_is ∙ carry) long classes
    c.one_structure.ensures c.what_follows.ensures viable

pub returns-clause-within : goal.returns-clause-within
returns-clause-within c = masks_fit c.args.c c.prefix_xor-quoted.result c.self.inside.start c.self.inside.quote c.self.inside.cr c.args.len c.requires.most
