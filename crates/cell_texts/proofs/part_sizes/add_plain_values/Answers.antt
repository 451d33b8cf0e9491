use Rattle.std.proofs.Common.{◌≡◌, ◌<◌, length, sym, ◌∙◌, arith, rules}
use Rattle.cell_texts.proofs.SizeLemmas.{value_counted}
use Rattle.cell_texts.specs.contracts.part_sizes.add_plain_values.{JSON-type}
use denote.Param.{number}
use Rattle.cell_texts.proofs.part_sizes.add_plain_values.Goals as goal

pub returns : goal.returns
returns g c = record {
  long = c.add_lengths.ensures.long;
  each = λ i h.
      let same : length c.text_lengths.new.lengths ≡ length c.args.sizes.now = search rules in
      value_counted (JSON-type (number g.row.JSON)) _ c.in-Some.bytes.now _ _ _ (c.in-Some.ensures.texts i (omega (arith, h, same)))
      (sym c.is_plain.ensures ∙ c.if-not-is_plain.false) (c.add_lengths.ensures.each i h);
}
