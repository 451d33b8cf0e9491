use Rattle.std.proofs.Common.{◌≡◌, ◌+◌, IsTrue, get_or, length, refl, arith, rules}
use Rattle.cell_types.specs.Value.{null}
use Rattle.cell_texts.proofs.SizeLemmas.{cell_counted}
use Rattle.cell_texts.specs.contracts.part_sizes.add_any.{JSON-type}
use denote.Param.{number}
use Rattle.cell_texts.proofs.part_sizes.add_any.Goals as goal

pub returns-then-lengths : goal.returns-then-lengths
returns-then-lengths g c = record {
  long = c.add_lengths.ensures.long;
  each = λ i h.
      let same : length c.lengths.new.out ≡ length c.args.sizes.now = search rules in
      let plain : IsTrue c.is_plain.result = search rules in
      let known = c.if-lengths.ensures.each refl i (omega (arith, h, same)) in
      cell_counted (JSON-type (number g.row.JSON)) (get_or c.args.texts.now (c.args.first + i) null) known.0 _ _ known.1
      (c.add_lengths.ensures.each i h known.0 known.2 (c.is_plain.ensures plain (c.args.first + i) known.0 (omega arith) (omega arith) known.1));
}
