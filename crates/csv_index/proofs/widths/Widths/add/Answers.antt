-- One record ends at most, or they end one after another.
use Rattle.std.proofs.Common.{◌+◌, ◌%◌, arith, refl, bit_and}
use Rattle.std.proofs.lemmas.Nat.{ones-le, and_le_l}
use Rattle.std.specs.Int.RustNames.{count_ones}
use Rattle.csv_index.proofs.WidthLemmas.{most_one_ended, ended_within}
use Rattle.csv_index.proofs.widths.Widths.add.Goals.{then-records-le1+then-records-fields, else-records-le1}
use Rattle.csv_index.proofs.widths.Widths.add.Goals as goal

pub overflow_add-self : goal.overflow_add-self
overflow_add-self c =
    let before = ones-le 64 (bit_and c.args.ends ((c.args.eol + 18446744073709551615) % 18446744073709551616)) (omega (arith, and_le_l c.args.ends ((c.args.eol + 18446744073709551615) % 18446744073709551616))) in
    omega (arith, ended_within c.args.self.now (count_ones c.args.eol) _ c.if-records-le1.true c.if-records-fields.true (omega (arith, before)))

pub returns : goal.returns
returns c = elim c.if-records-le1.branch [
  | then-records-le1+then-records-fields w ↦ rw w.self-is (most_one_ended c.args.self.now c.args.ends c.args.eol _ c.requires.start (omega arith) (omega arith) c.requires.within w.if-records-le1.true refl w.if-records-fields.true)
  | else-records-le1 w ↦ rw w.self-is w.end_records.ensures.ended
]
