use Rattle.std.proofs.Common.{arith, w64}
use Rattle.std.proofs.lemmas.Nat.Bits.{bit_at-trailing_zeros, bit_at_clear_same, bit_at_clear_other}
use Rattle.std.specs.Int.{bit_not, trailing_zeros}
use Rattle.std.proofs.Common.{bit_and, ◌*◌, ◌^◌, ◌%◌, ℕ}
use Rattle.row_selection.proofs.BitLemmas.{marked-first}
use Rattle.row_selection.proofs.marks.lowest.Goals as goal

pub returns-clause-bits : goal.returns-clause-bits
returns-clause-bits c = λ start.
    let word = c.args.word in
    let low = bit_at-trailing_zeros w64 word c.requires c.ranges.word.fits in
    let place : ℕ = trailing_zeros w64 word in
    marked-first start word (bit_and word (bit_not w64 (1 * 2 ^ place % 2 ^ 64))) place 64 low.1 (bit_at_clear_same w64 word place low.0) low.2
    (λ j less other. bit_at_clear_other w64 word place low.0 j less other) low.0 (omega arith)
