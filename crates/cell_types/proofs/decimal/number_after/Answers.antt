-- After each digit the number only grows.
use Rattle.std.proofs.Common.{◌≡◌, arith, drop, []}
use Rattle.std.proofs.lemmas.List.{drop_all}
use Rattle.cell_types.proofs.DecimalLemmas.{no_room}
use Rattle.cell_types.proofs.decimal.number_after.Goals as goal

pub returns-in_err-checked_mul : goal.returns-in_err-checked_mul
returns-in_err-checked_mul c =
    rw c.from_residual.ensures (no_room c.args.start c.args.digits.now c.loop-byte.byte-index c.loop-byte.number _ c.loop-byte-test.true c.loop-byte.invariant.1 (omega arith)
    c.in_err-checked_mul.ensures)

pub returns-in_err-number : goal.returns-in_err-number
returns-in_err-number c =
    rw c.from_residual-in_err-number.ensures (no_room c.args.start c.args.digits.now c.loop-byte.byte-index c.loop-byte.number _ c.loop-byte-test.true c.loop-byte.invariant.1
    (omega (arith, c.from.ensures, c.in_ok-checked_mul.ensures)) c.in_err-number.ensures)

pub returns : goal.returns
returns c =
    let none : drop c.loop-byte.byte-index c.args.digits.now ≡ [] = drop_all c.loop-byte.byte-index c.args.digits.now c.loop-byte-test.false in
    let is = rw none at c.loop-byte.invariant.1.1 in
    (omega (arith, is), is)
