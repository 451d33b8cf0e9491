use Rattle.std.proofs.Common.{◌≡◌, ◌/◌, ◌%◌, pos, refl, sym, ap, ◌∙◌, arith, to_z}
use Rattle.std.specs.Int.{w8, w16}
use Rattle.std.proofs.lemmas.Bool.{false≢true}
use Rattle.std.proofs.lemmas.Int.{ints}
use Rattle.cell_types.specs.Kind.{day_cell}
use Rattle.cell_types.proofs.GivenLemmas.{day-not_there, day-there}
use Rattle.cell_types.proofs.kind.day_at.Goals as goal

pub returns-in-Ok : goal.returns-in-Ok
returns-in-Ok c =
    let n = c.args.number in
    let year : to_z w16 (n / 512) ≡ pos (n / 512) = omega (arith, ints, c.requires.last) in
    let month : to_z w8 (n % 512 / 32) ≡ pos (n % 512 / 32) = omega (arith, ints) in
    let day : to_z w8 (n % 32) ≡ pos (n % 32) = omega (arith, ints) in
    let ok = rw (year, month, day) at c.in-Ok.ensures.succeeds in
    let is = rw (year, month, day) at c.in-Ok.ensures.value in
    λ z same. day-there n c.in-Ok.date c.requires.first (ok.0 refl) is ∙ ap day_cell same

pub returns-in-Err : goal.returns-in-Err
returns-in-Err c =
    let n = c.args.number in
    let year : to_z w16 (n / 512) ≡ pos (n / 512) = omega (arith, ints, c.requires.last) in
    let month : to_z w8 (n % 512 / 32) ≡ pos (n % 512 / 32) = omega (arith, ints) in
    let day : to_z w8 (n % 32) ≡ pos (n % 32) = omega (arith, ints) in
    let ok = rw (year, month, day) at c.in-Err.ensures.succeeds in
    λ z same. sym (day-not_there n (λ is. false≢true (ok.1 is))) ∙ ap day_cell same
