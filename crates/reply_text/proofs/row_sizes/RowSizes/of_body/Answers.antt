use Rattle.std.proofs.Common.{◌≡◌, arith, rules, tests}
use Rattle.std.specs.Prelude.{if◌then◌else◌}
use Rattle.reply_text.specs.contracts.row_sizes.RowSizes.of_body.{JSON-type}
use denote.Param.{number}
use Rattle.reply_text.proofs.CountLemmas.{all_sizes}
use Rattle.reply_text.proofs.row_sizes.RowSizes.of_body.Goals as goal

pub returns : goal.returns
returns g c =
    let json = JSON-type (number g.row.JSON) in
    let one : c.from.result ≡ (if json then 1 else 0) = first_of (grind (arith, tests, c.from.ensures), search rules) in
    let sizes = all_sizes json c.args.rows.now.rows c.of_all-rows.result c.args.opening c.saturating_sub-end.result c.with.result.all c.with.result.longest c.with-2.result.all c.with-2.result.longest
    c.of_all-rows.ensures.have c.of_all-rows.ensures.len c.requires.opening (omega (arith, one, c.saturating_sub-end.ensures, c.min.ensures)) c.with.ensures.all c.with.ensures.longest c.with-2.ensures.all c.with-2.ensures.longest in
    record { all = sizes.all; longest = sizes.longest }
