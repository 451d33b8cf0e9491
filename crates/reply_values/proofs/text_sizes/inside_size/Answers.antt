use Rattle.std.proofs.Common.{arith, ◌+◌, ap, ◌∙◌}
use Rattle.reply_values.specs.Size.{told}
use Rattle.reply_values.proofs.RunLemmas.{last_run, one_run}
use Rattle.reply_values.specs.contracts.text_sizes.inside_size.{JSON-type}
use denote.Param.{number}
use Rattle.reply_values.specs.Printed.{needs_more}
use Rattle.reply_values.proofs.BlockLemmas.{first_within}
use Rattle.reply_values.proofs.text_sizes.inside_size.Goals as goal

pub split_at-requires : goal.split_at-requires
split_at-requires g c = omega (arith, c.run_len.ensures, first_within (needs_more (JSON-type (number g.row.JSON))) c.loop-byte.rest.now)

pub returns-in_default : goal.returns-in_default
returns-in_default g c =
    last_run (JSON-type (number g.row.JSON)) _ _ _ _ _ _ _ c.run_len.ensures c.split_at.ensures.front c.split_at.ensures.back c.loop-byte.invariant c.saturating_add-size.ensures c.in_default.ensures.cases

pub loop-byte-preserved : goal.loop-byte-preserved
loop-byte-preserved g c =
    one_run (JSON-type (number g.row.JSON)) _ _ _ _ _ _ _ _ _ _ c.run_len.ensures c.split_at.ensures.front c.split_at.ensures.back c.loop-byte.invariant c.saturating_add-size.ensures c.in-Some.ensures.cases.0
    (c.saturating_add-size-in-loop-byte.ensures ∙ ap (λ n. told (c.saturating_add-size.result + n)) c.escaped_size.ensures)
