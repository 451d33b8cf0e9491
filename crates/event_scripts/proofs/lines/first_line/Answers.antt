use Rattle.std.proofs.Common.{◌∙◌, sym}
use Rattle.event_scripts.proofs.LineLemmas.{behind_first, last_line, line_before}
use Rattle.event_scripts.proofs.lines.first_line.Goals as goal

pub returns-in-Some-clause-line : goal.returns-in-Some-clause-line
returns-in-Some-clause-line c =
    let behind = behind_first c.args.script.now c.in-Some.at c.split_at.result.1.now c.split_at.ensures.back in
    rw (c.without_return.ensures, c.split_at.ensures.front, behind) (line_before c.args.script.now c.in-Some.at (sym c.in-Some.ensures))

pub returns-in-None-clause-line : goal.returns-in-None-clause-line
returns-in-None-clause-line c = last_line c.args.script.now (sym c.in-None.ensures) (sym c.is_empty.ensures ∙ c.if-is_empty.false)
