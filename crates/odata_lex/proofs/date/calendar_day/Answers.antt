use Rattle.std.proofs.Common.{arith}
use Rattle.std.proofs.lemmas.Int.{to_z_pos}
use Rattle.std.specs.Int.{w8, w16}
use Rattle.odata_lex.proofs.Dates.{day_or_none}
use Rattle.odata_lex.proofs.date.calendar_day.Goals as goal

pub returns : goal.returns
returns c =
    rw c.ok.ensures.value (day_or_none c.args.year c.args.month c.args.day _ _ _ c.new.result (to_z_pos w16 c.args.year (omega arith)) (to_z_pos w8 c.args.month (omega arith)) (to_z_pos w8 c.args.day (omega arith)) c.if-year-eq0.false c.new.ensures.succeeds c.new.ensures.value)
