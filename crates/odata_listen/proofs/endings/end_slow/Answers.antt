use Rattle.odata_listen.proofs.endings.end_slow.Goals as goal

pub returns : goal.returns
returns c = record { due = c.due-due.result; is = c.due-due.ensures; ends = c.do_due.ensures }
