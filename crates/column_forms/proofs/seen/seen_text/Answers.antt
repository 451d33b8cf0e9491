use Rattle.column_forms.proofs.SeenLemmas.{as_it_is}
use Rattle.column_forms.proofs.seen.seen_text.Goals as goal

pub returns-then-not-any : goal.returns-then-not-any
returns-then-not-any c = (c.args.cell.now, as_it_is c.args.cell.now, c.trim_ascii.ensures.value)
