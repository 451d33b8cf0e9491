use Rattle.std.proofs.Common.{◌∙◌, sym}
use Rattle.odata_lex.proofs.FirstLemmas.{no_day}
use Rattle.odata_lex.proofs.first.date_token.Goals as goal

pub returns-else-is_some : goal.returns-else-is_some
returns-else-is_some c = no_day _ c.args.text.now c.date_in.result c.requires (sym c.is_some.ensures ∙ c.if-is_some.false) c.date_in.ensures
