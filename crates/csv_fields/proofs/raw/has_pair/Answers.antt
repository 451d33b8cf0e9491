-- Halving changes just the texts in which a pair stands, and no text without a double quote.
use Rattle.std.proofs.Common.{sym, ◌∙◌}
use Rattle.csv_fields.proofs.RawLemmas.{halved-no_quote, pair_changes}
use Rattle.csv_fields.proofs.raw.has_pair.Goals as goal

pub returns-then-has_quote : goal.returns-then-has_quote
returns-then-has_quote c = pair_changes c.args.text.now c.contains.result c.contains.ensures.cases

pub returns-else-has_quote : goal.returns-else-has_quote
returns-else-has_quote c = rw c.if-has_quote.false (halved-no_quote c.args.text.now (sym c.has_quote.ensures ∙ c.if-has_quote.false))
