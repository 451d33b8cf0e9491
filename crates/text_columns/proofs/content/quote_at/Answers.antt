use Rattle.text_columns.proofs.QuoteLemmas.{first-none, first-quote, first-some}
use Rattle.text_columns.proofs.content.quote_at.Goals as goal

pub returns-then-quotes-eq0 : goal.returns-then-quotes-eq0
returns-then-quotes-eq0 c = first-none _ _ _ (first-quote c.args.lanes c.fits-lanes.0) c.if-quotes-eq0.true

pub returns-else-quotes-eq0 : goal.returns-else-quotes-eq0
returns-else-quotes-eq0 c = first-some _ _ _ (first-quote c.args.lanes c.fits-lanes.0) c.if-quotes-eq0.false
