use Rattle.odata_url.proofs.LawLemmas.{octets_of-escaped_text}
use Rattle.odata_url.proofs.laws.escaping_is_undone.Goals as goal

pub returns : goal.returns
returns c = octets_of-escaped_text
