use Rattle.odata_url.proofs.LawLemmas.{Encodes-octets_of, octets_of-Encodes}
use Rattle.odata_url.proofs.laws.stands_for_octets.Goals as goal

pub returns : goal.returns
returns c text octets = (Encodes-octets_of text octets, octets_of-Encodes text octets)
