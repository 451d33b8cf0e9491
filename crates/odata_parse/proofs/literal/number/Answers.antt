use Rattle.odata_parse.proofs.LiteralLemmas.{number_parses}
use Rattle.odata_parse.proofs.literal.number.Goals as goal

pub unwrap-requires : goal.unwrap-requires
unwrap-requires c = number_parses _ _ c.parse.ensures.value.0 c.requires
