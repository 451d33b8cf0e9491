use Rattle.std.proofs.Common.{ap}
use Rattle.http_heads.specs.declared.fields.Said.{Said}
use Rattle.http_heads.specs.Fields.{has_coding}
use Rattle.http_heads.proofs.fields.Said.is_coded.Goals as goal

pub returns : goal.returns
unfolding has_coding
returns c = λ head said. ap (λ (s : Said). s.is_coded) said
