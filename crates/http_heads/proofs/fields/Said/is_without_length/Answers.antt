use Rattle.std.proofs.Common.{ap}
use Rattle.http_heads.specs.declared.fields.Said.{Said}
use Rattle.http_heads.specs.Fields.{has_no_length}
use Rattle.http_heads.proofs.fields.Said.is_without_length.Goals as goal

pub returns : goal.returns
unfolding has_no_length
returns c = λ head said. ap (λ (s : Said). s.is_bodiless) said
