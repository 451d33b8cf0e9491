use Rattle.value_forms.proofs.RoundingLemmas.{half_is_even, is_near}
use Rattle.value_forms.proofs.laws.rounds_half_to_even.Goals as goal

pub returns : goal.returns
returns c = record {
  above = λ parts one some. (is_near parts one some).0;
  below = λ parts one some. (is_near parts one some).1;
  even = half_is_even;
}
