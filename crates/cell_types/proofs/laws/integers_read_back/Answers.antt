use Rattle.cell_types.proofs.IntegerLemmas.{integer_of-signed_decimal, integer_of-only}
use Rattle.cell_types.proofs.laws.integers_read_back.Goals as goal

pub returns : goal.returns
returns c = record { back = integer_of-signed_decimal; only = integer_of-only }
