-- The machine stands after a text as the text's carry says, and goes on at a byte exactly where the byte may follow.
use Rattle.std.proofs.Common.{refl}
use Rattle.csv_grammar.proofs.Machine.{initial}
use Rattle.csv_grammar.proofs.Viable.{viable-from_run, viable_front}
use Rattle.csv_grammar.proofs.Following.{byte_may, role_follows, fault_at, records_at_end, unfinished_at_end}
use Rattle.csv_grammar.proofs.what_follows.Goals as goal

pub returns : goal.returns
returns c = record {
  empty = viable-from_run _ initial refl;
  front = viable_front;
  byte = byte_may;
  role = role_follows;
  fault = fault_at;
  end = records_at_end;
  no_end = unfinished_at_end;
}
