-- The machine reads each continuation's tree back, and the roles of its front are those that it had read by then.
use Rattle.csv_grammar.proofs.Viable.{run-from_viable, viable-from_run}
use Rattle.csv_grammar.proofs.Structure.{read_roles, roles_read, read_are, front_are, whole_are, count_are, fit_are, roles_unique, separator_at, record_end_at}
use Rattle.csv_grammar.proofs.one_structure.Goals as goal

pub returns : goal.returns
returns c = record {
  one = roles_unique;
  some = λ bytes v. let read = run-from_viable bytes v in (read_roles read.0, read_are bytes read.0 read.1);
  viable = λ bytes roles are. let read = roles_read bytes roles are in viable-from_run bytes read.0 read.1;
  count = count_are;
  front = front_are;
  whole = whole_are;
  separators = λ bytes roles place are. separator_at bytes roles place (fit_are bytes roles are);
  record_ends = λ bytes roles place are. record_end_at bytes roles place (fit_are bytes roles are);
}
