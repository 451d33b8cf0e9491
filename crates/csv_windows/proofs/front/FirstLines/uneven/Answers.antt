use Rattle.std.proofs.Common.{◌≡◌, ◌+◌, ◌++◌, subst, arith}
use Rattle.csv_index.specs.Fault.{text_cause}
use Rattle.csv_index.specs.declared.fault.TextFault.TheVariants.{Width}
use Rattle.csv_windows.specs.Windows.{FollowsFault}
use Rattle.csv_windows.proofs.FaultLemmas.{sized_uneven, lasting_is, uneven_faulty, uneven_size}
use Rattle.csv_windows.proofs.front.FirstLines.uneven.Goals as goal

pub overflow_add-result : goal.overflow_add-result
overflow_add-result c =
    let r = c.requires in
    let f = subst (λ k. FollowsFault r.0 r.1 k (Width c.args.row)) c.in-Table.is r.2 in
    let bad = sized_uneven c.in_windows.ensures r.0 r.1 c.args.row f.follows.read.0 c.in-Table.size f.follows.read.1 f.follows.read.2 f.follows.ends f.is in
    omega (arith, uneven_size r.0 r.1 c.in-Table.size.rows c.args.row bad f.follows.short)

pub returns-in-Table-clause-is : goal.returns-in-Table-clause-is
returns-in-Table-clause-is c = λ front piece follows.
    let f = subst (λ k. FollowsFault front piece k (Width c.args.row)) c.in-Table.is follows in
    sized_uneven c.in_windows.ensures front piece c.args.row f.follows.read.0 c.in-Table.size f.follows.read.1 f.follows.read.2 f.follows.ends f.is

pub returns-in-Faulty-clause-is : goal.returns-in-Faulty-clause-is
returns-in-Faulty-clause-is c = λ front piece follows.
    let f = subst (λ k. FollowsFault front piece k (Width c.args.row)) c.in-Faulty.is follows in
    lasting_is (front ++ piece) (text_cause c.in-Faulty.first) (uneven_faulty c.in_windows.ensures front piece c.args.row c.in-Faulty.first f)
