use Rattle.std.proofs.Common.{ℕ, List, ◌++◌, IfOk, subst}
use Rattle.schema_inference.specs.Looks.{IsLooking}
use Rattle.file_passes.proofs.LookLemmas.{some_given}
use Rattle.file_passes.proofs.looks.look_on.Goals as goal

pub returns-in_ok-feed : goal.returns-in_ok-feed
returns-in_ok-feed c =
    let had : (given : List ℕ) × IsLooking given c.in-Ok.look = subst (λ l. IfOk l (λ look. (given : List ℕ) × IsLooking given look)) c.in-Ok.is c.requires in
    some_given c.args.guesser.now.aims.limits (had.0 ++ c.as_slice.result.now) c.in_ok-feed.field-0 (c.in_ok-feed.ensures had.0 had.1)

pub returns-in_ok-feed-2 : goal.returns-in_ok-feed-2
returns-in_ok-feed-2 c =
    let had : (given : List ℕ) × IsLooking given c.in-Ok.look = subst (λ l. IfOk l (λ look. (given : List ℕ) × IsLooking given look)) c.in-Ok.is c.requires in
    some_given c.args.guesser.now.aims.limits (had.0 ++ c.args.out.now) c.in_ok-feed-2.field-0 (c.in_ok-feed-2.ensures had.0 had.1)
