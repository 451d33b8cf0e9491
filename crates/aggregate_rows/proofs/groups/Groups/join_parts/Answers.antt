use Rattle.std.proofs.Common.{◌≡◌, ◌<◌, ◌++◌, ◌∷◌, ℕ, [], Vec, Global, length, refl, sym, rules, subst, ◌∙◌, arith}
use Rattle.std.specs.List.{All}
use Rattle.std.proofs.lemmas.Iterator.Adapters.{YieldsList-from_vec}
use Rattle.std.proofs.lemmas.Iterator.Consumers.{YieldsList-end, YieldsList-turn}
use Rattle.std.proofs.lemmas.List.{length-append}
use Rattle.std.proofs.lemmas.List.Elements.{All-from_recursion}
use Rattle.row_columns.specs.Picked.{numbered}
use Rattle.aggregate_rows.specs.Gathered.{JoinsGroup}
use Rattle.aggregate_rows.specs.Tallies.{HasResults}
use Rattle.aggregate_rows.proofs.JoinLemmas.{keys_same}
use Rattle.aggregate_rows.proofs.ListLemmas.{all_by, zip_long}
use Rattle.aggregate_rows.proofs.PartLemmas.{part_joined, part_may_join}
use Rattle.aggregate_rows.proofs.groups.Groups.join_parts.Goals as goal

pub join_group-requires-clause-within : goal.join_group-requires-clause-within
join_group-requires-clause-within c =
    let rows = c.args.columns.now.rows in
    let at = rw (← c.loop-part.invariant.turn) at (YieldsList-turn (YieldsList-from_vec {s = c.into_iter-part-iterator.result} c.args.parts.items (search rules) (search rules)) c.loop-part.yielded
    c.loop-part.part-iterator c.loop-part.yielded_by c.next.result c.next.new.self c.in-Some.part c.in-Some.is c.next.ensures.steps) in
    rw c.few.ensures (subst (λ (p : Vec ℕ Global). All (λ number. number < length rows) p.items) (sym at.1)
    (All-from_recursion (λ (p : Vec ℕ Global). All (λ number. number < length rows) p.items) c.args.parts.items c.requires.within c.loop-part.place c.in-Some.part at.0))

pub join_group-requires-clause-joins : goal.join_group-requires-clause-joins
join_group-requires-clause-joins c =
    let may = c.requires.joins in
    let at = rw (← c.loop-part.invariant.turn) at (YieldsList-turn (YieldsList-from_vec {s = c.into_iter-part-iterator.result} c.args.parts.items (search rules) (search rules)) c.loop-part.yielded
    c.loop-part.part-iterator c.loop-part.yielded_by c.next.result c.next.new.self c.in-Some.part c.in-Some.is c.next.ensures.steps) in
    rw c.few.ensures
    (part_may_join c.args.aggregates.now c.args.columns.now.rows c.args.parts.items may.keys may.before may.more c.loop-part.self.groups c.loop-part.place c.in-Some.part at.0 at.1 may.parts_are
    (c.loop-part.invariant.joined may.keys may.before may.more may.have may.parts_are) c.loop-part.self (length c.args.columns.now.kinds) refl may.fits)

pub loop-part-preserved : goal.loop-part-preserved
loop-part-preserved c =
    let at = rw (← c.loop-part.invariant.turn) at (YieldsList-turn (YieldsList-from_vec {s = c.into_iter-part-iterator.result} c.args.parts.items (search rules) (search rules)) c.loop-part.yielded
    c.loop-part.part-iterator c.loop-part.yielded_by c.next.result c.next.new.self c.in-Some.part c.in-Some.is c.next.ensures.steps) in
    let joined : JoinsGroup c.args.aggregates.now c.loop-part.self c.join_group.new.self c.loop-part.place (numbered c.in-Some.part.items c.args.columns.now.rows) = rw c.few.ensures at c.in_ok-join_group.ensures in
    record {
      turn = omega (arith, c.loop-part.invariant.turn, length-append c.loop-part.yielded (c.in-Some.part ∷ []));
      shape = c.in_ok-join_group.ensures.shape ∙ c.loop-part.invariant.shape;
      keys = keys_same c.args.aggregates.now c.loop-part.self c.join_group.new.self c.loop-part.place _ joined ∙ c.loop-part.invariant.keys;
      joined = λ keys before more have parts_are.
          part_joined c.args.aggregates.now c.args.columns.now.rows c.args.parts.items keys before more c.loop-part.self.groups c.loop-part.place c.in-Some.part at.0 at.1 parts_are
          (c.loop-part.invariant.joined keys before more have parts_are) c.loop-part.self c.join_group.new.self refl joined;
    }

pub loop-part-preserved-in_ok-join_group : goal.loop-part-preserved-in_ok-join_group
loop-part-preserved-in_ok-join_group c =
    let at = rw (← c.loop-part.invariant.turn) at (YieldsList-turn (YieldsList-from_vec {s = c.into_iter-part-iterator.result} c.args.parts.items (search rules) (search rules)) c.loop-part.yielded
    c.loop-part.part-iterator c.loop-part.yielded_by c.next.result c.next.new.self c.in-Some.part c.in-Some.is c.next.ensures.steps) in
    let joined : JoinsGroup c.args.aggregates.now c.loop-part.self c.join_group.new.self c.loop-part.place (numbered c.in-Some.part.items c.args.columns.now.rows) = rw c.few.ensures at c.in_ok-join_group.ensures in
    record {
      turn = omega (arith, c.loop-part.invariant.turn, length-append c.loop-part.yielded (c.in-Some.part ∷ []));
      shape = c.in_ok-join_group.ensures.shape ∙ c.loop-part.invariant.shape;
      keys = keys_same c.args.aggregates.now c.loop-part.self c.join_group.new.self c.loop-part.place _ joined ∙ c.loop-part.invariant.keys;
      joined = λ keys before more have parts_are.
          part_joined c.args.aggregates.now c.args.columns.now.rows c.args.parts.items keys before more c.loop-part.self.groups c.loop-part.place c.in-Some.part at.0 at.1 parts_are
          (c.loop-part.invariant.joined keys before more have parts_are) c.loop-part.self c.join_group.new.self refl joined;
    }

pub returns-clause-joins : goal.returns-clause-joins
returns-clause-joins c = λ keys before more have parts_are.
    let parts = zip_long (λ key part. numbered part.items c.args.columns.now.rows ≡ more key) keys c.args.parts.items parts_are in
    all_by (λ key group. HasResults c.args.aggregates.now (before key ++ more key) group) (λ key group. HasResults c.args.aggregates.now (before key) group) keys c.loop-part.self.groups c.loop-part.place
    (c.loop-part.invariant.joined keys before more have parts_are) (omega (arith, c.loop-part.invariant.turn, (YieldsList-end (YieldsList-from_vec {s = c.into_iter-part-iterator.result} c.args.parts.items (search rules) (search rules)) c.loop-part.yielded c.loop-part.part-iterator c.loop-part.yielded_by c.next.result c.next.new.self c.in-None.is c.next.ensures.steps).1, parts))
