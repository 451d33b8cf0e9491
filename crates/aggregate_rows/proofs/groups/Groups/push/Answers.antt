use Rattle.std.proofs.Common.{◌≡◌, ◌*◌, map, ap, subst, ◌∙◌, arith, take}
use Rattle.std.proofs.Math.Seq.{take-length}
use Rattle.std.proofs.lemmas.Result.{on_ok_weaker}
use Rattle.cell_types.specs.Value.{value_view}
use Rattle.aggregate_rows.specs.Gathered.{IsPushed}
use Rattle.aggregate_rows.specs.Inside.{count_of, groups_view}
use Rattle.aggregate_rows.specs.Table.{GroupsOf}
use Rattle.aggregate_rows.specs.Tallies.{HasSetsMore}
use Rattle.aggregate_rows.proofs.ListLemmas.{front_of_front}
use Rattle.aggregate_rows.proofs.PushLemmas.{cut-front, either, grown-are, is-pushed, kept-are, values-pushed}
use Rattle.aggregate_rows.proofs.groups.Groups.push.Goals as goal

pub overflow_mul-end : goal.overflow_mul-end
overflow_mul-end c =
    let count : c.len-count.result ≡ count_of c.self.inside = c.len-count.ensures c.self.invariant.places.hashes c.self.invariant.places.are ∙ c.self.invariant.places.are.linked.long in
    rw count (omega (arith, c.self.invariant.values, c.are_few.ensures))

pub overflow_mul-set_end : goal.overflow_mul-set_end
overflow_mul-set_end c =
    let count : c.len-count.result ≡ count_of c.self.inside = c.len-count.ensures c.self.invariant.places.hashes c.self.invariant.places.are ∙ c.self.invariant.places.are.linked.long in
    rw count (omega (arith, c.self.invariant.sets, c.self.inside.sets.ok.0, c.self.inside.sets.small))

pub invariant_of-self : goal.invariant_of-self
invariant_of-self c =
    let g = c.self.inside in
    let are = c.self.invariant in
    let count : c.len-count.result ≡ count_of g = c.len-count.ensures are.places.hashes are.places.are ∙ are.places.are.linked.long in
    let cut = c.truncate.new.self in
    let sets = c.truncate-2.new.self.items in
    kept-are _ g are g.places are.places.are c.push_copies.new.values c.truncate-2.new.self
    (cut-front (count_of g * g.width) (c.len-count.result * g.width) g.values cut c.push_copies.new.values (ap (λ n. n * g.width) count) c.truncate.ensures are.values c.push_copies.ensures.front)
    (cut-front (count_of g * g.set_count) (c.len-count.result * g.set_count) g.sets.items sets sets (ap (λ n. n * g.set_count) count) c.truncate-2.ensures.items are.sets (take-length sets))

pub invariant_of-self-in_err-push_results : goal.invariant_of-self-in_err-push_results
invariant_of-self-in_err-push_results c =
    let g = c.self.inside in
    let are = c.self.invariant in
    let count : c.len-count.result ≡ count_of g = c.len-count.ensures are.places.hashes are.places.are ∙ are.places.are.linked.long in
    let cut = c.truncate.new.self in
    let copies = c.push_copies.new.values in
    let values = c.push_results.new.values in
    kept-are _ g are g.places are.places.are c.push_results.new.values c.push_results.new.sets
    (cut-front (count_of g * g.width) (c.len-count.result * g.width) g.values cut values (ap (λ n. n * g.width) count) c.truncate.ensures are.values
    (front_of_front cut copies values c.push_copies.ensures.front c.push_results.ensures.front))
    (cut-front (count_of g * g.set_count) (c.len-count.result * g.set_count) g.sets.items c.truncate-2.new.self.items c.push_results.new.sets.items (ap (λ n. n * g.set_count) count) c.truncate-2.ensures.items are.sets
    c.push_results.ensures.sets_front)

pub invariant_of-self-2 : goal.invariant_of-self-2
invariant_of-self-2 c =
    let g = c.self.inside in
    let are = c.self.invariant in
    let key = c.args.key.now in
    let count : c.len-count.result ≡ count_of g = c.len-count.ensures are.places.hashes are.places.are ∙ are.places.are.linked.long in
    let cut = c.truncate.new.self in
    let copies = c.push_copies.new.values in
    let values = c.push_results.new.values in
    let ends : c.len-count.result * g.set_count ≡ count_of g * g.set_count = ap (λ n. n * g.set_count) count in
    let more : HasSetsMore c.args.aggregates.now (take (count_of g * g.set_count) g.sets.items) c.push_results.new.sets.items =
    subst (λ old. HasSetsMore c.args.aggregates.now old c.push_results.new.sets.items) (c.truncate-2.ensures.items ∙ ap (λ k. take k g.sets.items) ends) c.in_ok-push_results.ensures.sets in
    either c.push.result _ _ _ c.push.ensures.pushed c.push.ensures.refused
    (λ placed. grown-are _ g are key c.args.aggregates.now (ap (λ (s : GroupsOf). s.shape) c.self.view_is ∙ c.requires.shape) c.push.new.self c.args.hash (placed are.places.hashes are.places.are)
    c.push_results.new.values c.push_results.new.sets
    (values-pushed (count_of g * g.width) (c.len-count.result * g.width) g.values cut copies values (map value_view key) _ (ap (λ n. n * g.width) count) c.truncate.ensures c.in_ok-push_copies.ensures.values
    c.in_ok-push_results.ensures.values) more c.values_compare_as_their_views.ensures.hash c.requires.hash)
    (λ placed. kept-are _ g are c.push.new.self (placed are.places.hashes are.places.are) c.push_results.new.values c.push_results.new.sets
    (cut-front (count_of g * g.width) (c.len-count.result * g.width) g.values cut values (ap (λ n. n * g.width) count) c.truncate.ensures are.values
    (front_of_front cut copies values c.push_copies.ensures.front c.push_results.ensures.front))
    (cut-front (count_of g * g.set_count) (c.len-count.result * g.set_count) g.sets.items c.truncate-2.new.self.items c.push_results.new.sets.items ends c.truncate-2.ensures.items are.sets c.push_results.ensures.sets_front))

pub returns-clause-groups : goal.returns-clause-groups
returns-clause-groups c =
    let g = c.self.inside in
    let are = c.self.invariant in
    let key = c.args.key.now in
    let count : c.len-count.result ≡ count_of g = c.len-count.ensures are.places.hashes are.places.are ∙ are.places.are.linked.long in
    let cut = c.truncate.new.self in
    let copies = c.push_copies.new.values in
    let values = c.push_results.new.values in
    let ends : c.len-count.result * g.set_count ≡ count_of g * g.set_count = ap (λ n. n * g.set_count) count in
    let more : HasSetsMore c.args.aggregates.now (take (count_of g * g.set_count) g.sets.items) c.push_results.new.sets.items =
    subst (λ old. HasSetsMore c.args.aggregates.now old c.push_results.new.sets.items) (c.truncate-2.ensures.items ∙ ap (λ k. take k g.sets.items) ends) c.in_ok-push_results.ensures.sets in
    on_ok_weaker c.push.result (λ placed. subst (λ (old : GroupsOf). IsPushed c.args.aggregates.now (map value_view key) old.groups (groups_view (record g { places = c.push.new.self; values = c.push_results.new.values; sets = c.push_results.new.sets })).groups) c.self.view_is
    (is-pushed _ g are key c.args.aggregates.now (ap (λ (s : GroupsOf). s.shape) c.self.view_is ∙ c.requires.shape) c.push.new.self c.args.hash (placed are.places.hashes are.places.are)
    c.push_results.new.values c.push_results.new.sets
    (values-pushed (count_of g * g.width) (c.len-count.result * g.width) g.values cut copies values (map value_view key) _ (ap (λ n. n * g.width) count) c.truncate.ensures c.in_ok-push_copies.ensures.values
    c.in_ok-push_results.ensures.values) more)) c.push.ensures.pushed
