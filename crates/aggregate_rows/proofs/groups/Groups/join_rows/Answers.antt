use Rattle.std.proofs.Common.{◌≡◌, ◌<◌, ◌≤◌, ◌^◌, ◌++◌, Some, Result, Ok, Err, arith, length, sym, subst, ◌∙◌}
use Rattle.std.specs.Prelude.{OnOk}
use Rattle.std.proofs.lemmas.List.Elements.{recursion_from_All}
use Rattle.row_columns.specs.Picked.{numbered}
use Rattle.aggregate_rows.specs.Table.{GroupsOf}
use Rattle.aggregate_rows.specs.Gathered.{keys_held, JoinsGroups, MayJoinGroups}
use Rattle.aggregate_rows.specs.Parts.{AreBegun, AreGroupsOf, ArePartsFrom}
use Rattle.aggregate_rows.proofs.BegunLemmas.{all_inside, as_many_found, may_join_parts, parts_joined}
use Rattle.aggregate_rows.proofs.PartLemmas.{within_parts}
use Rattle.aggregate_rows.proofs.groups.Groups.join_rows.Goals as goal

both_ok : {X E : Type 0} (r : Result X E) (P Q R : Type 0) → (P → Q → R) → OnOk r P → OnOk r Q → OnOk r R
both_ok (Ok x) P Q R f p q = f p q
both_ok (Err e) P Q R f p q = p

pub parts_of-requires-clause-long : goal.parts_of-requires-clause-long
parts_of-requires-clause-long c =
    let rows = c.args.columns.now.rows in
    let numbers = c.args.numbers.now in
    let found = c.in-Some.groups.items in
    let are : AreGroupsOf c.groups_of.new.self c.args.grouping.places.now (numbered numbers rows) found = rw c.in-Some.is at c.in_ok-groups.ensures.groups in
    rw c.deref.ensures.value (as_many_found c.groups_of.new.self c.args.grouping.places.now rows numbers found are)

pub parts_of-requires-clause-few : goal.parts_of-requires-clause-few
parts_of-requires-clause-few c = λ k d h.
    let few : length c.args.columns.now.rows ≤ 2 ^ 16 = rw c.in-Some.is at c.in_ok-groups.ensures.few in
    omega (arith, c.requires.within k d h, few)

pub parts_of-requires-clause-within : goal.parts_of-requires-clause-within
parts_of-requires-clause-within c =
    let rows = c.args.columns.now.rows in
    let numbers = c.args.numbers.now in
    let found = c.in-Some.groups.items in
    let are : AreGroupsOf c.groups_of.new.self c.args.grouping.places.now (numbered numbers rows) found = rw c.in-Some.is at c.in_ok-groups.ensures.groups in
    rw (c.deref.ensures.value, c.len.ensures) (all_inside c.groups_of.new.self c.args.grouping.places.now (numbered numbers rows) found are)

pub join_parts-requires-clause-within : goal.join_parts-requires-clause-within
join_parts-requires-clause-within c =
    let rows = c.args.columns.now.rows in
    let numbers = c.args.numbers.now in
    let found = c.in-Some.groups.items in
    let parts = c.in_ok-parts.parts.items in
    let from : ArePartsFrom 0 numbers found parts = rw c.deref.ensures.value at c.in_ok-parts.ensures.parts in
    within_parts (λ n. n < length rows) 0 numbers found parts from (recursion_from_All (λ n. n < length rows) numbers c.requires.within)

pub join_parts-requires-clause-joins : goal.join_parts-requires-clause-joins
join_parts-requires-clause-joins c =
    let places = c.args.grouping.places.now in
    let aggregates = c.args.grouping.aggregates.now in
    let rows = c.args.columns.now.rows in
    let numbers = c.args.numbers.now in
    let mid = c.groups_of.new.self in
    let found = c.in-Some.groups.items in
    let parts = c.in_ok-parts.parts.items in
    let are : AreGroupsOf mid places (numbered numbers rows) found = rw c.in-Some.is at c.in_ok-groups.ensures.groups in
    let may = c.requires.joins in
    let begun : AreBegun places aggregates mid may.rows (numbered numbers rows) = (rw c.in-Some.is at c.in_ok-groups.ensures.begun) may.rows may.has in
    let from : ArePartsFrom 0 numbers found parts = rw c.deref.ensures.value at c.in_ok-parts.ensures.parts in
    let long : length parts ≡ length mid.groups = c.in_ok-parts.ensures.long ∙ c.len.ensures in
    may_join_parts c.values_are_ordered.ensures.equal places aggregates may.rows rows numbers mid begun
    (c.rows_are_in_groups.ensures.distinct places (may.rows ++ numbered numbers rows)) found are parts long from (length c.args.columns.now.kinds) may.fits

pub returns-in-Some : goal.returns-in-Some
returns-in-Some c =
    let places = c.args.grouping.places.now in
    let aggregates = c.args.grouping.aggregates.now in
    let rows = c.args.columns.now.rows in
    let numbers = c.args.numbers.now in
    let mid = c.groups_of.new.self in
    let new = c.join_parts.new.self in
    let found = c.in-Some.groups.items in
    let parts = c.in_ok-parts.parts.items in
    let are : AreGroupsOf mid places (numbered numbers rows) found = rw c.in-Some.is at c.in_ok-groups.ensures.groups in
    let from : ArePartsFrom 0 numbers found parts = rw c.deref.ensures.value at c.in_ok-parts.ensures.parts in
    let long : length parts ≡ length mid.groups = c.in_ok-parts.ensures.long ∙ c.len.ensures in
    both_ok c.join_parts.result (new.shape ≡ mid.shape) (new.shape ≡ mid.shape → JoinsGroups (Some places) aggregates c.args.self.now new (numbered numbers rows)) _ (λ shape joined. joined shape)
    c.join_parts.ensures.shape
    (both_ok c.join_parts.result (keys_held new ≡ keys_held mid) _ _ (λ same joins shape before has. parts_joined c.values_are_ordered.ensures.equal places aggregates before rows numbers mid ((rw c.in-Some.is at c.in_ok-groups.ensures.begun) before has)
    (c.rows_are_in_groups.ensures.distinct places (before ++ numbered numbers rows)) found are parts long from new shape same joins)
    c.join_parts.ensures.keys c.join_parts.ensures.joins)

pub join_each_row-requires-clause-joins : goal.join_each_row-requires-clause-joins
join_each_row-requires-clause-joins c =
    subst (λ (mid : GroupsOf). MayJoinGroups (Some c.args.grouping.places.now) c.args.grouping.aggregates.now (length c.args.columns.now.kinds) mid
    (numbered c.args.numbers.now c.args.columns.now.rows)) (sym (c.in_ok-groups.ensures.none c.in_default.is)) c.requires.joins

pub returns : goal.returns
returns c =
    subst (λ (mid : GroupsOf). OnOk c.join_each_row.result (JoinsGroups (Some c.args.grouping.places.now) c.args.grouping.aggregates.now mid c.join_each_row.new.self
    (numbered c.args.numbers.now c.args.columns.now.rows))) (c.in_ok-groups.ensures.none c.in_default.is) c.join_each_row.ensures
