use Rattle.std.proofs.Common.{◌≡◌, ◌<◌, ◌++◌, ◌∷◌, [], get_or, length, map, take, sym, ap, ◌∙◌, arith}
use Rattle.std.specs.Prelude.{slice_index_or}
use Rattle.std.proofs.lemmas.List.Elements.{All-from_recursion}
use Rattle.std.proofs.lemmas.List.{length-map}
use Rattle.cell_types.specs.Value.{value_view}
use Rattle.query_meaning.specs.Apply.{values_at}
use Rattle.aggregate_rows.specs.Table.{shape_of}
use Rattle.row_columns.specs.Picked.{numbered}
use Rattle.aggregate_rows.proofs.GatheredLemmas.{one_row_fits, one_row_more}
use Rattle.aggregate_rows.proofs.JoinLemmas.{may_join, row_joined}
use Rattle.aggregate_rows.proofs.groups.Groups.join_each_row.Goals as goal

pub join_group-requires-clause-within : goal.join_group-requires-clause-within
join_group-requires-clause-within c =
    let rows = c.args.columns.now.rows in
    let i = c.loop-i.i in
    let low : get_or c.args.numbers.now i 0 < length rows = c.requires.within i 0 (omega (arith, c.loop-i-test.true, c.len-i-end.ensures)) in
    rw (c.one.ensures, c.at-number.ensures) (All-from_recursion (λ n. n < length rows) (get_or c.args.numbers.now i 0 ∷ []) (low, tt))

pub join_group-requires-clause-joins : goal.join_group-requires-clause-joins
join_group-requires-clause-joins c =
    let aggregates = c.args.grouping.aggregates.now in
    let rows = c.args.columns.now.rows in
    let numbers = c.args.numbers.now in
    let i = c.loop-i.i in
    let row = slice_index_or rows (get_or numbers i 0) [] in
    let key : map value_view c.deref.result.now ≡ values_at c.args.grouping.places.now row = ap (map value_view) c.deref.ensures.value ∙ (rw c.at-number.ensures at c.in_ok-read_key.ensures) in
    let may = c.requires.joins in
    let some = may.rows ++ numbered (take i numbers) rows in
    rw (c.one.ensures, c.at-number.ensures)
    (may_join c.values_are_ordered.ensures.equal c.args.grouping.places.now aggregates some row c.loop-i.self c.group_of.new.self (c.loop-i.invariant may.rows may.has) c.in_ok-place.place _ key
    c.in_ok-place.ensures.group c.in_ok-place.ensures.more (length c.args.columns.now.kinds)
    (one_row_fits (length c.args.columns.now.kinds) may.rows rows numbers i aggregates (omega (arith, c.loop-i-test.true, c.len-i-end.ensures)) may.fits))

pub group_of-requires : goal.group_of-requires
group_of-requires c =
    let may = c.requires.joins in
    let places = c.args.grouping.places.now in
    let key = c.read_key.new.key.items in
    let long : length places ≡ length c.deref.result.now = sym (length-map places _) ∙ sym (ap length c.in_ok-read_key.ensures) ∙ length-map key value_view ∙ sym (ap length c.deref.ensures.value) in
    (c.loop-i.invariant may.rows may.has).shape_is ∙ ap (λ n. shape_of n c.args.grouping.aggregates.now) long

pub loop-i-preserved : goal.loop-i-preserved
loop-i-preserved c = λ before has.
    let places = c.args.grouping.places.now in
    let rows = c.args.columns.now.rows in
    let numbers = c.args.numbers.now in
    let i = c.loop-i.i in
    let row = slice_index_or rows (get_or numbers i 0) [] in
    let key : map value_view c.deref.result.now ≡ values_at places row = ap (map value_view) c.deref.ensures.value ∙ (rw c.at-number.ensures at c.in_ok-read_key.ensures) in
    let some = before ++ numbered (take i numbers) rows in
    row_joined c.values_are_ordered.ensures.equal places c.args.grouping.aggregates.now some row c.loop-i.self c.group_of.new.self (c.loop-i.invariant before has) c.in_ok-place.place _ key
    c.in_ok-place.ensures.group c.in_ok-place.ensures.more c.join_group.new.self _
    (one_row_more before rows numbers i (omega (arith, c.loop-i-test.true, c.len-i-end.ensures))) (c.rows_are_in_groups.ensures.distinct places (some ++ row ∷ []))
    (rw (c.one.ensures, c.at-number.ensures) at c.in_ok-join_group.ensures)
