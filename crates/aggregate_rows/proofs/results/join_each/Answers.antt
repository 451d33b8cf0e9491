use Rattle.std.proofs.Common.{◌≡◌, ◌<◌, ℕ, List, ◌++◌, ◌+◌, Some, None, get_or, length, refl, sym, subst, ap, ◌∙◌, arith}
use Rattle.std.specs.Prelude.{slice_set}
use Rattle.std.specs.List.{filter_map}
use Rattle.std.proofs.lemmas.List.{length-set, set-get_or, take_all}
use Rattle.std.proofs.lemmas.List.Elements.{All-from_recursion}
use Rattle.cell_types.specs.Value.{CellValue, null, value_view}
use Rattle.cell_types.specs.declared.value.Value.{Value}
use Rattle.odata_query.specs.declared.aggregate.Aggregate.TheVariants.{Count}
use Rattle.row_columns.specs.Picked.{numbered}
use Rattle.aggregate_rows.specs.declared.distinct.Distinct.{Distinct}
use Rattle.aggregate_rows.specs.Distinct.{distinct_place}
use Rattle.aggregate_rows.specs.Table.{cut_values, results_of, IsPartPut}
use Rattle.aggregate_rows.specs.Tallies.{FitsAll, HasResults, HasSet, JoinsSet, Tallies}
use Rattle.aggregate_rows.proofs.ListLemmas.{all_by, from_long, next_by, one_more_by, ZipFrom}
use Rattle.aggregate_rows.proofs.ResultLemmas.{its_result, no_set_more, piece_at, piece_set, put_more, put_none, result_joined, set_inside, set_is, set_more, set_place, sets_before, IsOf}
use Rattle.aggregate_rows.proofs.results.join_each.Goals as goal
use Rattle.aggregate_rows.proofs.results.join_each.Goals.{In-Some, Joined-distinct_place, in-Some+in_ok-count-in-Some+in_ok-set-in-Some+in-Text+in-Owned-1, in-Some+in_ok-count-in-Some+in_ok-set-in-Some+in-Text+in-Borrowed-1, in-Some+in_ok-count-in-Some+in_ok-set-in-Some+in-Null-1, in-None+in-Some-new+in_ok-set-in-None+in-Text+in-Owned-1, in-None+in-Some-new+in_ok-set-in-None+in-Text+in-Borrowed-1, in-None+in-Some-new+in_ok-set-in-None+in-Null-1, in-None+in_default}

set_within : (c : In-Some) → c.loop-i.set < length c.loop-i.sets
set_within c =
    let may = c.requires.joins in
    let aggregates = c.args.rows.aggregates.now in
    let more = numbered c.args.rows.numbers.now c.args.rows.columns.now.rows in
    let inside = set_inside aggregates c.loop-i.i c.loop-i-test.true c.in-Some.place (sym c.distinct_place.ensures ∙ c.in-Some.is) in
    let long = from_long (HasSet (may.rows ++ more)) (HasSet may.rows) (filter_map distinct_place aggregates) c.loop-i.sets c.loop-i.set (c.loop-i.invariant.sets may.rows may.has) in
    omega (arith, c.loop-i.invariant.set)

pub bounds-sets-set : goal.bounds-sets-set
bounds-sets-set c = set_within (goal.at.bounds-sets-set c).In-Some

pub offset_bounds-sets-set : goal.offset_bounds-sets-set
offset_bounds-sets-set c = let inside = set_within (goal.at.offset_bounds-sets-set c).In-Some in omega arith

pub overflow_add-set : goal.overflow_add-set
overflow_add-set c = let inside = set_within (goal.at.overflow_add-set c).In-Some in omega arith

pub joined_value-new-requires-clause-joins : goal.joined_value-new-requires-clause-joins
joined_value-new-requires-clause-joins c =
    let may = c.requires.joins in
    let aggregates = c.args.rows.aggregates.now in
    let more = numbered c.args.rows.numbers.now c.args.rows.columns.now.rows in
    let i = c.loop-i.i in
    let at = piece_at c.args.from (length aggregates) c.args.values.now c.loop-i.values i null c.requires.room c.loop-i-test.true c.loop-i.invariant.put in
    record {
      rows = may.rows;
      is = subst (IsOf may.rows (get_or aggregates i Count)) (sym at ∙ sym c.value.ensures)
          (its_result aggregates may.rows (may.rows ++ more) _ i (c.loop-i.invariant.results may.rows may.has) c.loop-i-test.true);
      fits = All-from_recursion (FitsAll (length c.args.rows.columns.now.kinds) (may.rows ++ more)) aggregates may.fits i Count c.loop-i-test.true;
    }

pub loop-i-init : goal.loop-i-init
loop-i-init c = record {
  set = cc;
  put = put_none c.args.from (length c.args.rows.aggregates.now) c.args.values.now;
  sets_long = cc;
  results = λ rows has. has.results;
  sets = λ rows has. has.sets;
}

-- what is kept of the rows once they joined one result more
abbrev Kept : (c : Joined-distinct_place) → List CellValue → List Distinct → ℕ → Type 0
Kept c vs ss n =
    let aggregates = c.args.rows.aggregates.now in
    let from = c.args.from in
    let more = numbered c.args.rows.numbers.now c.args.rows.columns.now.rows in
    let old = results_of (cut_values from (length aggregates) c.args.values.now) c.args.sets.now in
    record {
      set : n ≡ sets_before (c.loop-i.i + 1) aggregates;
      put : IsPartPut from (length aggregates) c.args.values.now vs;
      sets_long : length ss ≡ length c.args.sets.now;
      results : (rows : List (List CellValue)) → HasResults aggregates rows old → ZipFrom (IsOf (rows ++ more)) (IsOf rows) (c.loop-i.i + 1) aggregates (cut_values from (length aggregates) vs);
      sets : (rows : List (List CellValue)) → HasResults aggregates rows old → ZipFrom (HasSet (rows ++ more)) (HasSet rows) n (filter_map distinct_place aggregates) ss;
    }

-- the count of a set
set_joined : (c : Joined-distinct_place) (place : ℕ) → distinct_place (get_or c.args.rows.aggregates.now c.loop-i.i Count) ≡ Some place → (old new : Distinct) (v : Value)
    → JoinsSet place (get_or c.loop-i.sets c.loop-i.set old) new (numbered c.args.rows.numbers.now c.args.rows.columns.now.rows) v
    → Kept c (slice_set c.loop-i.values (c.args.from + c.loop-i.i) (value_view v)) (slice_set c.loop-i.sets c.loop-i.set new) (c.loop-i.set + 1)
set_joined c place some old new v joins =
    let aggregates = c.args.rows.aggregates.now in
    let n = length aggregates in
    let from = c.args.from in
    let more = numbered c.args.rows.numbers.now c.args.rows.columns.now.rows in
    let i = c.loop-i.i in
    let now = c.loop-i.values in
    let put = c.loop-i.invariant.put in
    let places = filter_map distinct_place aggregates in
    let set : c.loop-i.set < length places = rw (sym c.loop-i.invariant.set) at (set_inside aggregates i c.loop-i-test.true place some) in
    let is : get_or places c.loop-i.set 0 ≡ place = rw (sym c.loop-i.invariant.set) at (set_is aggregates i c.loop-i-test.true place some) in
    let joined = λ (rows : List (List CellValue)) (has : HasResults aggregates rows (results_of (cut_values from n c.args.values.now) c.args.sets.now)).
    joins rows (rw is at (next_by (HasSet (rows ++ more)) (HasSet rows) places c.loop-i.sets c.loop-i.set 0 old (c.loop-i.invariant.sets rows has) set)) in
    record {
      set = ap (λ k. k + 1) c.loop-i.invariant.set ∙ sym (set_more aggregates i c.loop-i-test.true place some);
      put = put_more from n c.args.values.now now i (value_view v) c.requires.room c.loop-i-test.true put;
      sets_long = length-set c.loop-i.sets c.loop-i.set _ ∙ c.loop-i.invariant.sets_long;
      results = λ rows has. rw (piece_set from n c.args.values.now now i (value_view v) c.requires.room c.loop-i-test.true put)
          (result_joined aggregates rows (rows ++ more) (cut_values from n now) i (c.loop-i.invariant.results rows has) c.loop-i-test.true (value_view v)
          (rw (set_place (get_or aggregates i Count) place some) (joined rows has).1));
      sets = λ rows has. one_more_by (HasSet (rows ++ more)) (HasSet rows) places c.loop-i.sets c.loop-i.set 0 new (c.loop-i.invariant.sets rows has) set (rw is (joined rows has).0);
    }

-- another result
value_joined : (c : Joined-distinct_place) → distinct_place (get_or c.args.rows.aggregates.now c.loop-i.i Count) ≡ None → (old v : CellValue) → old ≡ get_or c.loop-i.values (c.args.from + c.loop-i.i) null
    → Tallies (get_or c.args.rows.aggregates.now c.loop-i.i Count) old v (numbered c.args.rows.numbers.now c.args.rows.columns.now.rows)
    → Kept c (slice_set c.loop-i.values (c.args.from + c.loop-i.i) v) c.loop-i.sets c.loop-i.set
value_joined c none old v is tallies =
    let aggregates = c.args.rows.aggregates.now in
    let n = length aggregates in
    let from = c.args.from in
    let more = numbered c.args.rows.numbers.now c.args.rows.columns.now.rows in
    let i = c.loop-i.i in
    let now = c.loop-i.values in
    let put = c.loop-i.invariant.put in
    let at = piece_at from n c.args.values.now now i null c.requires.room c.loop-i-test.true put in
    record {
      set = c.loop-i.invariant.set ∙ sym (no_set_more aggregates i c.loop-i-test.true none);
      put = put_more from n c.args.values.now now i v c.requires.room c.loop-i-test.true put;
      sets_long = c.loop-i.invariant.sets_long;
      results = λ rows has.
          let zip = c.loop-i.invariant.results rows has in
          rw (piece_set from n c.args.values.now now i v c.requires.room c.loop-i-test.true put)
          (result_joined aggregates rows (rows ++ more) (cut_values from n now) i zip c.loop-i-test.true v
          (tallies rows (is ∙ at ∙ its_result aggregates rows (rows ++ more) (cut_values from n now) i zip c.loop-i-test.true)));
      sets = λ rows has. c.loop-i.invariant.sets rows has;
    }

pub loop-i-preserved : goal.loop-i-preserved
loop-i-preserved c =
    let now = c.loop-i.values in
    let place = c.args.from + c.loop-i.i in
    elim c.match-distinct_place.branch [
      | in-Some+in_ok-count-in-Some+in_ok-set-in-Some+in-Text+in-Owned-1 w ↦ rw (w.values-is, w.sets-is, w.set-is, w.in_ok-set-in-Some.ensures.set)
          (set_joined c w.in-Some.place (sym c.distinct_place.ensures ∙ w.in-Some.is) w.index-sets-set.result w.join_set.new.set w.in_ok-count-in-Some.count w.in_ok-count-in-Some.ensures)
      | in-Some+in_ok-count-in-Some+in_ok-set-in-Some+in-Text+in-Borrowed-1 w ↦ rw (w.values-is, w.sets-is, w.set-is, w.in_ok-set-in-Some.ensures.set)
          (set_joined c w.in-Some.place (sym c.distinct_place.ensures ∙ w.in-Some.is) w.index-sets-set.result w.join_set.new.set w.in_ok-count-in-Some.count w.in_ok-count-in-Some.ensures)
      | in-Some+in_ok-count-in-Some+in_ok-set-in-Some+in-Null-1 w ↦ rw (w.values-is, w.sets-is, w.set-is, w.in_ok-set-in-Some.ensures.set)
          (set_joined c w.in-Some.place (sym c.distinct_place.ensures ∙ w.in-Some.is) w.index-sets-set.result w.join_set.new.set w.in_ok-count-in-Some.count w.in_ok-count-in-Some.ensures)
      | in-None+in-Some-new+in_ok-set-in-None+in-Text+in-Owned-1 w ↦ rw (w.values-is, w.sets-is, w.set-is, w.in_ok-set-in-None.ensures.set)
          (value_joined c (sym c.distinct_place.ensures ∙ w.in-None.is) (value_view w.value.result) (value_view w.in-Some-new.new) w.value.ensures (rw w.in-Some-new.is at w.joined_value-new.ensures))
      | in-None+in-Some-new+in_ok-set-in-None+in-Text+in-Borrowed-1 w ↦ rw (w.values-is, w.sets-is, w.set-is, w.in_ok-set-in-None.ensures.set)
          (value_joined c (sym c.distinct_place.ensures ∙ w.in-None.is) (value_view w.value.result) (value_view w.in-Some-new.new) w.value.ensures (rw w.in-Some-new.is at w.joined_value-new.ensures))
      | in-None+in-Some-new+in_ok-set-in-None+in-Null-1 w ↦ rw (w.values-is, w.sets-is, w.set-is, w.in_ok-set-in-None.ensures.set)
          (value_joined c (sym c.distinct_place.ensures ∙ w.in-None.is) (value_view w.value.result) (value_view w.in-Some-new.new) w.value.ensures (rw w.in-Some-new.is at w.joined_value-new.ensures))
      | in-None+in_default w ↦ rw (w.values-is, w.sets-is, w.set-is) (subst (λ vs. Kept c vs c.loop-i.sets c.loop-i.set) (set-get_or now place null)
          (value_joined c (sym c.distinct_place.ensures ∙ w.in-None.is) (get_or now place null) (get_or now place null) refl
          (rw (w.in_default.is, w.value.ensures) at w.joined_value-new.ensures)))
    ]

pub returns-clause-joins : goal.returns-clause-joins
returns-clause-joins c = λ rows has.
    let aggregates = c.args.rows.aggregates.now in
    let more = numbered c.args.rows.numbers.now c.args.rows.columns.now.rows in
    record {
      results = all_by (IsOf (rows ++ more)) (IsOf rows) aggregates _ c.loop-i.i (c.loop-i.invariant.results rows has) c.loop-i-test.false;
      sets = all_by (HasSet (rows ++ more)) (HasSet rows) (filter_map distinct_place aggregates) _ c.loop-i.set (c.loop-i.invariant.sets rows has)
          (omega (arith, c.loop-i.invariant.set, ap (λ xs. length (filter_map distinct_place xs)) (take_all c.loop-i.i aggregates c.loop-i-test.false)));
    }
