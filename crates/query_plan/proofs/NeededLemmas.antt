-- The blocks that the plan of a query needs are those that the query needs.
use Rattle.std.proofs.Common.{◌≡◌, ℕ, zero, suc, ◌+◌, ◌-◌, ◌^◌, ◌<◌, ◌≤◌, Bool, true, false, ◌&&◌, cond, eqb, Option, Some, None, List, [], ◌∷◌, ◌++◌, length, inl, inr, refl, sym, ap, ◌∙◌, subst, arith}
use Rattle.std.specs.Prelude.{◌⊎◌, count_by, filter, nat_lt, not, option_map}
use Rattle.std.specs.List.{All, AllByRecursion, filter_map, flat_map, list_all, list_any, range_with_len}
use Rattle.std.proofs.lemmas.Bool.{cases_Bool}
use Rattle.std.proofs.lemmas.Bool.Decides.{nat_tests}
use Rattle.std.proofs.lemmas.List.{length-append}
use Rattle.std.proofs.lemmas.List.Elements.{All-filter, All-from_recursion, filter_agree, recursion_from_All}
use Rattle.std.proofs.lemmas.List.FromFn.{length-range_with_len}
use Rattle.std.proofs.lemmas.List.Sums.{count_by-le-length, length-filter}
use Rattle.std.proofs.Math.Bool.{and-true, and-false}
use Rattle.block_summary.specs.Blocks.{block_at, block_count}
use Rattle.cell_types.specs.Value.{CellValue}
use Rattle.typed_trees.specs.CanFault.{truth_can_fault}
use Rattle.typed_trees.specs.TypedTree.{TruthExprOf}
use Rattle.odata_query.specs.Aggregate.{TypedTransformationOf, aggregate_rows, filter_rows, group_rows}
use Rattle.odata_query.specs.Query.{TypedOf}
use Rattle.cell_types.proofs.ListLaws.{length-filter-le}
use Rattle.query_plan.specs.Laws.{NeededBlocksAreRead, PlansNeedBlocks}
use Rattle.query_plan.specs.Needed.{conditions_can_fault, conditions_before, gives_first_rows, is_filter, last_row, row_conditions}
use Rattle.query_meaning.specs.Order.{Item}
use Rattle.query_plan.specs.Plan.{NodeOf, PlanOf, apply_nodes, asked_slice, count_nodes, filter_nodes, leading, naive_plan, needed, order_nodes, select_nodes, slice_nodes}
use Rattle.query_plan.specs.Push.{conjuncts, early_stop, pushed, pushed_down, rewritten, room_of, split_nodes}
use Rattle.query_plan.specs.Scan.{admits_all, admitted_blocks, block_numbers, reached, read_blocks, rows_of_blocks, up_to}
use Rattle.query_meaning.specs.Filter.{passes_each}
use Rattle.query_plan.specs.Tests.{test_of}
use Rattle.query_plan.proofs.MeaningLemmas.{last_nodes}
use Rattle.query_plan.proofs.PushLemmas.{leading-split, passes-split}
use Rattle.query_plan.proofs.RewriteLemmas.{leading_best}
use Rattle.query_plan.proofs.ScanLemmas.{all_rows, few_admitted}
use Rattle.query_plan.proofs.TypedQueryLemmas.{none_last}

abbrev Row : Type 0
Row = List CellValue

-- ---- other conditions that are true on the same rows

same_count : (es fs : List TruthExprOf) → ((row : Row) → passes_each es row ≡ passes_each fs row) → (rows : List Row)
    → count_by (passes_each es) rows ≡ count_by (passes_each fs) rows
same_count es fs same rows =
    sym (length-filter (passes_each es) rows) ∙ ap length (filter_agree (passes_each es) (passes_each fs) same rows) ∙ length-filter (passes_each fs) rows

same_reached : (es fs : List TruthExprOf) → ((row : Row) → passes_each es row ≡ passes_each fs row) → (room : ℕ) (rows : List Row) (numbers : List ℕ)
    → reached es room rows numbers ≡ reached fs room rows numbers
same_reached es fs same room rows [] = refl
same_reached es fs same room rows (n ∷ ns) =
    ap (λ (k : ℕ). cond (eqb room 0) [] (n ∷ reached es (room - k) rows ns)) (same_count es fs same (block_at rows n))
    ∙ ap (λ (ms : List ℕ). cond (eqb room 0) [] (n ∷ ms)) (same_reached es fs same (room - count_by (passes_each fs) (block_at rows n)) rows ns)

same_conditions : (es fs : List TruthExprOf) → ((row : Row) → passes_each es row ≡ passes_each fs row) → (stop : Option ℕ) (rows : List Row) (numbers : List ℕ)
    → up_to stop es rows numbers ≡ up_to stop fs rows numbers
same_conditions es fs same None rows numbers = refl
same_conditions es fs same (Some room) rows numbers = same_reached es fs same room rows numbers

-- ---- a stop after all rows

all_reached : (es : List TruthExprOf) (room : ℕ) (rows : List Row) (numbers : List ℕ) → length (rows_of_blocks rows numbers) < room → reached es room rows numbers ≡ numbers
all_reached es room rows [] h = refl
all_reached es room rows (n ∷ ns) h =
    let block = block_at rows n in
    let k = count_by (passes_each es) block in
    let whole = length-append block (rows_of_blocks rows ns) in
    let some : eqb room 0 ≡ false = grind (arith, nat_tests, h) in
    let rest : length (rows_of_blocks rows ns) < room - k = omega (arith, h, whole, count_by-le-length (passes_each es) block) in
    rw some (ap (λ (ms : List ℕ). n ∷ ms) (all_reached es (room - k) rows ns rest))

-- ---- the stop of a query

-- a stop after all rows
abbrev IsBeyond : Option ℕ → Type 0
IsBeyond None = ⊥
IsBeyond (Some room) = 2 ^ 64 ≤ room

-- the two stops are one, or the second is after all rows, where the first is none
abbrev AreLike : Option ℕ → Option ℕ → Type 0
AreLike o p = (o ≡ p) ⊎ ((o ≡ None) × IsBeyond p)

beyond_read : (p : Option ℕ) → IsBeyond p → (es : List TruthExprOf) (rows : List Row) (numbers : List ℕ) → length (rows_of_blocks rows numbers) < 2 ^ 64
    → up_to p es rows numbers ≡ numbers
beyond_read None is es rows numbers h = absurd is
beyond_read (Some room) is es rows numbers h = all_reached es room rows numbers (omega (arith, h, is))

alike_read : (o p : Option ℕ) → AreLike o p → (es : List TruthExprOf) (rows : List Row) (numbers : List ℕ) → length (rows_of_blocks rows numbers) < 2 ^ 64
    → up_to o es rows numbers ≡ up_to p es rows numbers
alike_read o p (inl e) es rows numbers h = ap (λ (x : Option ℕ). up_to x es rows numbers) e
alike_read o p (inr e) es rows numbers h = ap (λ (x : Option ℕ). up_to x es rows numbers) e.0 ∙ sym (beyond_read p e.1 es rows numbers h)

needed_when : (b : Bool) (n : ℕ) → nat_lt n (2 ^ 64) ≡ b → AreLike (cond b (Some n) None) (Some n)
needed_when true n e = inl refl
needed_when false n e = inr (refl, grind (arith, nat_tests, e))

room_is : (skip : ℕ) (top : Option ℕ) → AreLike (room_of skip top false) (option_map (last_row skip) top)
room_is skip None = inl refl
room_is skip (Some zero) = inl refl
room_is skip (Some (suc top)) = needed_when (nat_lt (skip + suc top) (2 ^ 64)) (skip + suc top) refl

no_room : (skip : ℕ) (top : Option ℕ) → room_of skip top true ≡ None
no_room skip None = refl
no_room skip (Some zero) = refl
no_room skip (Some (suc top)) = refl

stop_selected : (o : Option (List ℕ)) → early_stop (select_nodes o) ≡ None
stop_selected None = refl
stop_selected (Some places) = refl

abbrev stop_when : Bool → ℕ → Option ℕ → Option ℕ
stop_when b skip top = cond b (option_map (last_row skip) top) None

stop_of_piece : (skip : ℕ) (top : Option ℕ) (count : Bool) (select : Option (List ℕ))
    → AreLike (early_stop (slice_nodes (record { skip = skip; top = top; counts = count }) ++ select_nodes select)) (stop_when (not count) skip top)
stop_of_piece zero None false select = rw (stop_selected select) (inl refl)
stop_of_piece zero None true select = inl refl
stop_of_piece zero (Some top) true select = rw (no_room zero (Some top)) (inl refl)
stop_of_piece zero (Some top) false select = room_is zero (Some top)
stop_of_piece (suc skip) None true select = inl refl
stop_of_piece (suc skip) None false select = inl refl
stop_of_piece (suc skip) (Some top) true select = rw (no_room (suc skip) (Some top)) (inl refl)
stop_of_piece (suc skip) (Some top) false select = room_is (suc skip) (Some top)

stop_of_last : (q : TypedOf) (order : List Item) (b : Bool)
    → AreLike (early_stop (cond b count_nodes (order_nodes order ++ slice_nodes (asked_slice q) ++ select_nodes q.select)))
    (stop_when (not b && not q.count && eqb (length order) 0) q.skip q.top)
stop_of_last q order true = inl refl
stop_of_last q (item ∷ items) false =
    let some : eqb (length (item ∷ items)) 0 ≡ false = grind (arith, nat_tests) in
    rw some (rw (and-false (not q.count)) (inl refl))
stop_of_last q [] false =
    subst (λ (b : Bool). AreLike (early_stop (slice_nodes (asked_slice q) ++ select_nodes q.select)) (stop_when b q.skip q.top)) (sym (and-true (not q.count)))
    (stop_of_piece q.skip q.top q.count q.select)

-- ---- the steps of a query

-- after the filters that come first
stop_of_steps : (ts : List TypedTransformationOf) (filter : Option TruthExprOf) (ns : List NodeOf)
    → early_stop (apply_nodes ts ++ filter_nodes filter ++ ns) ≡ cond (list_all is_filter ts) (early_stop ns) None
stop_of_steps [] None ns = refl
stop_of_steps [] (Some e) ns = refl
stop_of_steps (filter_rows e ∷ ts) filter ns = stop_of_steps ts filter ns
stop_of_steps (aggregate_rows aggregates ∷ ts) filter ns = refl
stop_of_steps (group_rows places aggregates ∷ ts) filter ns = refl

leading_steps : (ts : List TypedTransformationOf) (filter : Option TruthExprOf) (ns : List NodeOf) → leading ns ≡ []
    → leading (apply_nodes ts ++ filter_nodes filter ++ ns) ≡ conditions_before ts filter
leading_steps [] None ns e = e
leading_steps [] (Some f) ns e = ap (λ (es : List TruthExprOf). f ∷ es) e
leading_steps (filter_rows f ∷ ts) filter ns e = ap (λ (es : List TruthExprOf). f ∷ es) (leading_steps ts filter ns e)
leading_steps (aggregate_rows aggregates ∷ ts) filter ns e = refl
leading_steps (group_rows places aggregates ∷ ts) filter ns e = refl

leading_naive : (q : TypedOf) → leading (naive_plan q).nodes ≡ row_conditions q
leading_naive q = leading_steps q.apply q.filter (last_nodes q.counting q) (none_last q.counting q)

stop_where : (filters : Bool) (o : Option ℕ) (a b c : Bool) (skip : ℕ) (top : Option ℕ) → AreLike o (stop_when (a && b && c) skip top)
    → AreLike (cond filters o None) (stop_when (a && b && c && filters) skip top)
stop_where true o true true true skip top h = h
stop_where true o true true false skip top h = h
stop_where true o true false c skip top h = h
stop_where true o false b c skip top h = h
stop_where false o true true true skip top h = inl refl
stop_where false o true true false skip top h = inl refl
stop_where false o true false c skip top h = inl refl
stop_where false o false b c skip top h = inl refl

stop_alike : (q : TypedOf) → AreLike (early_stop (naive_plan q).nodes) (stop_when (gives_first_rows q) q.skip q.top)
stop_alike q =
    subst (λ (o : Option ℕ). AreLike o (stop_when (gives_first_rows q) q.skip q.top)) (sym (stop_of_steps q.apply q.filter (last_nodes q.counting q)))
    (stop_where (list_all is_filter q.apply) (early_stop (last_nodes q.counting q)) (not q.counting) (not q.count) (eqb (length q.order) 0) q.skip q.top
    (stop_of_last q q.order q.counting))

-- ---- the whole

-- what a rewritten plan needs by its filters that come first
needs_pushed : (p : PlanOf) (rows : List Row) → needed (rewritten p) rows ≡ needed (pushed p) rows
needs_pushed p rows =
    ap (λ (es : List TruthExprOf). read_blocks (pushed p).scan es rows) (leading_best (pushed p).nodes)

few_rows : (ok : ℕ → Bool) (rows : List Row) → length rows < 2 ^ 64 → length (rows_of_blocks rows (filter ok (block_numbers rows))) < 2 ^ 64
few_rows ok rows h =
    let few = few_admitted rows ok (block_numbers rows) in
    let whole : length (rows_of_blocks rows (block_numbers rows)) ≡ length rows = ap length (all_rows rows) in
    omega (arith, few, whole, h)

abbrev stop_if : TypedOf → Bool → Option ℕ
stop_if q faulty = cond (gives_first_rows q && not faulty) (option_map (last_row q.skip) q.top) None

needs_when : (q : TypedOf) (rows : List Row) → length rows < 2 ^ 64 → (faulty : Bool)
    → needed (cond (not faulty) (pushed_down (naive_plan q)) (naive_plan q)) rows
    ≡ up_to (stop_if q faulty) (row_conditions q) rows (admitted_blocks (cond faulty [] (filter_map test_of (flat_map conjuncts (row_conditions q)))) rows)
needs_when q rows h true =
    ap (λ (b : Bool). up_to (cond b (option_map (last_row q.skip) q.top) None) (row_conditions q) rows (admitted_blocks [] rows)) (sym (and-false (gives_first_rows q)))
needs_when q rows h false =
    let p = naive_plan q in
    let es = row_conditions q in
    let split = leading (split_nodes p.nodes) in
    let conjoined = flat_map conjuncts es in
    let same_split : split ≡ conjoined = leading-split p.nodes ∙ ap (flat_map conjuncts) (leading_naive q) in
    let blocks = admitted_blocks (filter_map test_of conjoined) rows in
    ap (λ (fs : List TruthExprOf). up_to (early_stop p.nodes) fs rows (admitted_blocks (filter_map test_of fs) rows)) same_split
    ∙ same_conditions conjoined es (λ row. passes-split row es) (early_stop p.nodes) rows blocks
    ∙ alike_read (early_stop p.nodes) (stop_when (gives_first_rows q) q.skip q.top) (stop_alike q) es rows blocks
    (few_rows (λ number. admits_all (filter_map test_of conjoined) (block_at rows number)) rows h)
    ∙ ap (λ (b : Bool). up_to (stop_when b q.skip q.top) es rows blocks) (sym (and-true (gives_first_rows q)))

pub needed_blocks_are_read : NeededBlocksAreRead
needed_blocks_are_read q rows h =
    let p = naive_plan q in
    needs_pushed p rows
    ∙ ap (λ (es : List TruthExprOf). needed (cond (not (list_any truth_can_fault es)) (pushed_down p) p) rows) (leading_naive q)
    ∙ needs_when q rows h (conditions_can_fault q)

-- ---- blocks of the table

reached_few : (es : List TruthExprOf) (room : ℕ) (rows : List Row) (numbers : List ℕ) → length (reached es room rows numbers) ≤ length numbers
reached_few es room rows [] = omega arith
reached_few es room rows (n ∷ ns) =
    let few = reached_few es (room - count_by (passes_each es) (block_at rows n)) rows ns in
    elim (cases_Bool (eqb room 0)) [ inl e ↦ rw e (omega arith) | inr e ↦ rw e (omega (arith, few)) ]

up_to_few : (stop : Option ℕ) (es : List TruthExprOf) (rows : List Row) (numbers : List ℕ) → length (up_to stop es rows numbers) ≤ length numbers
up_to_few None es rows numbers = omega arith
up_to_few (Some room) es rows numbers = reached_few es room rows numbers

pub reached_each : (P : ℕ → Type 0) (es : List TruthExprOf) (room : ℕ) (rows : List Row) (numbers : List ℕ) → AllByRecursion P numbers → AllByRecursion P (reached es room rows numbers)
reached_each P es room rows [] h = tt
reached_each P es room rows (n ∷ ns) h =
    elim (cases_Bool (eqb room 0)) [
      | inl e ↦ rw e tt
      | inr e ↦ rw e (h.0, reached_each P es (room - count_by (passes_each es) (block_at rows n)) rows ns h.1)
    ]

up_to_each : (P : ℕ → Type 0) (stop : Option ℕ) (es : List TruthExprOf) (rows : List Row) (numbers : List ℕ) → AllByRecursion P numbers → AllByRecursion P (up_to stop es rows numbers)
up_to_each P None es rows numbers h = h
up_to_each P (Some room) es rows numbers h = reached_each P es room rows numbers h

below_each : (first count end : ℕ) → first + count ≤ end → AllByRecursion (λ n. n < end) (range_with_len first count)
below_each first zero end h = tt
below_each first (suc count) end h = (omega (arith, h), below_each (first + 1) count end (omega (arith, h)))

pub plans_need_blocks : PlansNeedBlocks
plans_need_blocks = record {
  each = λ plan rows.
      let end = block_count (length rows) in
      let below = λ (n : ℕ). n < end in
      let ok = λ (number : ℕ). admits_all plan.scan.tests (block_at rows number) in
      let every : All below (block_numbers rows) = All-from_recursion below (block_numbers rows) (below_each 0 end end (omega arith)) in
      All-from_recursion below (needed plan rows)
      (up_to_each below plan.scan.stop (leading plan.nodes) rows (admitted_blocks plan.scan.tests rows)
      (recursion_from_All below (admitted_blocks plan.scan.tests rows) (All-filter ok below (block_numbers rows) every)));
  few = λ plan rows.
      let ok = λ (number : ℕ). admits_all plan.scan.tests (block_at rows number) in
      let up = up_to_few plan.scan.stop (leading plan.nodes) rows (admitted_blocks plan.scan.tests rows) in
      let admitted = length-filter-le ok (block_numbers rows) in
      let whole = length-range_with_len 0 (block_count (length rows)) in
      omega (arith, up, admitted, whole);
}
