-- Rows of runs and of streams before and after a pivot.
use Rattle.std.proofs.Common.{◌≡◌, ℕ, zero, suc, add-one, ◌+◌, ◌-◌, ◌<◌, ◌≤◌, inl, inr, Bool, true, false, not, Option, Some, None, List, [], ◌∷◌, length, get_or, take, drop, min, refl, sym, ap, ◌∙◌, subst, arith}
use Rattle.std.specs.Prelude.{Box, Vec}
use Rattle.std.specs.Cmp.{IsStrictWeakOrder, IsTotalOrder}
use Rattle.std.specs.List.{prefix_len, AllByRecursion}
use Rattle.std.specs.Ordering.{is_lt}
use Rattle.std.specs.declared.alloc.Global.{Global}
use Rattle.std.specs.declared.cmp.Ordering.{Ordering}
use Rattle.std.proofs.lemmas.Bool.{cases_Bool, false≢true}
use Rattle.std.proofs.lemmas.List.{length-map}
use Rattle.std.proofs.lemmas.List.Elements.{All-drop, All-from_recursion, recursion_from_All}
use Rattle.cell_types.proofs.ListLaws.{AllByRecursion-weaker}
use Rattle.cell_types.specs.Value.{CellValue, value_cmp}
use Rattle.sort_rows.specs.Merge.{merged}
use Rattle.order_columns.specs.Plain.{columns_cmp}
use Rattle.sort_rows.specs.Runs.{first_of_two, row_at, rows_of_run, stream_first, stream_rows, AreNotFalling, FirstGoes, IsOrderedRun, IsStream, Passes}
use Rattle.result_rows.specs.Fronts.{precedes, less_len, IsSplitAt, IsFirstPart, PassesFront}
use Rattle.order_columns.specs.declared.plain.PlainItem.{PlainItem}
use Rattle.sort_rows.specs.declared.run_rows.RunRow.{RunRow}
use Rattle.sort_rows.specs.declared.streams.First.{First}
use Rattle.sort_rows.specs.declared.streams.Stream.{Stream}
use Rattle.sort_rows.specs.declared.streams.Stream.TheVariants.{Run, Two}
use Rattle.sort_rows.proofs.RisingLemmas.{columns_order}
use Rattle.result_rows.proofs.FrontLemmas.{all_fewer, all_more, cut_merged, dropped_twice}

-- ---- lists in order

test_not : (t : Bool) → not t ≡ true → t ≡ false
test_not true e = absurd (false≢true e)
test_not false e = refl

not_test : (t : Bool) → not t ≡ false → t ≡ true
not_test true e = refl
not_test false e = absurd (false≢true (sym e))

module _ {X : Type 0} where
  all_at : (P : X → Type 0) (xs : List X) (i : ℕ) (d : X) → AllByRecursion P xs → i < length xs → P (get_or xs i d)
  all_at P [] i d are h = absurd (omega (arith, h))
  all_at P (x ∷ xs) zero d are h = are.0
  all_at P (x ∷ xs) (suc i) d are h = all_at P xs i d are.1 (omega (arith, h))

  pub rising_dropped : (cmp : X → X → Ordering) (n : ℕ) (xs : List X) → AreNotFalling cmp xs → AreNotFalling cmp (drop n xs)
  rising_dropped cmp zero [] are = tt
  rising_dropped cmp (suc n) [] are = tt
  rising_dropped cmp zero (x ∷ xs) are = are
  rising_dropped cmp (suc n) (x ∷ xs) are = rising_dropped cmp n xs are.1

  module _ (cmp : X → X → Ordering) (test : X → Bool) (falls : (x y : X) → is_lt (cmp y x) ≡ false → test y ≡ true → test x ≡ true) where
    fails : (x y : X) → is_lt (cmp y x) ≡ false → test x ≡ false → test y ≡ false
    fails x y e f = elim (cases_Bool (test y)) [
      | inl t ↦ (let k = falls x y e t in cc)
      | inr t ↦ t
    ]

    rising_front : (xs : List X) (i : ℕ) (d : X) → AreNotFalling cmp xs → i < length xs → test (get_or xs i d) ≡ true → AllByRecursion (λ x. test x ≡ true) (take (suc i) xs)
    rising_front [] i d are h t = tt
    rising_front (x ∷ xs) zero d are h t = (t, tt)
    rising_front (x ∷ xs) (suc i) d are h t =
        let k : i < length xs = omega (arith, h) in
        (falls x (get_or xs i d) (all_at (λ y. is_lt (cmp y x) ≡ false) xs i d are.0 k) t, rising_front xs i d are.1 k t)

    rising_others : (xs : List X) (i : ℕ) (d : X) → AreNotFalling cmp xs → i < length xs → test (get_or xs i d) ≡ false → AllByRecursion (λ x. test x ≡ false) (drop i xs)
    rising_others [] i d are h t = absurd (omega (arith, h))
    rising_others (x ∷ xs) zero d are h t = (t, AllByRecursion-weaker (λ y. is_lt (cmp y x) ≡ false) (λ y. test y ≡ false) (λ y e. fails x y e t) xs are.0)
    rising_others (x ∷ xs) (suc i) d are h t = rising_others xs i d are.1 (omega (arith, h)) t

  -- ---- how many come first

  front_len : (test : X → Bool) (xs : List X) (n : ℕ) → n ≤ length xs → AllByRecursion (λ x. test x ≡ true) (take n xs) → AllByRecursion (λ x. test x ≡ false) (drop n xs)
      → prefix_len test xs ≡ n
  front_len test [] zero h front others = refl
  front_len test [] (suc n) h front others = absurd (omega (arith, h))
  front_len test (x ∷ xs) zero h front others = rw others.0 refl
  front_len test (x ∷ xs) (suc n) h front others = let k = front_len test xs n (omega (arith, h)) front.1 others in rw front.0 (omega (arith, k))

  length_dropped : (n : ℕ) (ys : List X) → length (drop n ys) ≡ length ys - n
  length_dropped zero ys = omega arith
  length_dropped (suc n) [] = omega arith
  length_dropped (suc n) (y ∷ ys) = let k = length_dropped n ys in omega (arith, k)

  taken_all : (k : ℕ) (xs : List X) → length xs ≤ k → take k xs ≡ xs
  taken_all zero [] h = refl
  taken_all (suc k) [] h = refl
  taken_all zero (x ∷ xs) h = absurd (omega (arith, h))
  taken_all (suc k) (x ∷ xs) h = ap (λ l. x ∷ l) (taken_all k xs (omega (arith, h)))

  -- a slice from one on
  rest_is : (n : ℕ) (xs : List X) → take (length xs - n) (drop n xs) ≡ drop n xs
  rest_is n xs = taken_all (length xs - n) (drop n xs) (let k = length_dropped n xs in omega (arith, k))

  -- those that are less, and the first ones of those that tie
  run_cut : (cmp : X → X → Ordering) → IsStrictWeakOrder (λ a b. is_lt (cmp a b)) → (p : X) (xs : List X) (less tied ties k : ℕ) → k ≡ less + min tied ties
      → IsFirstPart (λ x. is_lt (cmp x p)) xs less → IsFirstPart (λ x. not (is_lt (cmp p x))) (drop less xs) tied → IsSplitAt cmp p ties xs k (ties - min tied ties)
  run_cut cmp order p xs less tied ties k e front tie = record {
    within = omega (arith, e, front.within, tie.within, length_dropped less xs);
    passed =
        all_more (λ x. is_lt (cmp p x) ≡ false) less (min tied ties) k xs e
        (AllByRecursion-weaker (λ x. is_lt (cmp x p) ≡ true) (λ x. is_lt (cmp p x) ≡ false) (λ x l. order.one_way x p l) (take less xs) front.front)
        (all_fewer (λ x. is_lt (cmp p x) ≡ false) (min tied ties) tied (drop less xs) (omega arith)
        (AllByRecursion-weaker (λ x. not (is_lt (cmp p x)) ≡ true) (λ x. is_lt (cmp p x) ≡ false) (λ x l. test_not (is_lt (cmp p x)) l) (take tied (drop less xs)) tie.front));
    others = subst (AllByRecursion (λ x. is_lt (cmp x p) ≡ false)) (dropped_twice less (min tied ties) k xs e) (recursion_from_All (λ x. is_lt (cmp x p) ≡ false) (drop (min tied ties) (drop less xs)) (All-drop (λ x. is_lt (cmp x p) ≡ false) (min tied ties) (drop less xs) (All-from_recursion (λ x. is_lt (cmp x p) ≡ false) (drop less xs) front.others)));
    no_tie = λ none. subst (λ j. AllByRecursion (λ x. is_lt (cmp x p) ≡ true) (take j xs)) (let f : less ≡ k = omega (arith, e, none) in f) front.front;
    all_ties = λ some.
        let f : min tied ties ≡ tied = omega (arith, some) in
        subst (AllByRecursion (λ x. is_lt (cmp p x) ≡ true)) (dropped_twice less tied k xs (omega (arith, e, f)))
        (AllByRecursion-weaker (λ x. not (is_lt (cmp p x)) ≡ false) (λ x. is_lt (cmp p x) ≡ true) (λ x l. not_test (is_lt (cmp p x)) l) (drop tied (drop less xs)) tie.others);
  }

-- ---- runs, and slices of them

module _ (columns : List PlainItem) (rows : List (List CellValue)) where
  -- the rows of a run from one on
  run_dropped : (run : List RunRow) (n k m : ℕ) → m ≡ n + k → rows_of_run rows (drop m run) ≡ drop k (rows_of_run rows (drop n run))
  run_dropped run zero k m e = ap (λ j. rows_of_run rows (drop j run)) (let f : m ≡ k = omega (arith, e) in f) ∙ mapped run k
    where
      mapped : (run : List RunRow) (k : ℕ) → rows_of_run rows (drop k run) ≡ drop k (rows_of_run rows run)
      mapped [] zero = refl
      mapped [] (suc k) = refl
      mapped (r ∷ run) zero = refl
      mapped (r ∷ run) (suc k) = mapped run k
  run_dropped [] (suc n) zero zero e = refl
  run_dropped [] (suc n) zero (suc m) e = refl
  run_dropped [] (suc n) (suc k) zero e = refl
  run_dropped [] (suc n) (suc k) (suc m) e = refl
  run_dropped (r ∷ run) (suc n) k zero e = absurd (omega (arith, e))
  run_dropped (r ∷ run) (suc n) k (suc m) e = run_dropped run n k m (omega (arith, e))

  pub slice_rises : (run items : List RunRow) (n : ℕ) → items ≡ run → AreNotFalling (columns_cmp columns) (rows_of_run rows run)
      → AreNotFalling (columns_cmp columns) (rows_of_run rows (take (length items - n) (drop n items)))
  slice_rises run items n e are =
      subst (λ l. AreNotFalling (columns_cmp columns) (rows_of_run rows (take (length l - n) (drop n l)))) (sym e)
      (subst (λ l. AreNotFalling (columns_cmp columns) (rows_of_run rows l)) (sym (rest_is n run))
      (subst (AreNotFalling (columns_cmp columns)) (sym (run_dropped run 0 n n (omega arith))) (rising_dropped (columns_cmp columns) n (rows_of_run rows run) are)))

  slice_front : (test : List CellValue → Bool) (run items : List RunRow) (n k : ℕ) → items ≡ run → IsFirstPart test (rows_of_run rows (take (length items - n) (drop n items))) k
      → IsFirstPart test (rows_of_run rows (drop n run)) k
  slice_front test run items n k e is =
      subst (λ l. IsFirstPart test (rows_of_run rows l) k) (rest_is n run) (subst (λ l. IsFirstPart test (rows_of_run rows (take (length l - n) (drop n l))) k) e is)

  pub less_len_is : (pivot : List CellValue) (s : Stream) (run : Vec RunRow Global) (taken k : ℕ) (items : List RunRow) → s ≡ Run run taken → items ≡ run.items
      → IsFirstPart (precedes columns pivot false) (rows_of_run rows (take (length items - taken) (drop taken items))) k → k ≡ less_len columns rows pivot s
  less_len_is pivot s run taken k items e f front =
      let is = slice_front (precedes columns pivot false) run.items items taken k f front in
      sym (ap (less_len columns rows pivot) e ∙ front_len (precedes columns pivot false) (rows_of_run rows (drop taken run.items)) k is.within is.front is.others)

  -- ---- what is left

  pub front_left : (pivot : List CellValue) (old new : Stream) (ties left more k : ℕ) (all : List (List CellValue)) → PassesFront columns rows pivot ties old new left
      → ties + less_len columns rows pivot old ≡ more → more ≤ k → stream_rows columns rows old ≡ drop (k - more) all → (left ≤ k) × (stream_rows columns rows new ≡ drop (k - left) all)
  front_left pivot old new ties left more k all is e h same =
      let c : is.count + left ≡ more = omega (arith, is.count_is, e) in
      (omega (arith, c, h), is.rows_are ∙ ap (drop is.count) same ∙ dropped_twice (k - more) is.count (k - left) all (omega (arith, c, h)))

  one_goes : (first : Option RunRow) (xs ys : List (List CellValue)) → FirstGoes rows first xs ys → ys ≡ drop 1 xs
  one_goes None xs ys goes = goes.1 ∙ sym (ap (drop 1) goes.0)
  one_goes (Some first) xs ys goes = sym (ap (drop 1) goes)

  pub one_left : (old new : Stream) (n m : ℕ) (all : List (List CellValue)) → Passes columns rows old new → stream_rows columns rows old ≡ drop n all → m ≡ n + 1
      → stream_rows columns rows new ≡ drop m all
  one_left old new n m all is same e =
      one_goes (stream_first old) (stream_rows columns rows old) (stream_rows columns rows new) is.goes ∙ ap (drop 1) same ∙ dropped_twice n 1 m all e

-- ---- fronts of runs and of streams

module _ (values : IsTotalOrder value_cmp) (columns : List PlainItem) (rows : List (List CellValue)) where
  before_falls : (pivot : List CellValue) (ties : Bool) (x y : List CellValue) → is_lt (columns_cmp columns y x) ≡ false → precedes columns pivot ties y ≡ true
      → precedes columns pivot ties x ≡ true
  before_falls pivot true x y e t =
      ap (λ b. not b) ((columns_order values columns).chain pivot y x (test_not (is_lt (columns_cmp columns pivot y)) t) e)
  before_falls pivot false x y e t = elim (cases_Bool (is_lt (columns_cmp columns x pivot))) [
    | inl l ↦ l
    | inr l ↦ (let k = (columns_order values columns).chain y x pivot e l in cc)
  ]

  at_mapped : (run : List RunRow) (m : ℕ) (d : RunRow) → m < length run → get_or (rows_of_run rows run) m [] ≡ row_at rows (get_or run m d)
  at_mapped [] m d h = absurd (omega (arith, h))
  at_mapped (r ∷ run) zero d h = refl
  at_mapped (r ∷ run) (suc m) d h = at_mapped run m d (omega (arith, h))

  pub front_grows : (pivot : List CellValue) (ties : Bool) (run : List RunRow) (m : ℕ) (d : RunRow) → AreNotFalling (columns_cmp columns) (rows_of_run rows run) → m < length run
      → precedes columns pivot ties (row_at rows (get_or run m d)) ≡ true → AllByRecursion (λ row. precedes columns pivot ties row ≡ true) (take (m + 1) (rows_of_run rows run))
  front_grows pivot ties run m d are h t =
      subst (λ k. AllByRecursion (λ row. precedes columns pivot ties row ≡ true) (take k (rows_of_run rows run))) (sym (add-one m))
      (rising_front (columns_cmp columns) (precedes columns pivot ties) (before_falls pivot ties) (rows_of_run rows run) m [] are
      (let k = length-map run (row_at rows) in omega (arith, h, k)) (ap (precedes columns pivot ties) (at_mapped run m d h) ∙ t))

  pub others_grow : (pivot : List CellValue) (ties : Bool) (run : List RunRow) (m : ℕ) (d : RunRow) → AreNotFalling (columns_cmp columns) (rows_of_run rows run) → m < length run
      → precedes columns pivot ties (row_at rows (get_or run m d)) ≡ false → AllByRecursion (λ row. precedes columns pivot ties row ≡ false) (drop m (rows_of_run rows run))
  others_grow pivot ties run m d are h t =
      rising_others (columns_cmp columns) (precedes columns pivot ties) (before_falls pivot ties) (rows_of_run rows run) m [] are
      (let k = length-map run (row_at rows) in omega (arith, h, k)) (ap (precedes columns pivot ties) (at_mapped run m d h) ∙ t)

  run_passes_front : (pivot : List CellValue) (run : Vec RunRow Global) (taken less tied ties : ℕ) → IsOrderedRun columns rows run.items taken
      → IsFirstPart (precedes columns pivot false) (rows_of_run rows (drop taken run.items)) less
      → IsFirstPart (precedes columns pivot true) (rows_of_run rows (drop (taken + less) run.items)) tied
      → PassesFront columns rows pivot ties (Run run taken) (Run run (taken + less + min tied ties)) (ties - min tied ties)
  run_passes_front pivot run taken less tied ties is front tie =
      let left = rows_of_run rows (drop taken run.items) in
      let more = run_dropped columns rows run.items taken less (taken + less) refl in
      let cut : IsSplitAt (columns_cmp columns) pivot ties left (less + min tied ties) (ties - min tied ties) =
      run_cut (columns_cmp columns) (columns_order values columns) pivot left less tied ties (less + min tied ties) refl front
      (subst (λ l. IsFirstPart (precedes columns pivot true) l tied) more tie) in
      let same = run_dropped columns rows run.items taken (less + min tied ties) (taken + less + min tied ties) (omega arith) in
      let long : length left ≡ length run.items - taken = length-map (drop taken run.items) (row_at rows) ∙ length_dropped taken run.items in
      record {
        stream = record { rows_are = is.rows_are; rising = is.rising; within = omega (arith, cut.within, long, is.within) };
        count = less + min tied ties;
        count_is = let k = front_len (precedes columns pivot false) left less front.within front.front front.others in omega (arith, k);
        at_most = omega arith;
        cut = cut;
        rows_are = same;
      }

  pub passes_run : (pivot : List CellValue) (s : Stream) (run : Vec RunRow Global) (taken less tied ties k : ℕ) (items others : List RunRow) → s ≡ Run run taken → items ≡ run.items
      → others ≡ run.items → IsStream columns rows s → IsFirstPart (precedes columns pivot false) (rows_of_run rows (take (length items - taken) (drop taken items))) less
      → IsFirstPart (precedes columns pivot true) (rows_of_run rows (take (length others - (taken + less)) (drop (taken + less) others))) tied → k ≡ min tied ties
      → PassesFront columns rows pivot ties s (Run run (taken + less + k)) (ties - k)
  passes_run pivot s run taken less tied ties k items others e f g is front tie h =
      subst (λ s. PassesFront columns rows pivot ties s (Run run (taken + less + k)) (ties - k)) (sym e)
      (subst (λ k. PassesFront columns rows pivot ties (Run run taken) (Run run (taken + less + k)) (ties - k)) (sym h)
      (run_passes_front pivot run taken less tied ties (subst (IsStream columns rows) e is) (slice_front columns rows (precedes columns pivot false) run.items items taken less f front)
      (slice_front columns rows (precedes columns pivot true) run.items others (taken + less) tied g tie)))

  -- ---- two streams

  pub two_pass_front : (pivot : List CellValue) (s : Stream) (earlier later left_earlier left_later : Box Stream Global) (x y : Option First) (ties mid left n : ℕ) → s ≡ Two earlier later x n
      → PassesFront columns rows pivot ties earlier.value left_earlier.value mid → PassesFront columns rows pivot mid later.value left_later.value left
      → y ≡ first_of_two columns rows (stream_first left_earlier.value) (stream_first left_later.value)
      → PassesFront columns rows pivot ties s (Two left_earlier left_later y n) left
  two_pass_front pivot s earlier later left_earlier left_later x y ties mid left n two one other at =
      let a = stream_rows columns rows earlier.value in
      let b = stream_rows columns rows later.value in
      let both = cut_merged (columns_cmp columns) (columns_order values columns) pivot ties mid left one.count other.count (one.count + other.count) a b refl other.at_most one.at_most one.cut other.cut in
      subst (λ s. PassesFront columns rows pivot ties s (Two left_earlier left_later y n) left) (sym two) (record {
        stream = (one.stream, other.stream, at);
        count = one.count + other.count;
        count_is = omega (arith, one.count_is, other.count_is);
        at_most = omega (arith, one.at_most, other.at_most);
        cut = both.0;
        rows_are =
            ap (λ l. merged (columns_cmp columns) l (stream_rows columns rows left_later.value)) one.rows_are
            ∙ ap (merged (columns_cmp columns) (drop one.count a)) other.rows_are ∙ sym both.1;
      })
