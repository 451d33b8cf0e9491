-- The values of items that are kept as rows come.
use Rattle.std.proofs.Common.{◌≡◌, ℕ, zero, suc, add-one, ◌+◌, ◌<◌, ◌≤◌, Bool, true, false, ◌||◌, Option, Some, None, cond, List, [], ◌∷◌, ◌++◌, append-nil, append_assoc, length, map, take, drop, drop-cons, get_or, set, refl, sym, ap, ◌∙◌, subst, arith}
use Rattle.std.specs.Prelude.{Err, is_none, is_some, option_and_then, slice_get}
use Rattle.std.proofs.Math.Bool.{or-true}
use Rattle.std.specs.List.{list_any, All, AllByRecursion}
use Rattle.std.specs.Option.{unwrap_or}
use Rattle.std.proofs.lemmas.List.{drop_all, get_or-map, length-map, length-take, map-append, map_more, take_all, take-append-drop}
use Rattle.std.proofs.lemmas.Option.{get_or_from_slice_get}
use Rattle.cell_types.specs.Value.{CellValue, null, value_view}
use Rattle.typed_trees.specs.TypedTree.{TypedExprOf, typed_view}
use Rattle.row_eval.specs.Bounds.{NumbersFit}
use Rattle.row_eval.specs.Outcome.{outcome}
use Rattle.row_eval.specs.Result.{Evaluates}
use Rattle.row_eval.specs.declared.fault.EvalFault.{EvalFault}
use Rattle.row_eval.specs.declared.fault.EvalFault.TheVariants.{DivisionByZero, NoMemory}
use Rattle.query_meaning.specs.Order.{Item, item_value, order_faults}
use Rattle.typed_trees.specs.Plain.{as_column}
use Rattle.odata_query.specs.Query.{order_view}
use Rattle.typed_trees.specs.declared.plain.PlainColumn.{PlainColumn}
use Rattle.odata_query.specs.declared.query.OrderBy.{OrderBy}
use Rattle.order_columns.specs.Items.{column_after, expression_faults, kept_values, table_column, expression_value, KeepsMore, KeepValues, PushesValues}
use Rattle.order_columns.proofs.PlainLemmas.{columns_are}

-- ---- the values of one expression

-- after the values that are kept so far come those of the rows from a number on
pub record HasRest (e : TypedExprOf) (rows : List (List CellValue)) (first n : ℕ) (old now : List CellValue) : Type 0 where
  pub values : now ++ map (expression_value e) (drop n rows) ≡ old ++ map (expression_value e) (drop first rows)
  pub faults : list_any (expression_faults e) (drop n rows) ≡ list_any (expression_faults e) (drop first rows)

next_row : (rows : List (List CellValue)) (n : ℕ) → n < length rows → drop n rows ≡ get_or rows n [] ∷ drop (n + 1) rows
next_row rows n h = rw (add-one, drop-cons rows n []) refl

pub rest_pushed : (e : TypedExprOf) (rows : List (List CellValue)) (first n : ℕ) (old now : List CellValue) (v : CellValue) → n < length rows → outcome e (get_or rows n []) ≡ Some v
    → HasRest e rows first n old now → HasRest e rows first (n + 1) old (now ++ v ∷ [])
rest_pushed e rows first n old now v h is rest =
    let behind = drop (n + 1) rows in
    let here : v ≡ expression_value e (get_or rows n []) = sym (ap (λ o. unwrap_or o null) is) in
    record {
      values =
          append_assoc now (v ∷ []) (map (expression_value e) behind) ∙ ap (λ x. now ++ x ∷ map (expression_value e) behind) here
          ∙ ap (λ rs. now ++ map (expression_value e) rs) (sym (next_row rows n h)) ∙ rest.values;
      faults =
          sym (ap (λ o. is_none o || list_any (expression_faults e) behind) is) ∙ ap (list_any (expression_faults e)) (sym (next_row rows n h)) ∙ rest.faults;
    }

pub rest_faults : (e : TypedExprOf) (rows : List (List CellValue)) (first n : ℕ) (old now : List CellValue) → n < length rows → outcome e (get_or rows n []) ≡ None
    → HasRest e rows first n old now → list_any (expression_faults e) (drop first rows) ≡ true
rest_faults e rows first n old now h is rest =
    sym rest.faults ∙ ap (list_any (expression_faults e)) (next_row rows n h) ∙ ap (λ o. is_none o || list_any (expression_faults e) (drop (n + 1) rows)) is

pub rest_ends : (e : TypedExprOf) (rows : List (List CellValue)) (first n : ℕ) (old now : List CellValue) → length rows ≤ n → HasRest e rows first n old now
    → (now ≡ old ++ map (expression_value e) (drop first rows)) × (list_any (expression_faults e) (drop first rows) ≡ false)
rest_ends e rows first n old now h rest = (
  sym (append-nil now) ∙ ap (λ rs. now ++ map (expression_value e) rs) (sym (drop_all n rows h)) ∙ rest.values,
  sym rest.faults ∙ ap (list_any (expression_faults e)) (drop_all n rows h),
)

-- a fault on a row
pub value_faults : (e : TypedExprOf) (rows : List (List CellValue)) (first n : ℕ) (old now : List CellValue) (row : List CellValue) (concatenates : Bool) (fault : EvalFault)
    → n < length rows → slice_get rows n ≡ Some row → Evaluates value_view (outcome e row) concatenates (Err fault) → HasRest e rows first n old now
    → PushesValues e (drop first rows) old now (Err fault)
value_faults e rows first n old now row concatenates DivisionByZero h at is rest =
    rest_faults e rows first n old now h (ap (outcome e) (get_or_from_slice_get rows n row [] at) ∙ is) rest
value_faults e rows first n old now row concatenates NoMemory h at is rest = tt

-- or a value more
pub value_pushed : (e : TypedExprOf) (rows : List (List CellValue)) (first n : ℕ) (old now new row : List CellValue) (value : CellValue) → n < length rows
    → slice_get rows n ≡ Some row → outcome e row ≡ Some value → new ≡ now ++ value ∷ [] → HasRest e rows first n old now → HasRest e rows first (n + 1) old new
value_pushed e rows first n old now new row value h at is push rest =
    subst (HasRest e rows first (n + 1) old) (sym push)
    (rest_pushed e rows first n old now value h (ap (outcome e) (get_or_from_slice_get rows n row [] at) ∙ is) rest)

-- ---- faults of items

neither : (a b : Bool) → (a || b) ≡ false → (a ≡ false) × (b ≡ false)
neither true b e = absurd (cc)
neither false b e = (refl, e)

no_row_of : (items : List Item) (row : List CellValue) (rows : List (List CellValue)) → AllByRecursion (λ item. list_any (expression_faults item.0) (row ∷ rows) ≡ false) items
    → (order_faults items row ≡ false) × AllByRecursion (λ item. list_any (expression_faults item.0) rows ≡ false) items
no_row_of [] row rows all = (refl, tt)
no_row_of (item ∷ items) row rows all =
    let here = neither (is_none (outcome item.0 row)) (list_any (expression_faults item.0) rows) all.0 in
    let others = no_row_of items row rows all.1 in (ap (λ b. b || order_faults items row) here.0 ∙ others.0, (here.1, others.1))

pub none_faults : (items : List Item) (rows : List (List CellValue)) → AllByRecursion (λ item. list_any (expression_faults item.0) rows ≡ false) items → list_any (order_faults items) rows ≡ false
none_faults items [] all = refl
none_faults items (row ∷ rows) all =
    let here = no_row_of items row rows all in ap (λ b. b || list_any (order_faults items) rows) here.0 ∙ none_faults items rows here.1

-- an item of others faults on a row
faults_among : (front : List Item) (item : Item) (behind : List Item) (row : List CellValue) → is_none (outcome item.0 row) ≡ true → order_faults (front ++ item ∷ behind) row ≡ true
faults_among [] item behind row is = ap (λ b. b || order_faults behind row) is
faults_among (i ∷ front) item behind row is =
    ap (λ b. is_none (outcome i.0 row) || b) (faults_among front item behind row is) ∙ or-true (is_none (outcome i.0 row))

either_row : (front : List Item) (item : Item) (behind : List Item) (row : List CellValue) (rows : List (List CellValue)) (b : Bool) → is_none (outcome item.0 row) ≡ b
    → (b || list_any (expression_faults item.0) rows) ≡ true → (list_any (expression_faults item.0) rows ≡ true → list_any (order_faults (front ++ item ∷ behind)) rows ≡ true)
    → list_any (order_faults (front ++ item ∷ behind)) (row ∷ rows) ≡ true
either_row front item behind row rows true is some others = ap (λ b. b || list_any (order_faults (front ++ item ∷ behind)) rows) (faults_among front item behind row is)
either_row front item behind row rows false is some others =
    ap (λ b. order_faults (front ++ item ∷ behind) row || b) (others some) ∙ or-true (order_faults (front ++ item ∷ behind) row)

pub one_faults : (front : List Item) (item : Item) (behind : List Item) (rows : List (List CellValue)) → list_any (expression_faults item.0) rows ≡ true
    → list_any (order_faults (front ++ item ∷ behind)) rows ≡ true
one_faults front item behind [] some = absurd (cc)
one_faults front item behind (row ∷ rows) some =
    either_row front item behind row rows (is_none (outcome item.0 row)) refl some (one_faults front item behind rows)

-- one that is a column never does
column_found : (before : ℕ) (found : Option PlainColumn) → is_some (option_and_then (column_after before) found) ≡ true → (column : PlainColumn) × (found ≡ Some column)
column_found before None some = absurd (cc)
column_found before (Some column) some = (column, refl)

columns_never : (e : TypedExprOf) (column : PlainColumn) → as_column e ≡ Some column → (rows : List (List CellValue)) → list_any (expression_faults e) rows ≡ false
columns_never e column is [] = refl
columns_never e column is (row ∷ rows) =
    ap (λ o. is_none o || list_any (expression_faults e) rows) ((columns_are e (Some column) (sym is)).value row) ∙ columns_never e column is rows

pub column_never : (e : TypedExprOf) (before : ℕ) (rows : List (List CellValue)) → is_some (table_column before e) ≡ true → list_any (expression_faults e) rows ≡ false
column_never e before rows some = let found = column_found before (as_column e) some in columns_never e found.0 found.1 rows

-- ---- the values of items in turn

-- Of the first items what is kept on more rows came after the values before, and none of them divides by zero there.
pub record KeptSoFar (all : List OrderBy) (more : List (List CellValue)) (i : ℕ) (old new : List (List CellValue)) : Type 0 where
  pub none : AllByRecursion (λ item. list_any (expression_faults item.0) more ≡ false) (map order_view (take i all))
  pub keeps : (before : List (List CellValue)) → KeepValues (map order_view all) before old
      → new ≡ map (kept_values (length (map order_view all)) (before ++ more)) (map order_view (take i all))
      ++ map (kept_values (length (map order_view all)) before) (map order_view (drop i all))

pub none_kept : (all : List OrderBy) (more old : List (List CellValue)) → KeptSoFar all more 0 old old
none_kept all more old = record { none = tt; keeps = λ before kept. kept }

all_more : (items : List Item) (item : Item) (P : Item → Type 0) → AllByRecursion P items → P item → AllByRecursion P (items ++ item ∷ [])
all_more [] item P all p = (p, tt)
all_more (i ∷ items) item P all p = (all.0, all_more items item P all.1 p)

set_here : (xs ys : List (List CellValue)) (x y : List CellValue) (i : ℕ) → length xs ≡ i → set (xs ++ x ∷ ys) i y ≡ xs ++ y ∷ ys
set_here [] ys x y zero long = refl
set_here [] ys x y (suc i) long = absurd (cc)
set_here (z ∷ xs) ys x y zero long = absurd (cc)
set_here (z ∷ xs) ys x y (suc i) long = let same : length xs ≡ i = cc in ap (λ l. z ∷ l) (set_here xs ys x y i same)

get_here : (xs ys : List (List CellValue)) (x d : List CellValue) (i : ℕ) → length xs ≡ i → get_or (xs ++ x ∷ ys) i d ≡ x
get_here [] ys x d zero long = refl
get_here [] ys x d (suc i) long = absurd (cc)
get_here (z ∷ xs) ys x d zero long = absurd (cc)
get_here (z ∷ xs) ys x d (suc i) long = let same : length xs ≡ i = cc in get_here xs ys x d i same

module _ (all : List OrderBy) (more : List (List CellValue)) (i : ℕ) (item : OrderBy) (within : i < length all) (at : get_or all i item ≡ item) where
  abbrev pub one : Item
  one = order_view item

  abbrev items : List Item
  items = map order_view all

  front : map order_view (take (i + 1) all) ≡ map order_view (take i all) ++ one ∷ []
  front = map_more order_view all i item within ∙ ap (λ o. map order_view (take i all) ++ order_view o ∷ []) at

  behind : map order_view (drop i all) ≡ one ∷ map order_view (drop (i + 1) all)
  behind = rw (add-one, drop-cons all i item within) (ap (λ o. order_view o ∷ map order_view (drop (suc i) all)) at)

  -- the values of the first items, and those of the others
  abbrev parts : (count : ℕ) (before : List (List CellValue)) → List (List CellValue)
  parts count before = map (kept_values count (before ++ more)) (map order_view (take i all)) ++ map (kept_values count before) (map order_view (drop i all))

  one_more : (count : ℕ) (before : List (List CellValue))
      → map (kept_values count (before ++ more)) (map order_view (take i all)) ++ kept_values count (before ++ more) one ∷ map (kept_values count before) (map order_view (drop (i + 1) all))
      ≡ map (kept_values count (before ++ more)) (map order_view (take (i + 1) all)) ++ map (kept_values count before) (map order_view (drop (i + 1) all))
  one_more count before =
      let kept = kept_values count (before ++ more) in
      let others = map (kept_values count before) (map order_view (drop (i + 1) all)) in
      sym (append_assoc (map kept (map order_view (take i all))) (kept one ∷ []) others)
      ∙ ap (λ l. l ++ others) (sym (map-append kept (map order_view (take i all)) (one ∷ [])) ∙ ap (map kept) (sym front))

  one_ahead : (count : ℕ) (before : List (List CellValue))
      → parts count before
      ≡ map (kept_values count (before ++ more)) (map order_view (take i all)) ++ kept_values count before one ∷ map (kept_values count before) (map order_view (drop (i + 1) all))
  one_ahead count before = ap (λ l. map (kept_values count (before ++ more)) (map order_view (take i all)) ++ map (kept_values count before) l) behind

  -- an item that is a column
  pub column_kept : (old new : List (List CellValue)) → is_some (table_column (length all) one.0) ≡ true → KeptSoFar all more i old new → KeptSoFar all more (i + 1) old new
  column_kept old new some so_far =
      let count = length items in
      let is : is_some (table_column count one.0) ≡ true = ap (λ n. is_some (table_column n one.0)) (length-map all order_view) ∙ some in
      record {
        none =
            subst (AllByRecursion (λ o. list_any (expression_faults o.0) more ≡ false)) (sym front)
            (all_more (map order_view (take i all)) one (λ o. list_any (expression_faults o.0) more ≡ false) so_far.none (column_never one.0 (length all) more some));
        keeps = λ before kept.
            so_far.keeps before kept ∙ one_ahead count before
            ∙ ap (λ v. map (kept_values count (before ++ more)) (map order_view (take i all)) ++ v ∷ map (kept_values count before) (map order_view (drop (i + 1) all)))
            (ap (λ b. cond b [] (map (item_value one) before)) is ∙ sym (ap (λ b. cond b [] (map (item_value one) (before ++ more))) is))
            ∙ one_more count before;
      }

  -- one that is computed
  pub values_kept : (old mid new : List (List CellValue)) (values : List CellValue) → is_some (table_column (length all) one.0) ≡ false
      → list_any (expression_faults one.0) more ≡ false → values ≡ get_or mid i [] ++ map (expression_value one.0) more → new ≡ set mid i values
      → KeptSoFar all more i old mid → KeptSoFar all more (i + 1) old new
  values_kept old mid new values none never values_are put so_far =
      let count = length items in
      let is : is_some (table_column count one.0) ≡ false = ap (λ n. is_some (table_column n one.0)) (length-map all order_view) ∙ none in
      record {
        none =
            subst (AllByRecursion (λ o. list_any (expression_faults o.0) more ≡ false)) (sym front)
            (all_more (map order_view (take i all)) one (λ o. list_any (expression_faults o.0) more ≡ false) so_far.none never);
        keeps = λ before kept.
            let done = map (kept_values count (before ++ more)) (map order_view (take i all)) in
            let others = map (kept_values count before) (map order_view (drop (i + 1) all)) in
            let mid_is : mid ≡ done ++ kept_values count before one ∷ others = so_far.keeps before kept ∙ one_ahead count before in
            let long : length done ≡ i =
            length-map (map order_view (take i all)) (kept_values count (before ++ more)) ∙ length-map (take i all) order_view ∙ length-take-within in
            let here : values ≡ kept_values count (before ++ more) one =
            values_are ∙ ap (λ l. get_or l i [] ++ map (item_value one) more) mid_is
            ∙ ap (λ l. l ++ map (item_value one) more) (get_here done others (kept_values count before one) [] i long ∙ ap (λ b. cond b [] (map (item_value one) before)) is)
            ∙ sym (map-append (item_value one) before more) ∙ sym (ap (λ b. cond b [] (map (item_value one) (before ++ more))) is) in
            put ∙ ap (λ l. set l i values) mid_is ∙ set_here done others (kept_values count before one) values i long
            ∙ ap (λ v. done ++ v ∷ others) here ∙ one_more count before;
      }
    where
      length-take-within : length (take i all) ≡ i
      length-take-within = let long = length-take i all in omega (arith, within, long)

-- all of them
pub all_kept : (all : List OrderBy) (more : List (List CellValue)) (i : ℕ) (old new : List (List CellValue)) → length all ≤ i → KeptSoFar all more i old new
    → ((before : List (List CellValue)) → KeepValues (map order_view all) before old → KeepValues (map order_view all) (before ++ more) new)
    × (list_any (order_faults (map order_view all)) more ≡ false)
all_kept all more i old new h so_far =
    let items = map order_view all in
    let count = length items in
    let whole : map order_view (take i all) ≡ items = ap (map order_view) (take_all i all h) in (
      λ before kept.
          so_far.keeps before kept
          ∙ ap (λ l. map (kept_values count (before ++ more)) (map order_view (take i all)) ++ map (kept_values count before) (map order_view l)) (drop_all i all h)
          ∙ append-nil (map (kept_values count (before ++ more)) (map order_view (take i all))) ∙ ap (map (kept_values count (before ++ more))) whole,
      none_faults items more (subst (AllByRecursion (λ o. list_any (expression_faults o.0) more ≡ false)) whole so_far.none),
    )

-- or one of them divides by zero
pub item_faults : (all : List OrderBy) (more : List (List CellValue)) (i : ℕ) (item : OrderBy) → i < length all → get_or all i item ≡ item
    → list_any (expression_faults (typed_view item.expression)) more ≡ true → list_any (order_faults (map order_view all)) more ≡ true
item_faults all more i item within at some =
    let one = order_view item in
    let whole : map order_view all ≡ map order_view (take i all) ++ one ∷ map order_view (drop (i + 1) all) =
    ap (map order_view) (sym (take-append-drop i all)) ∙ map-append order_view (take i all) (drop i all)
    ∙ ap (λ l. map order_view (take i all) ++ l) (rw (add-one, drop-cons all i item within) (ap (λ o. order_view o ∷ map order_view (drop (suc i) all)) at)) in
    ap (λ is. list_any (order_faults is) more) whole ∙ one_faults (map order_view (take i all)) one (map order_view (drop (i + 1) all)) more some

pub keep_faults : (all : List OrderBy) (more : List (List CellValue)) (i : ℕ) (item : OrderBy) (old new : List (List CellValue)) (before after : List CellValue) (fault : EvalFault)
    → i < length all → get_or all i item ≡ item → PushesValues (typed_view item.expression) more before after (Err fault) → KeepsMore (map order_view all) more old new (Err fault)
keep_faults all more i item old new before after DivisionByZero within at faults = item_faults all more i item within at faults
keep_faults all more i item old new before after NoMemory within at faults = tt

pub fit_at : (all : List OrderBy) (rows : List (List CellValue)) (i : ℕ) (item : OrderBy) → i < length all → get_or all i item ≡ item
    → All (λ row. All (λ o. NumbersFit o.0 row) (map order_view all)) rows → All (NumbersFit (typed_view item.expression)) rows
fit_at all rows i item within at fits = λ k d h.
    let long = length-map all order_view in
    subst (λ (o : Item). NumbersFit o.0 (get_or rows k d)) (get_or-map order_view all i item (order_view item) within ∙ ap order_view at)
    (fits k d h i (order_view item) (omega (arith, within, long)))
