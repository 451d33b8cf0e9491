-- Steps of `$apply` on the rows of an input: what they give are rows of the columns that they have by their types, and they fit.
use Rattle.std.proofs.Common.{◌≡◌, ℕ, suc, ◌+◌, ◌<◌, ◌≤◌, Bool, get_or, Option, Some, None, Ok, List, [], ◌∷◌, ◌++◌, length, map, nat_eq, refl, sym, ap, ◌∙◌, subst, arith}
use Rattle.std.specs.Prelude.{not, option_and_then, option_map, slice_get}
use Rattle.std.specs.List.{AllByRecursion, cons_option, filter, list_any}
use Rattle.std.proofs.lemmas.Option.{same_Some}
use Rattle.std.proofs.lemmas.List.{length-append, length-map}
use Rattle.std.proofs.lemmas.List.Elements.{All-from_recursion}
use Rattle.cell_types.specs.Value.{CellValue}
use Rattle.odata_parse.specs.Tree.{AggregateItemOf, ExprOf, TransformationOf, filter_by, aggregate, group_by}
use Rattle.odata_types.specs.Columns.{InputOf}
use Rattle.odata_types.specs.Result.{◌>>=◌}
use Rattle.typed_trees.specs.TypedTree.{TruthExprOf}
use Rattle.odata_types.specs.Typing.{filter_typing, place_of}
use Rattle.odata_query.specs.declared.aggregate.TheConstants.{MOST_ROWS}
use Rattle.odata_query.specs.Aggregate.{ItemOf, TypedTransformationOf, filter_rows, aggregate_rows, group_rows}
use Rattle.odata_query.specs.Apply.{apply_typing, columns_at, grouped_places, item_column, items_typing, named_of, optional_items, place_at, place_typing, places_typing, transformation_typing}
use Rattle.odata_query.specs.FirstSeen.{first_seen}
use Rattle.odata_types.specs.Input.{IsInput, IsQueriedTransformation, IsRowOf}
use Rattle.query_meaning.specs.Laws.{BoundsHold}
use Rattle.query_meaning.specs.Apply.{computed_values, group_values, names_at, rows_of_group, same_values, value_at, values_at}
use Rattle.query_meaning.specs.Filter.{faults, passes}
use Rattle.row_eval.specs.Bounds.{TruthFits}
use Rattle.cell_types.proofs.CaseLaws.{cond-None_some}
use Rattle.cell_types.proofs.ListLaws.{AllByRecursion-filter, length-filter-le}
use Rattle.query_plan.specs.Fitting.{AggregateFits, IsFitNode, NodesFit}
use Rattle.query_meaning.specs.Meaning.{ResultOf}
use Rattle.query_plan.specs.Plan.{NodeOf, aggregating, apply_nodes, filtering, grouping, node_count, node_names, node_result, node_rows, nodes_result, transformation_node}
use Rattle.query_plan.proofs.AggregateLemmas.{AreGood, Stands, aggregates_fit, computed_row, items_good, optional_good, place_below}
use Rattle.query_plan.proofs.ResultLemmas.{GivesInput, transformation_input}
use Rattle.query_plan.proofs.TypingLemmas.{Told, told_both, told_self, told_then}
use Rattle.query_plan.proofs.ValueLemmas.{OfColumn, value_fits}

-- ---- lists

map_all : {X Y : Type 0} (f : X → Y) (P : X → Type 0) (Q : Y → Type 0) → ((x : X) → P x → Q (f x)) → (xs : List X) → AllByRecursion P xs → AllByRecursion Q (map f xs)
map_all f P Q each [] all = tt
map_all f P Q each (x ∷ xs) all = (each x all.0, map_all f P Q each xs all.1)

module _ {X : Type 0} (eq : X → X → Bool) where
  seen_all : (P : X → Type 0) (xs : List X) → AllByRecursion P xs → AllByRecursion P (first_seen eq xs)
  seen_all P [] all = tt
  seen_all P (x ∷ xs) all = (all.0, AllByRecursion-filter P (λ y. not (eq x y)) (first_seen eq xs) (seen_all P xs all.1))

  seen_length : (xs : List X) → length (first_seen eq xs) ≤ length xs
  seen_length [] = omega arith
  seen_length (x ∷ xs) =
      let few : length (filter (λ y. not (eq x y)) (first_seen eq xs)) ≤ length (first_seen eq xs) = length-filter-le (λ y. not (eq x y)) (first_seen eq xs) in
      let rest : length (first_seen eq xs) ≤ length xs = seen_length xs in
      omega arith

pub made_from : {X Y : Type 0} (f : X → Y) (o : Option X) (y : Y) → option_map f o ≡ Some y → (x : X) × (o ≡ Some x) × (f x ≡ y)
made_from f None y e = absurd (cc)
made_from f (Some x) y e = (x, refl, cc)

pub then_from : {X Y : Type 0} (f : X → Option Y) (o : Option X) (y : Y) → option_and_then f o ≡ Some y → (x : X) × (o ≡ Some x) × (f x ≡ Some y)
then_from f None y e = absurd (cc)
then_from f (Some x) y e = (x, refl, e)

-- ---- what a step gives

abbrev pub Gives : List InputOf → List InputOf → NodeOf → Type 0
Gives inputs outputs n = (r made : ResultOf) → Stands inputs r → node_result n r ≡ Some made → Stands outputs made

pub gives_rows : (inputs outputs : List InputOf) (n : NodeOf)
    → ((r : ResultOf) (rows : List (List CellValue)) → Stands inputs r → node_rows n r.rows ≡ Some rows
    → (length (node_names n r.names) ≡ length outputs) × AllByRecursion (IsRowOf outputs) rows × (length rows ≤ MOST_ROWS)) → Gives inputs outputs n
gives_rows inputs outputs n each r made stands e =
    let from = made_from (λ (rows : List (List CellValue)). record { names = node_names n r.names; rows = rows; count = node_count n r }) (node_rows n r.rows) made e in
    let is = each r from.0 stands from.1 in
    subst (Stands outputs) from.2 (record { named = is.0; each = is.1; few = is.2 })

-- ---- `filter`

pub filter_gives : (inputs : List InputOf) (e : TruthExprOf) → Gives inputs inputs (filtering e)
filter_gives inputs e = gives_rows inputs inputs (filtering e) (λ r rows stands is.
    let same : filter (passes e) r.rows ≡ rows = cond-None_some (list_any (faults e) r.rows) (filter (passes e) r.rows) rows is in (
      stands.named,
      subst (λ (xs : List (List CellValue)). AllByRecursion (IsRowOf inputs) xs) same (AllByRecursion-filter (IsRowOf inputs) (passes e) r.rows stands.each),
      subst (λ (xs : List (List CellValue)). length xs ≤ MOST_ROWS) same
          (let few : length (filter (passes e) r.rows) ≤ length r.rows = length-filter-le (passes e) r.rows in let all : length r.rows ≤ MOST_ROWS = stands.few in omega arith),
    ))

-- ---- `aggregate`

names_of_items : (xs : List ItemOf) → length (map (λ a. a.alias) (map named_of xs)) ≡ length (map item_column xs)
names_of_items [] = refl
names_of_items (x ∷ xs) = ap suc (names_of_items xs)

aggregate_gives : (inputs : List InputOf) (xs : List ItemOf) → AreGood inputs xs → Gives inputs (map item_column xs) (aggregating (map named_of xs))
aggregate_gives inputs xs good = gives_rows inputs (map item_column xs) (aggregating (map named_of xs)) (λ r rows stands is.
    let same : computed_values (map named_of xs) r.rows ∷ [] ≡ rows = same_Some (computed_values (map named_of xs) r.rows ∷ []) rows is in (
      names_of_items xs,
      subst (λ (ys : List (List CellValue)). AllByRecursion (IsRowOf (map item_column xs)) ys) same (computed_row inputs xs good r.rows stands.each stands.few, tt),
      subst (λ (ys : List (List CellValue)). length ys ≤ MOST_ROWS) same (omega arith),
    ))

-- ---- `groupby`

-- a column has the number
abbrev pub IsKnown : List InputOf → ℕ → Type 0
IsKnown inputs place = (c : InputOf) × (slice_get inputs place ≡ Some c)

place_known : (inputs : List InputOf) (place : ℕ) (o : Option InputOf) → slice_get inputs place ≡ o → Told (IsKnown inputs) (place_at place o)
place_known inputs place None e = tt
place_known inputs place (Some c) e = (c, e)

abbrev AreKnown : List InputOf → List ℕ → Type 0
AreKnown inputs places = AllByRecursion (IsKnown inputs) places

places_known : (inputs : List InputOf) (names : List (List ℕ)) → Told (AreKnown inputs) (places_typing inputs names)
places_known inputs [] = tt
places_known inputs (name ∷ names) =
    told_then (IsKnown inputs) (AreKnown inputs) (place_typing inputs name) (λ place. places_typing inputs names >>= λ places. Ok (place ∷ places))
    (place_known inputs (place_of inputs name) (slice_get inputs (place_of inputs name)) refl)
    (λ place k. told_then (AreKnown inputs) (AreKnown inputs) (places_typing inputs names) (λ places. Ok (place ∷ places)) (places_known inputs names) (λ places l. (k, l)))

grouped_known : (inputs : List InputOf) (names : List (List ℕ)) → Told (AreKnown inputs) (grouped_places inputs names)
grouped_known inputs names =
    told_then (AreKnown inputs) (AreKnown inputs) (places_typing inputs names) (λ places. Ok (first_seen nat_eq places)) (places_known inputs names)
    (λ places k. seen_all nat_eq (IsKnown inputs) places k)

columns_length : (inputs : List InputOf) (places : List ℕ) → AreKnown inputs places → length (columns_at inputs places) ≡ length places
columns_length inputs [] known = refl
columns_length inputs (place ∷ places) known =
    ap (λ (o : Option InputOf). length (cons_option o (columns_at inputs places))) known.0.1 ∙ ap suc (columns_length inputs places known.1)

row_of_group : (inputs : List InputOf) (row : List CellValue) → IsRowOf inputs row → (places : List ℕ) → AreKnown inputs places → IsRowOf (columns_at inputs places) (values_at places row)
row_of_group inputs row is [] known = tt
row_of_group inputs row is (place ∷ places) known =
    subst (λ (o : Option InputOf). IsRowOf (cons_option o (columns_at inputs places)) (value_at row place ∷ values_at places row)) (sym known.0.1) (
      subst (λ (o : Option InputOf). OfColumn o (value_at row place)) known.0.1 (value_fits inputs row place is),
      row_of_group inputs row is places known.1,
    )

both_rows : (cs ds : List InputOf) (vs ws : List CellValue) → IsRowOf cs vs → IsRowOf ds ws → IsRowOf (cs ++ ds) (vs ++ ws)
both_rows [] ds [] ws h k = k
both_rows [] ds (v ∷ vs) ws h k = absurd h
both_rows (c ∷ cs) ds [] ws h k = absurd h
both_rows (c ∷ cs) ds (v ∷ vs) ws h k = (h.0, both_rows cs ds vs ws h.1 k)

module _ (inputs : List InputOf) (places : List ℕ) (known : AreKnown inputs places) (xs : List ItemOf) (good : AreGood inputs xs) where
  abbrev group_columns : List InputOf
  group_columns = columns_at inputs places ++ map item_column xs

  abbrev group_row : List (List CellValue) → List CellValue → List CellValue
  group_row rows values = values ++ computed_values (map named_of xs) (rows_of_group places rows values)

  group_rows_are : (rows : List (List CellValue)) → AllByRecursion (IsRowOf inputs) rows → length rows ≤ MOST_ROWS
      → AllByRecursion (IsRowOf group_columns) (map (group_row rows) (group_values places rows))
  group_rows_are rows all few =
      map_all (group_row rows) (IsRowOf (columns_at inputs places)) (IsRowOf group_columns)
      (λ values is. both_rows (columns_at inputs places) (map item_column xs) values (computed_values (map named_of xs) (rows_of_group places rows values)) is
      (computed_row inputs xs good (rows_of_group places rows values) (AllByRecursion-filter (IsRowOf inputs) (λ row. same_values values (values_at places row)) rows all)
      (let fewer : length (rows_of_group places rows values) ≤ length rows = length-filter-le (λ row. same_values values (values_at places row)) rows in omega arith)))
      (group_values places rows)
      (seen_all same_values (IsRowOf (columns_at inputs places)) (map (values_at places) rows)
      (map_all (values_at places) (IsRowOf inputs) (IsRowOf (columns_at inputs places)) (λ row is. row_of_group inputs row is places known) rows all))

  group_rows_few : (rows : List (List CellValue)) → length rows ≤ MOST_ROWS → length (map (group_row rows) (group_values places rows)) ≤ MOST_ROWS
  group_rows_few rows few =
      let mapped : length (map (group_row rows) (group_values places rows)) ≡ length (group_values places rows) = length-map (group_values places rows) (group_row rows) in
      let seen : length (group_values places rows) ≤ length (map (values_at places) rows) = seen_length same_values (map (values_at places) rows) in
      let each : length (map (values_at places) rows) ≡ length rows = length-map rows (values_at places) in
      omega arith

  group_names : (names : List (List ℕ)) → length (names_at places names ++ map (λ a. a.alias) (map named_of xs)) ≡ length group_columns
  group_names names =
      length-append (names_at places names) (map (λ a. a.alias) (map named_of xs))
      ∙ ap (λ (k : ℕ). k + length (map (λ a. a.alias) (map named_of xs))) (length-map places (λ place. get_or names place []) ∙ sym (columns_length inputs places known))
      ∙ ap (λ (k : ℕ). length (columns_at inputs places) + k) (names_of_items xs)
      ∙ sym (length-append (columns_at inputs places) (map item_column xs))

  group_gives : Gives inputs group_columns (grouping places (map named_of xs))
  group_gives = gives_rows inputs group_columns (grouping places (map named_of xs)) (λ r rows stands is.
      let same : map (group_row r.rows) (group_values places r.rows) ≡ rows = same_Some (map (group_row r.rows) (group_values places r.rows)) rows is in (
        group_names r.names,
        subst (λ (ys : List (List CellValue)). AllByRecursion (IsRowOf group_columns) ys) same (group_rows_are r.rows stands.each stands.few),
        subst (λ (ys : List (List CellValue)). length ys ≤ MOST_ROWS) same (group_rows_few r.rows stands.few),
      ))

  places_there : (r : ResultOf) → Stands inputs r → (few : List ℕ) → AreKnown inputs few → AllByRecursion (λ place. place < length r.names) few
  places_there r stands [] k = tt
  places_there r stands (place ∷ more) k =
      let below : place < length inputs = place_below inputs place k.0.0 k.0.1 in
      let named : length r.names ≡ length inputs = stands.named in
      (omega arith, places_there r stands more k.1)

  group_fits : (r : ResultOf) → Stands inputs r → IsFitNode (grouping places (map named_of xs)) r
  group_fits r stands = (
    All-from_recursion (λ place. place < length r.names) places (places_there r stands places known),
    All-from_recursion (λ a. AggregateFits r a.aggregate) (map named_of xs) (aggregates_fit inputs xs good r stands),
  )

-- ---- a transformation

pub record Suits (inputs : List InputOf) (t : TransformationOf) (made : TypedTransformationOf × List InputOf) : Type 0 where
  pub gives : Gives inputs made.1 (transformation_node made.0)
  pub fits : BoundsHold → IsInput inputs → IsQueriedTransformation t → (r : ResultOf) → Stands inputs r → IsFitNode (transformation_node made.0) r

pub rows_all : (inputs : List InputOf) (P : List CellValue → Type 0) → ((row : List CellValue) → IsRowOf inputs row → P row) → (rows : List (List CellValue)) → AllByRecursion (IsRowOf inputs) rows → AllByRecursion P rows
rows_all inputs P each [] all = tt
rows_all inputs P each (row ∷ rows) all = (each row all.0, rows_all inputs P each rows all.1)

filter_suits : (inputs : List InputOf) (e : ExprOf) (t : TruthExprOf) → filter_typing inputs e ≡ Ok t → Suits inputs (filter_by e) (filter_rows t, inputs)
filter_suits inputs e t is = record {
  gives = filter_gives inputs t;
  fits = λ bounds input queried r stands. All-from_recursion (TruthFits t) r.rows (rows_all inputs (TruthFits t) (λ row row_is. bounds.filters inputs row e t input row_is queried is) r.rows stands.each);
}

aggregate_suits : (inputs : List InputOf) (items : List AggregateItemOf) (xs : List ItemOf) → AreGood inputs xs → Suits inputs (aggregate items) (aggregate_rows (map named_of xs), map item_column xs)
aggregate_suits inputs items xs good = record {
  gives = aggregate_gives inputs xs good;
  fits = λ bounds input queried r stands. All-from_recursion (λ a. AggregateFits r a.aggregate) (map named_of xs) (aggregates_fit inputs xs good r stands);
}

transformation_suits : (inputs : List InputOf) (t : TransformationOf) → Told (Suits inputs t) (transformation_typing inputs t)
transformation_suits inputs (filter_by e) =
    told_then (λ (t : TruthExprOf). filter_typing inputs e ≡ Ok t) (Suits inputs (filter_by e)) (filter_typing inputs e) (λ t. Ok (filter_rows t, inputs)) (told_self (filter_typing inputs e))
    (λ t is. filter_suits inputs e t is)
transformation_suits inputs (aggregate items) =
    told_then (AreGood inputs) (Suits inputs (aggregate items)) (items_typing inputs [] items) (λ xs. Ok (aggregate_rows (map named_of xs), map item_column xs)) (items_good inputs [] items)
    (λ xs good. aggregate_suits inputs items xs good)
transformation_suits inputs (group_by names items) =
    told_then (AreKnown inputs) (Suits inputs (group_by names items)) (grouped_places inputs names)
    (λ places. optional_items inputs items >>= λ xs. Ok (group_rows places (map named_of xs), columns_at inputs places ++ map item_column xs)) (grouped_known inputs names)
    (λ places known. told_then (AreGood inputs) (Suits inputs (group_by names items)) (optional_items inputs items)
    (λ xs. Ok (group_rows places (map named_of xs), columns_at inputs places ++ map item_column xs)) (optional_good inputs items)
    (λ xs good. record { gives = group_gives inputs places known xs good; fits = λ bounds input queried. group_fits inputs places known xs good }))

-- ---- all of them

pub record SuitAll (inputs : List InputOf) (ts : List TransformationOf) (made : List TypedTransformationOf × List InputOf) : Type 0 where
  pub gives : (r last : ResultOf) → Stands inputs r → nodes_result (apply_nodes made.0) r ≡ Some last → Stands made.1 last
  pub fits : BoundsHold → IsInput inputs → AllByRecursion IsQueriedTransformation ts → (r : ResultOf) → Stands inputs r → NodesFit (apply_nodes made.0) r

one_more : (inputs : List InputOf) (t : TransformationOf) (ts : List TransformationOf) (x : TypedTransformationOf × List InputOf) (xs : List TypedTransformationOf × List InputOf)
    → transformation_typing inputs t ≡ Ok x → Suits inputs t x → SuitAll x.1 ts xs → SuitAll inputs (t ∷ ts) (x.0 ∷ xs.0, xs.1)
one_more inputs t ts x xs is first rest = record {
  gives = λ r last stands e.
      let mid = then_from (nodes_result (apply_nodes xs.0)) (node_result (transformation_node x.0) r) last e in
      rest.gives mid.0 last (first.gives r mid.0 stands mid.1) mid.2;
  fits = λ bounds input queried r stands. (
    first.fits bounds input queried.0 r stands,
    λ made e. rest.fits bounds (subst (Told GivesInput) is (transformation_input inputs t input)) queried.1 made (first.gives r made stands e),
  );
}

pub apply_suits : (ts : List TransformationOf) (inputs : List InputOf) → Told (SuitAll inputs ts) (apply_typing inputs ts)
apply_suits [] inputs = record { gives = λ r last stands e. subst (Stands inputs) (same_Some r last e) stands; fits = λ bounds input queried r stands. tt }
apply_suits (t ∷ ts) inputs =
    told_then (λ x. (transformation_typing inputs t ≡ Ok x) × Suits inputs t x) (SuitAll inputs (t ∷ ts)) (transformation_typing inputs t)
    (λ x. apply_typing x.1 ts >>= λ xs. Ok (x.0 ∷ xs.0, xs.1))
    (told_both (λ x. transformation_typing inputs t ≡ Ok x) (Suits inputs t) (transformation_typing inputs t) (told_self (transformation_typing inputs t)) (transformation_suits inputs t))
    (λ x k. told_then (SuitAll x.1 ts) (SuitAll inputs (t ∷ ts)) (apply_typing x.1 ts) (λ xs. Ok (x.0 ∷ xs.0, xs.1)) (apply_suits ts x.1) (λ xs l. one_more inputs t ts x xs k.0 k.1 l))
