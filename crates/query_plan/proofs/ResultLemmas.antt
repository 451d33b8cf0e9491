-- The columns of a result of `$apply` are an input.
use Rattle.std.proofs.Common.{◌≡◌, inl, inr, ℕ, zero, suc, ◌*◌, ◌≤◌, ◌||◌, Option, Some, None, Ok, List, [], ◌∷◌, ◌++◌, map, subst, arith}
use Rattle.std.specs.Prelude.{slice_get}
use Rattle.std.specs.List.{cons_option}
use Rattle.std.proofs.lemmas.Bool.{cases_Bool}
use Rattle.odata_parse.specs.declared.tree.AggregationMethod.{AggregationMethod}
use Rattle.odata_parse.specs.declared.tree.AggregationMethod.TheVariants as method
use Rattle.odata_parse.specs.Tree.{AggregateItemOf, aggregated, counted, TransformationOf, filter_by, aggregate, group_by}
use Rattle.odata_types.specs.declared.types.ColumnType.{ColumnType}
use Rattle.cell_types.specs.declared.kind.ColumnKind.{ColumnKind}
use Rattle.cell_types.specs.declared.kind.ColumnKind.TheVariants.{Text, Number}
use Rattle.cell_types.specs.declared.kind.NumberKind.TheVariants as numbers
use Rattle.odata_types.specs.declared.types.TheConstants.{MOST_SIZE}
use Rattle.odata_types.specs.Columns.{InputOf}
use Rattle.odata_types.specs.Result.{◌>>=◌}
use Rattle.typed_trees.specs.TypedTree.{TruthExprOf}
use Rattle.odata_types.specs.Typing.{filter_typing, place_of}
use Rattle.odata_query.specs.declared.aggregate.Aggregate.{Aggregate}
use Rattle.odata_query.specs.declared.aggregate.TheConstants.{COUNT_SIZE, MOST_ROWS}
use Rattle.odata_query.specs.Aggregate.{ItemOf, TypedTransformationOf, filter_rows, aggregate_rows, group_rows}
use Rattle.odata_query.specs.Apply.{apply_typing, columns_at, computed_typing, free_typing, grouped_places, has_alias, item_column, item_typing, items_typing, kind_sum, method_at, method_typing, named_of, optional_items, sum_typing, transformation_typing}
use Rattle.odata_query.specs.Selection.{has_name}
use Rattle.odata_types.specs.Input.{IsBounded, IsInput}
use Rattle.query_plan.proofs.TypingLemmas.{Told, told_any, told_then, told_within}

-- ---- items

abbrev IsBoundedPair : Aggregate × ColumnType → Type 0
IsBoundedPair made = IsBounded made.1

kind_bounded : (place : ℕ) (kind : ColumnKind) (size : ℕ) → Told IsBoundedPair (kind_sum place kind size)
kind_bounded place (Number numbers.Integer) b = told_within IsBoundedPair (b * MOST_ROWS) _ (λ h. h)
kind_bounded place Text b = tt
kind_bounded place (Number numbers.Boolean) b = tt
kind_bounded place (Number numbers.Date) b = tt
kind_bounded place (Number numbers.Decimal) b = told_within IsBoundedPair (b * MOST_ROWS) _ (λ h. h)

sum_bounded : (place : ℕ) (type : ColumnType) → Told IsBoundedPair (sum_typing place type)
sum_bounded place type = kind_bounded place type.kind type.size

count_bounded : COUNT_SIZE ≤ MOST_SIZE
count_bounded = omega arith

method_bounded : (m : AggregationMethod) (place : ℕ) (type : ColumnType) → IsBounded type → Told IsBoundedPair (method_typing m place type)
method_bounded method.Sum place type h = sum_bounded place type
method_bounded method.Min place type h = h
method_bounded method.Max place type h = h
method_bounded method.CountDistinct place type h = count_bounded

abbrev IsBoundedColumn : Option InputOf → Type 0
IsBoundedColumn None = Unit {0}
IsBoundedColumn (Some c) = IsBounded c.column_type

column_bounded : (inputs : List InputOf) (place : ℕ) → IsInput inputs → IsBoundedColumn (slice_get inputs place)
column_bounded [] place h = tt
column_bounded (c ∷ cs) zero h = h.0
column_bounded (c ∷ cs) (suc place) h = column_bounded cs place h.1

method_at_bounded : (m : AggregationMethod) (place : ℕ) (o : Option InputOf) → IsBoundedColumn o → Told IsBoundedPair (method_at m place o)
method_at_bounded m place None h = tt
method_at_bounded m place (Some c) h = method_bounded m place c.column_type h

abbrev IsBoundedItem : ItemOf → Type 0
IsBoundedItem x = IsBounded x.column_type

free_bounded : (inputs : List InputOf) (earlier : List ItemOf) (made : Aggregate × ColumnType) (alias : List ℕ) → IsBounded made.1
    → Told IsBoundedItem (free_typing inputs earlier made alias)
free_bounded inputs earlier made alias h = elim (cases_Bool (has_name inputs alias || has_alias earlier alias)) [ inl e ↦ rw e tt | inr e ↦ rw e h ]

item_bounded : (inputs : List InputOf) (earlier : List ItemOf) (item : AggregateItemOf) → IsInput inputs → Told IsBoundedItem (item_typing inputs earlier item)
item_bounded inputs earlier (aggregated name m alias) h =
    told_then IsBoundedPair IsBoundedItem (computed_typing inputs name m) (λ made. free_typing inputs earlier made alias)
    (method_at_bounded m (place_of inputs name) (slice_get inputs (place_of inputs name)) (column_bounded inputs (place_of inputs name) h))
    (λ made k. free_bounded inputs earlier made alias k)
item_bounded inputs earlier (counted alias) h = free_bounded inputs earlier _ alias count_bounded

abbrev AreInput : List ItemOf → Type 0
AreInput xs = IsInput (map item_column xs)

items_bounded : (inputs : List InputOf) (earlier : List ItemOf) (items : List AggregateItemOf) → IsInput inputs → Told AreInput (items_typing inputs earlier items)
items_bounded inputs earlier [] h = tt
items_bounded inputs earlier (item ∷ items) h =
    told_then IsBoundedItem AreInput (item_typing inputs earlier item) (λ x. items_typing inputs (earlier ++ x ∷ []) items >>= λ xs. Ok (x ∷ xs)) (item_bounded inputs earlier item h)
    (λ x k. told_then AreInput AreInput (items_typing inputs (earlier ++ x ∷ []) items) (λ xs. Ok (x ∷ xs)) (items_bounded inputs (earlier ++ x ∷ []) items h) (λ xs l. (k, l)))

-- ---- transformations

cons_bounded : (o : Option InputOf) (cs : List InputOf) → IsBoundedColumn o → IsInput cs → IsInput (cons_option o cs)
cons_bounded None cs h k = k
cons_bounded (Some c) cs h k = (h, k)

columns_bounded : (inputs : List InputOf) (places : List ℕ) → IsInput inputs → IsInput (columns_at inputs places)
columns_bounded inputs [] h = tt
columns_bounded inputs (place ∷ places) h =
    cons_bounded (slice_get inputs place) (columns_at inputs places) (column_bounded inputs place h) (columns_bounded inputs places h)

both_inputs : (cs ds : List InputOf) → IsInput cs → IsInput ds → IsInput (cs ++ ds)
both_inputs [] ds h k = k
both_inputs (c ∷ cs) ds h k = (h.0, both_inputs cs ds h.1 k)

abbrev pub GivesInput : TypedTransformationOf × List InputOf → Type 0
GivesInput made = IsInput made.1

optional_bounded : (inputs : List InputOf) (items : Option (List AggregateItemOf)) → IsInput inputs → Told AreInput (optional_items inputs items)
optional_bounded inputs None h = tt
optional_bounded inputs (Some items) h = items_bounded inputs [] items h

pub transformation_input : (inputs : List InputOf) (t : TransformationOf) → IsInput inputs → Told GivesInput (transformation_typing inputs t)
transformation_input inputs (filter_by e) h =
    told_then (λ (t : TruthExprOf). Unit {0}) GivesInput (filter_typing inputs e) (λ t. Ok (filter_rows t, inputs)) (told_any (filter_typing inputs e)) (λ t k. h)
transformation_input inputs (aggregate items) h =
    told_then AreInput GivesInput (items_typing inputs [] items) (λ xs. Ok (aggregate_rows (map named_of xs), map item_column xs)) (items_bounded inputs [] items h) (λ xs k. k)
transformation_input inputs (group_by names items) h =
    told_then (λ (places : List ℕ). Unit {0}) GivesInput (grouped_places inputs names)
    (λ places. optional_items inputs items >>= λ xs. Ok (group_rows places (map named_of xs), columns_at inputs places ++ map item_column xs)) (told_any (grouped_places inputs names))
    (λ places k. told_then AreInput GivesInput (optional_items inputs items) (λ xs. Ok (group_rows places (map named_of xs), columns_at inputs places ++ map item_column xs))
    (optional_bounded inputs items h) (λ xs l. both_inputs (columns_at inputs places) (map item_column xs) (columns_bounded inputs places h) l))

abbrev pub GivesInputs : List TypedTransformationOf × List InputOf → Type 0
GivesInputs made = IsInput made.1

pub apply_input : (ts : List TransformationOf) (inputs : List InputOf) → IsInput inputs → Told GivesInputs (apply_typing inputs ts)
apply_input [] inputs h = h
apply_input (t ∷ ts) inputs h =
    told_then GivesInput GivesInputs (transformation_typing inputs t) (λ x. apply_typing x.1 ts >>= λ xs. Ok (x.0 ∷ xs.0, xs.1)) (transformation_input inputs t h)
    (λ x k. told_then GivesInputs GivesInputs (apply_typing x.1 ts) (λ xs. Ok (x.0 ∷ xs.0, xs.1)) (apply_input ts x.1 k) (λ xs l. l))

pub result_input : (inputs outputs : List InputOf) (ts : List TransformationOf) (made : List TypedTransformationOf) → IsInput inputs
    → apply_typing inputs ts ≡ Ok (made, outputs) → IsInput outputs
result_input inputs outputs ts made h e = subst (Told GivesInputs) e (apply_input ts inputs h)
