-- Comparisons (OData 4.01 URL Conventions, sections 5.1.1.1.1 to 5.1.1.1.6 and 5.1.1.1.11), which are never null.
use Rattle.std.specs.Prelude.{Bool, true, false, ◌||◌, not, List, Option, Some, None}
use Rattle.std.specs.declared.cmp.Ordering.{Ordering}
use Rattle.std.specs.declared.cmp.Ordering.TheVariants.{Less, Equal, Greater}
use Rattle.std.specs.List.{list_any}
use Rattle.std.specs.Ordering.{int_cmp, nat_cmp, ordering_then}
use Rattle.cell_types.specs.declared.comparison.ComparisonOperator.{ComparisonOperator}
use Rattle.cell_types.specs.declared.comparison.ComparisonOperator.TheVariants.{NotEqual, GreaterThan, GreaterOrEqual, LessThan, LessOrEqual}
use Rattle.cell_types.specs.declared.comparison.ComparisonOperator.TheVariants as operators
use Rattle.typed_trees.specs.TypedTree.{DayOf}

-- null equals null, and has no order beside a value
abbrev pub compared : {X : Type 0} → (X → X → Ordering) → Option X → Option X → Option Ordering
compared cmp None None = Some Equal
compared cmp (Some a) (Some b) = Some (cmp a b)
compared cmp _ _ = None

abbrev pub is_equal : Option Ordering → Bool
is_equal (Some Equal) = true
is_equal _ = false

abbrev pub is_greater : Option Ordering → Bool
is_greater (Some Greater) = true
is_greater _ = false

abbrev pub is_less : Option Ordering → Bool
is_less (Some Less) = true
is_less _ = false

abbrev pub holds : ComparisonOperator → Option Ordering → Bool
holds operators.Equal order = is_equal order
holds NotEqual order = not (is_equal order)
holds GreaterThan order = is_greater order
holds GreaterOrEqual order = is_greater order || is_equal order
holds LessThan order = is_less order
holds LessOrEqual order = is_less order || is_equal order

-- a value is one of a list: it equals one of the items
abbrev pub is_among : {X : Type 0} → (X → X → Ordering) → Option X → List (Option X) → Bool
is_among cmp value items = list_any (λ item. is_equal (compared cmp value item)) items

-- by year, then by month, then by day
abbrev pub day_cmp : DayOf → DayOf → Ordering
day_cmp a b = ordering_then (ordering_then (int_cmp a.year b.year) (nat_cmp a.month b.month)) (nat_cmp a.day b.day)
