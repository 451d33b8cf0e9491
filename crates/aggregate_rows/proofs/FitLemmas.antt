-- Aggregates that can be computed of some rows can be of some of them.
use Rattle.std.proofs.Common.{◌≤◌, ℕ, ℤ, Bool, Option, Some, None, List, [], ◌∷◌, ◌++◌, length, filter, subst, inl, inr, arith}
use Rattle.std.specs.Prelude.{unsigned_abs}
use Rattle.std.specs.List.{AllByRecursion, cons_option, filter_map}
use Rattle.std.proofs.Math.Nat.{mul-le-mul_left}
use Rattle.std.proofs.lemmas.Bool.{cases_Bool}
use Rattle.std.proofs.lemmas.List.{length-append}
use Rattle.std.proofs.lemmas.List.Elements.{All-from_recursion, filter_map-append, recursion_from_All}
use Rattle.cell_types.specs.Value.{CellValue}
use Rattle.row_eval.specs.Row.{cell, decimal_in, integer_in}
use Rattle.odata_query.specs.declared.aggregate.Aggregate.{Aggregate}
use Rattle.odata_query.specs.declared.aggregate.Aggregate.TheVariants.{Count, SumOfIntegers, SumOfDecimals}
use Rattle.query_meaning.specs.Fitting.{AreSummable}
use Rattle.cell_types.proofs.ListLaws.{AllByRecursion-weaker, length-filter-le}
use Rattle.aggregate_rows.specs.Tallies.{FitsAll}
use Rattle.aggregate_rows.proofs.ListLemmas.{all_behind, all_front}

-- ---- sums of some of the rows fit

module _ {X : Type 0} (f : X → Option ℤ) (keeps : X → Bool) (P : ℤ → Type 0) where
  behind_one : (o : Option ℤ) (ns : List ℤ) → AllByRecursion P (cons_option o ns) → AllByRecursion P ns
  behind_one None ns a = a
  behind_one (Some n) ns a = a.1

  one_more : (o : Option ℤ) (ns ms : List ℤ) → (AllByRecursion P ns → AllByRecursion P ms) → AllByRecursion P (cons_option o ns) → AllByRecursion P (cons_option o ms)
  one_more None ns ms more a = more a
  one_more (Some n) ns ms more a = (a.0, more a.1)

  all_kept : (xs : List X) → AllByRecursion P (filter_map f xs) → AllByRecursion P (filter_map f (filter keeps xs))
  all_kept [] a = a
  all_kept (x ∷ xs) a = elim (cases_Bool (keeps x)) [
    | inl e ↦ rw e (one_more (f x) (filter_map f xs) (filter_map f (filter keeps xs)) (all_kept xs) a)
    | inr e ↦ rw e (all_kept xs (behind_one (f x) (filter_map f xs) a))
  ]

-- fewer numbers of fewer rows
fewer_fit : {X : Type 0} (f : X → Option ℤ) (xs zs : List X) → length zs ≤ length xs
    → ((P : ℤ → Type 0) → AllByRecursion P (filter_map f xs) → AllByRecursion P (filter_map f zs))
    → AreSummable (filter_map f xs) (length xs) → AreSummable (filter_map f zs) (length zs)
fewer_fit f xs zs less some fit =
    let most = mul-le-mul_left fit.bound less in
    let small = fit.small in
    record {
      bound = fit.bound;
      each = All-from_recursion (λ n. unsigned_abs n ≤ fit.bound) (filter_map f zs)
          (some (λ n. unsigned_abs n ≤ fit.bound) (recursion_from_All (λ n. unsigned_abs n ≤ fit.bound) (filter_map f xs) fit.each));
      small = omega arith;
    }

pub rest_fit : {X : Type 0} (f : X → Option ℤ) (xs ys : List X) → AreSummable (filter_map f (xs ++ ys)) (length (xs ++ ys)) → AreSummable (filter_map f ys) (length ys)
rest_fit f xs ys =
    fewer_fit f (xs ++ ys) ys (let e = length-append xs ys in omega arith)
    (λ P a. all_behind P (filter_map f xs) (filter_map f ys) (subst (AllByRecursion P) (filter_map-append f xs ys) a))

-- ---- so can each aggregate be

module _ (width : ℕ) (rows fewer : List (List CellValue)) (less : length fewer ≤ length rows)
    (some : (f : List CellValue → Option ℤ) (P : ℤ → Type 0) → AllByRecursion P (filter_map f rows) → AllByRecursion P (filter_map f fewer)) where
  fits_fewer : (a : Aggregate) → FitsAll width rows a → FitsAll width fewer a
  fits_fewer Count fit = omega (arith, fit, less)
  fits_fewer (SumOfIntegers place) fit = (fit.0, fewer_fit (λ row. cell integer_in row place) rows fewer less (some (λ row. cell integer_in row place)) fit.1)
  fits_fewer (SumOfDecimals place) fit = (fit.0, fewer_fit (λ row. cell decimal_in row place) rows fewer less (some (λ row. cell decimal_in row place)) fit.1)
  fits_fewer a fit = fit

pub all_fit_kept : (width : ℕ) (keeps : List CellValue → Bool) (rows : List (List CellValue)) (aggregates : List Aggregate) → AllByRecursion (FitsAll width rows) aggregates
    → AllByRecursion (FitsAll width (filter keeps rows)) aggregates
all_fit_kept width keeps rows = AllByRecursion-weaker (FitsAll width rows) (FitsAll width (filter keeps rows))
    (fits_fewer width rows (filter keeps rows) (length-filter-le keeps rows) (λ f P. all_kept f keeps P rows))

pub all_fit_front : (width : ℕ) (rows more : List (List CellValue)) (aggregates : List Aggregate) → AllByRecursion (FitsAll width (rows ++ more)) aggregates
    → AllByRecursion (FitsAll width rows) aggregates
all_fit_front width rows more = AllByRecursion-weaker (FitsAll width (rows ++ more)) (FitsAll width rows)
    (fits_fewer width (rows ++ more) rows (let e = length-append rows more in omega arith)
    (λ f P a. all_front P (filter_map f rows) (filter_map f more) (subst (AllByRecursion P) (filter_map-append f rows more) a)))
