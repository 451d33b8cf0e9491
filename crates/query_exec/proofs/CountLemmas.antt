-- How many rows pass the conditions of a plan.
use Rattle.std.proofs.Common.{◌≡◌, ℕ, ◌≤◌, Bool, ◌&&◌, cond, Option, Some, List, [], ◌∷◌, length, inl, inr, refl, sym, ap, ◌∙◌, arith}
use Rattle.std.specs.Prelude.{count_by, filter, option_map}
use Rattle.std.specs.List.{list_any}
use Rattle.std.proofs.lemmas.Bool.{cases_Bool}
use Rattle.std.proofs.lemmas.List.Sums.{count_by-le-length, length-filter, sum_by-cons}
use Rattle.std.proofs.lemmas.Option.{option_and_then_some}
use Rattle.cell_types.proofs.CaseLaws.{cond-None_some}
use Rattle.cell_types.specs.Value.{CellValue}
use Rattle.typed_trees.specs.TypedTree.{TruthExprOf}
use Rattle.query_meaning.specs.Filter.{faults, passes, passes_each, passing}
use Rattle.block_filter.specs.Conditions.{passing_all}
use Rattle.result_rows.specs.Selected.{selected_rows}
use Rattle.result_rows.proofs.SelectedLemmas.{as_many_rows}
use Rattle.query_exec.proofs.ConditionLemmas.{mapped_of}

-- where there are no conditions all do
all_counted : (rows : List (List CellValue)) → length rows ≡ count_by (passes_each []) rows
all_counted [] = refl
all_counted (row ∷ rows) = rw (sum_by-cons (λ r. cond (passes_each [] r) 1 0) row rows, ← (all_counted rows)) (omega arith)

-- of the rows that pass a condition those pass others too that pass both
filter-filter : (p q : List CellValue → Bool) (rows : List (List CellValue)) → filter q (filter p rows) ≡ filter (λ r. p r && q r) rows
filter-filter p q [] = refl
filter-filter p q (row ∷ rows) = rw (← (filter-filter p q rows)) (elim (cases_Bool (p row)) [ inl e ↦ rw e refl | inr e ↦ rw e refl ])

-- as many rows pass conditions in turn as these are all true on
pub passed_count : (es : List TruthExprOf) (rows kept : List (List CellValue)) → passing_all es rows ≡ Some kept → length kept ≡ count_by (passes_each es) rows
passed_count [] rows kept is = let same : rows ≡ kept = cc in ap length (sym same) ∙ all_counted rows
passed_count (e ∷ es) rows kept is =
    let both : List CellValue → Bool = λ r. passes e r && passes_each es r in
    option_and_then_some (passing_all es) (passing e rows) kept is (λ mid some rest.
    passed_count es mid kept rest ∙ rw (← (cond-None_some (list_any (faults e) rows) (filter (passes e) rows) mid some))
    (rw (← (length-filter (passes_each es) (filter (passes e) rows)), ← (length-filter both rows)) (ap length (filter-filter (passes e) (passes_each es) rows))))

-- no more rows pass than there are, whichever columns are picked of them
pub few_pass : (es : List TruthExprOf) (picked : Option (List ℕ)) (rows kept : List (List CellValue)) → option_map (selected_rows picked) (passing_all es rows) ≡ Some kept
    → length kept ≤ length rows
few_pass es picked rows kept is =
    let some = mapped_of (selected_rows picked) (passing_all es rows) kept is in
    omega (arith, ap length some.2, as_many_rows picked some.0, passed_count es rows some.0 some.1, count_by-le-length (passes_each es) rows)
