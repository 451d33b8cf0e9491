-- Blocks that are not admitted have no say.
use Rattle.std.proofs.Common.{◌≡◌, inl, inr, ℕ, Bool, true, false, cond, Option, Some, None, List, [], ◌∷◌, ◌++◌, refl, sym, ap, ◌∙◌}
use Rattle.std.specs.Prelude.{◌*◌, drop, filter}
use Rattle.std.specs.List.{All, AllByRecursion, cons_option, filter_map, flat_map}
use Rattle.std.proofs.lemmas.Bool.{and_parts, cases_Bool, false≢true}
use Rattle.std.proofs.lemmas.List.Elements.{All-drop, All-take, All-weaker, filter-append, recursion_from_All}
use Rattle.block_summary.specs.declared.block.TheConstants.{BLOCK_ROWS}
use Rattle.block_summary.specs.Blocks.{block_at}
use Rattle.csvw_meta.specs.Schema.{SchemaOf}
use Rattle.odata_types.specs.Columns.{InputOf}
use Rattle.odata_types.specs.Schema.{inputs_of}
use Rattle.typed_trees.specs.TypedTree.{TruthExprOf, conjunction}
use Rattle.odata_types.specs.Input.{IsTableRow}
use Rattle.row_eval.specs.declared.truth.Truth.{Truth}
use Rattle.row_eval.specs.declared.truth.Truth.TheVariants.{False, Null, True}
use Rattle.row_eval.specs.Outcome.{truth_outcome}
use Rattle.query_meaning.specs.Filter.{is_true, passes, passes_each}
use Rattle.query_meaning.specs.Fitting.{AreTableRows}
use Rattle.query_plan.specs.Laws.{TestsArePassed, UnadmittedBlocksPassNone}
use Rattle.query_plan.specs.Push.{conjuncts}
use Rattle.query_plan.specs.Scan.{TestOf, admits_all, passes_tests, rows_of_blocks}
use Rattle.query_plan.specs.Tests.{test_of}
use Rattle.query_plan.specs.Types.{IsTruthOver}
use Rattle.query_plan.proofs.PushLemmas.{Row}
use Rattle.query_plan.proofs.ScanLemmas.{none_here, none_there, false_unless}

-- ---- conjuncts compare columns as what they are, where the whole does

over_both : (inputs : List InputOf) (xs ys : List TruthExprOf) → AllByRecursion (IsTruthOver inputs) xs → AllByRecursion (IsTruthOver inputs) ys → AllByRecursion (IsTruthOver inputs) (xs ++ ys)
over_both inputs [] ys h k = k
over_both inputs (x ∷ xs) ys h k = (h.0, over_both inputs xs ys h.1 k)

over_conjuncts : (inputs : List InputOf) (e : TruthExprOf) → IsTruthOver inputs e → AllByRecursion (IsTruthOver inputs) (conjuncts e)
over_conjuncts inputs (conjunction a b) h = over_both inputs (conjuncts a) (conjuncts b) (over_conjuncts inputs a h.0) (over_conjuncts inputs b h.1)
over_conjuncts inputs e h = (h, tt)

pub over_split : (inputs : List InputOf) (es : List TruthExprOf) → AllByRecursion (IsTruthOver inputs) es → AllByRecursion (IsTruthOver inputs) (flat_map conjuncts es)
over_split inputs [] h = tt
over_split inputs (e ∷ es) h = over_both inputs (conjuncts e) (flat_map conjuncts es) (over_conjuncts inputs e h.0) (over_split inputs es h.1)

-- ---- a row on which all conditions are true passes all tests

is-true : (o : Option Truth) → is_true o ≡ true → o ≡ Some True
is-true None h = absurd (false≢true h)
is-true (Some False) h = absurd (false≢true h)
is-true (Some Null) h = absurd (false≢true h)
is-true (Some True) h = refl

module _ (law : TestsArePassed) (schema : SchemaOf) (row : Row) (is : IsTableRow schema.columns row) where
  abbrev inputs : List InputOf
  inputs = inputs_of schema

  tests_from : (e : TruthExprOf) (o : Option TestOf) (more : List TestOf) → test_of e ≡ o → IsTruthOver inputs e → passes e row ≡ true → passes_tests more row ≡ true
      → passes_tests (cons_option o more) row ≡ true
  tests_from e None more k over h rest = rest
  tests_from e (Some t) more k over h rest = rw (law schema row e t is over k (is-true (truth_outcome e row) h)) rest

  tests_pass : (es : List TruthExprOf) → AllByRecursion (IsTruthOver inputs) es → passes_each es row ≡ true → passes_tests (filter_map test_of es) row ≡ true
  tests_pass [] over h = refl
  tests_pass (e ∷ es) over h =
      tests_from e (test_of e) (filter_map test_of es) refl over.0 (and_parts (passes e row) (passes_each es row) h).0
      (tests_pass es over.1 (and_parts (passes e row) (passes_each es row) h).1)

-- ---- blocks

none_of_these : (p q : Row → Bool) (rows : List Row) → AllByRecursion (λ row. p row ≡ true → q row ≡ true) rows → filter q rows ≡ [] → filter p rows ≡ []
none_of_these p q [] each h = refl
none_of_these p q (row ∷ rows) each h =
    let fails : p row ≡ false = false_unless (p row) (q row) each.0 (none_here (q row) row (filter q rows) h) in
    rw fails (none_of_these p q rows each.1 (none_there (q row) row (filter q rows) h))

filter_admitted : (p : Row → Bool) (ok : ℕ → Bool) (rows : List Row) → ((n : ℕ) → ok n ≡ false → filter p (block_at rows n) ≡ []) → (numbers : List ℕ)
    → filter p (rows_of_blocks rows (filter ok numbers)) ≡ filter p (rows_of_blocks rows numbers)
filter_admitted p ok rows none [] = refl
filter_admitted p ok rows none (n ∷ ns) =
    let more = filter ok ns in
    elim (cases_Bool (ok n)) [
      | inl e ↦
          ap (λ (c : Bool). filter p (rows_of_blocks rows (cond c (n ∷ more) more))) e
          ∙ filter-append p (block_at rows n) (rows_of_blocks rows more)
          ∙ ap (λ (xs : List Row). filter p (block_at rows n) ++ xs) (filter_admitted p ok rows none ns)
          ∙ sym (filter-append p (block_at rows n) (rows_of_blocks rows ns))
      | inr e ↦
          ap (λ (c : Bool). filter p (rows_of_blocks rows (cond c (n ∷ more) more))) e
          ∙ filter_admitted p ok rows none ns
          ∙ ap (λ (xs : List Row). xs ++ filter p (rows_of_blocks rows ns)) (sym (none n e))
          ∙ sym (filter-append p (block_at rows n) (rows_of_blocks rows ns))
    ]

-- of conditions that compare columns as what they are, on the rows of a table
pub same_admitted : UnadmittedBlocksPassNone → TestsArePassed → (schema : SchemaOf) (es : List TruthExprOf) → AllByRecursion (IsTruthOver (inputs_of schema)) es
    → (rows : List Row) → AreTableRows schema rows → (numbers : List ℕ)
    → filter (passes_each es) (rows_of_blocks rows (filter (λ number. admits_all (filter_map test_of es) (block_at rows number)) numbers))
    ≡ filter (passes_each es) (rows_of_blocks rows numbers)
same_admitted unadmitted passed schema es over rows are numbers =
    let tests = filter_map test_of es in
    let p = passes_each es in
    let none : (n : ℕ) → admits_all tests (block_at rows n) ≡ false → filter p (block_at rows n) ≡ [] = λ n e.
    let each : All (IsTableRow schema.columns) (block_at rows n) =
    All-take (IsTableRow schema.columns) BLOCK_ROWS (drop (n * BLOCK_ROWS) rows) (All-drop (IsTableRow schema.columns) (n * BLOCK_ROWS) rows are.each) in
    none_of_these p (passes_tests tests) (block_at rows n)
    (recursion_from_All (λ row. p row ≡ true → passes_tests tests row ≡ true) (block_at rows n)
    (All-weaker (IsTableRow schema.columns) (λ row. p row ≡ true → passes_tests tests row ≡ true)
    (λ row is. tests_pass passed schema row is es over) (block_at rows n) each))
    (unadmitted tests (block_at rows n) e) in
    filter_admitted p (λ number. admits_all tests (block_at rows number)) rows none numbers
