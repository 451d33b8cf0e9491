-- Rows that are marked.
use Rattle.std.proofs.Common.{◌≡◌, ℕ, zero, suc, Bool, true, List, [], ◌∷◌, drop, length, length-drop, take, replicate, get_or, refl, sym, ap, ◌∙◌, arith}
use Rattle.std.specs.Prelude.{count_by, filter}
use Rattle.std.proofs.lemmas.List.{drop_more, take-map}
use Rattle.std.proofs.lemmas.List.Sums.{length-filter}
use Rattle.cell_types.specs.Value.{CellValue}
use Rattle.row_columns.specs.Picked.{numbered}
use Rattle.row_selection.specs.Marks.{marked_numbers}
use Rattle.block_filter.specs.Marks.{is_marked, marked}

-- ---- all rows, and rows by their numbers

pub all_marked : {X : Type 0} (n : ℕ) (xs : List X) → length xs ≡ n → marked (replicate n true) xs ≡ xs
all_marked zero [] h = refl
all_marked (suc n) (x ∷ xs) h = ap (λ ys. x ∷ ys) (all_marked n xs (omega arith))
all_marked n xs h = absurd (omega arith)

-- the rows that are marked, by their numbers from one on
numbered_from : (marks : List Bool) (k : ℕ) (rows : List (List CellValue)) → length marks ≡ length (drop k rows) → numbered (marked_numbers k marks) rows ≡ marked marks (drop k rows)
numbered_from [] k rows long = refl
numbered_from (mark ∷ marks) k rows long =
    let next = drop_more rows k [] (omega (arith, length-drop k rows)) in
    let rest = numbered_from marks (suc k) rows (omega (arith, length-drop k rows, length-drop (suc k) rows)) in
    grind (arith, next, rest)

pub numbered_first : (marks : List Bool) (rows : List (List CellValue)) (limit : ℕ) (numbers : List ℕ) → length marks ≡ length rows → numbers ≡ take limit (marked_numbers 0 marks)
    → numbered numbers rows ≡ take limit (marked marks rows)
numbered_first marks rows limit numbers long are =
    rw are (sym (take-map (λ n. get_or rows n []) limit (marked_numbers 0 marks)) ∙ ap (take limit) (numbered_from marks 0 rows long))

-- ---- how many are marked

-- as many as there are marks
marked_filtered : {X : Type 0} (marks : List Bool) (xs : List X) → length marks ≡ length xs → length (marked marks xs) ≡ length (filter is_marked marks)
marked_filtered [] xs h = refl
marked_filtered (mark ∷ marks) [] h = absurd (omega arith)
marked_filtered (mark ∷ marks) (x ∷ xs) h = grind (arith, marked_filtered marks xs)

pub marked_count : {X : Type 0} (marks : List Bool) (xs : List X) → length marks ≡ length xs → length (marked marks xs) ≡ count_by is_marked marks
marked_count marks xs h = marked_filtered marks xs h ∙ length-filter is_marked marks

-- as many as there are numbers of them
numbers_filtered : (start : ℕ) (marks : List Bool) → length (marked_numbers start marks) ≡ length (filter is_marked marks)
numbers_filtered start [] = refl
numbers_filtered start (mark ∷ marks) = grind (arith, numbers_filtered (suc start) marks)

pub numbers_count : (marks : List Bool) → length (marked_numbers 0 marks) ≡ count_by is_marked marks
numbers_count marks = numbers_filtered 0 marks ∙ length-filter is_marked marks
