-- The segments of a path lead where the path does.
use Rattle.std.proofs.Common.{◌≡◌, ◌+◌, ◌<◌, ℕ, zero, suc, Bool, true, false, List, [], ◌∷◌, ◌++◌, refl, length, take, drop, get_or, Ok, Err, sym, ap, ◌∙◌, arith, codes, if◌then◌else◌, length-append}
use Rattle.std.specs.Prelude.{◌==◌}
use Rattle.std.specs.List.{after_first, before_first, list_any, position_or_len}
use Rattle.std.proofs.lemmas.Bool.{cond-false, cond-true, or_parts}
use Rattle.std.proofs.lemmas.Bool.Decides.{nat_tests}
use Rattle.std.proofs.lemmas.List.{get_or_append_left}
use Rattle.std.proofs.lemmas.List.Folds.{list_any_at}
use Rattle.std.proofs.lemmas.List.Sums.{position_or_len_is}
use Rattle.std.proofs.Math.Seq.{drop-append-add, get_or-append_seam, take-append_seam}
use Rattle.table_store.specs.Table.{TableOf}
use Rattle.odata_url.specs.OptionName.{begins_with, dollar_sign}
use Rattle.odata_errors.specs.declared.code.Code.TheVariants.{NotServed}
use Rattle.odata_request.specs.Path.{PathsLead, entity, entity_set, root, set_count}
use Rattle.odata_request.specs.Resource.{count, has_parenthesis, in_table, is_count_path, is_parenthesis, key_resource, other_resource, path_resource, rows, segment_resource, service, table_number, without_end}
use Rattle.odata_request.proofs.PathLemmas.{end_of}

-- ---- a list in which the first that passes stands between two parts
module _ (p : ℕ → Bool) where
  fails_at : (xs : List ℕ) (k : ℕ) → list_any p xs ≡ false → k < length xs → p (get_or xs k 0) ≡ false
  fails_at [] k none less = absurd (omega arith)
  fails_at (x ∷ xs) zero none less = (or_parts (p x) (list_any p xs) none).0
  fails_at (x ∷ xs) (suc k) none less = fails_at xs k (or_parts (p x) (list_any p xs) none).1 (omega arith)

  module _ (xs : List ℕ) (x : ℕ) (ys : List ℕ) (none : list_any p xs ≡ false) (here : p x ≡ true) where
    seam : position_or_len p (xs ++ x ∷ ys) ≡ length xs
    seam =
        position_or_len_is p (xs ++ x ∷ ys) (length xs) 0 (omega (arith, length-append xs (x ∷ ys)))
        (λ k less. ap p (get_or_append_left xs (x ∷ ys) 0 k less) ∙ fails_at xs k none less) (λ _. ap p (get_or-append_seam xs x ys 0) ∙ here)

    some_here : list_any p (xs ++ x ∷ ys) ≡ true
    some_here = list_any_at p (xs ++ x ∷ ys) (length xs) 0 (omega (arith, length-append xs (x ∷ ys))) (ap p (get_or-append_seam xs x ys 0) ∙ here)

    before_seam : before_first p (xs ++ x ∷ ys) ≡ xs
    before_seam = ap (λ n. take n (xs ++ x ∷ ys)) seam ∙ take-append_seam xs (x ∷ ys)

    after_seam : after_first p (xs ++ x ∷ ys) ≡ ys
    after_seam = ap (λ n. drop (n + 1) (xs ++ x ∷ ys)) seam ∙ drop-append-add xs (x ∷ ys) 1

-- ---- one segment
segment_end : (tables : List TableOf) (segment : List ℕ) → 0 < length segment → begins_with dollar_sign segment ≡ false
    → path_resource tables (segment ∷ []) ≡ segment_resource tables segment
segment_end tables segment some unreserved =
    let full : (length segment == 0) ≡ false = grind (arith, nat_tests) in
    cond-false (length segment == 0) (Ok service) (if begins_with dollar_sign segment then Err NotServed else segment_resource tables segment) full
    ∙ cond-false (begins_with dollar_sign segment) (Err NotServed) (segment_resource tables segment) unreserved

unreserved-still : (name text : List ℕ) → begins_with dollar_sign name ≡ false → begins_with dollar_sign (name ++ 40 ∷ text) ≡ false
unreserved-still [] text e = refl
unreserved-still (b ∷ name) text e = e

pub paths_lead : PathsLead
paths_lead tables root is = refl
paths_lead tables (entity_set name) is =
    segment_end tables name is.0 is.1.unreserved
    ∙ cond-false (has_parenthesis name) (key_resource tables (before_first is_parenthesis name) (without_end (after_first is_parenthesis name)))
    (in_table rows (table_number tables name)) is.1.plain
paths_lead tables (set_count name) is =
    let counts : is_count_path name (codes "$count") ≡ true = rw (is.unreserved, is.plain) refl in
    cond-true (is_count_path name (codes "$count")) (in_table count (table_number tables name)) (other_resource (name ∷ codes "$count" ∷ [])) counts
paths_lead tables (entity name text) is =
    let rest = text ++ codes ")" in
    let segment = name ++ 40 ∷ rest in
    segment_end tables segment (omega (arith, length-append name (40 ∷ rest))) (unreserved-still name rest is.unreserved)
    ∙ cond-true (has_parenthesis segment) (key_resource tables (before_first is_parenthesis segment) (without_end (after_first is_parenthesis segment)))
    (in_table rows (table_number tables segment)) (some_here is_parenthesis name 40 rest is.plain refl)
    ∙ ap (λ n. key_resource tables n (without_end (after_first is_parenthesis segment))) (before_seam is_parenthesis name 40 rest is.plain refl)
    ∙ ap (λ t. key_resource tables name (without_end t)) (after_seam is_parenthesis name 40 rest is.plain refl)
    ∙ ap (key_resource tables name) (end_of text)
