-- How many bytes rows take, in whatever order they are counted.
use Rattle.std.proofs.Common.{◌≡◌, ◌<◌, ◌≤◌, ℕ, ◌+◌, ◌-◌, ◌*◌, ◌^◌, Bool, true, false, List, [], ◌∷◌, ◌++◌, codes, get_or, length, map, take, refl, sym, ap, ◌∙◌, subst, arith, length-append}
use Rattle.std.specs.Prelude.{if◌then◌else◌, max, min}
use Rattle.std.specs.List.{AllByRecursion, concat, flat_map, join_with_byte, sum_by}
use Rattle.std.specs.List.Sorted.{IsPermutation}
use Rattle.std.proofs.lemmas.List.{get_or-map, get_or_append_left, length-map, take_all}
use Rattle.std.proofs.lemmas.List.Elements.{All-from_recursion, recursion_from_All}
use Rattle.std.proofs.lemmas.List.Folds.{concat-append}
use Rattle.std.proofs.lemmas.List.Sums.{sum_by-cons}
use Rattle.std.proofs.lemmas.List.Sorted.{All-permutation, IsPermutation-map, IsPermutation-sym, length_permutation, sum_by-IsPermutation}
use Rattle.cell_types.specs.Value.{CellValue}
use Rattle.result_rows.specs.Rows.{AreReordered, BeginWith, RowsOf}
use Rattle.reply_text.specs.declared.row_sizes.RowSizes.{RowSizes}
use Rattle.reply_text.specs.Json.{json_count}
use Rattle.reply_text.specs.Pieces.{body_pieces, longest_of, opening_text, row_piece, row_pieces, AreSizesOf, IsNearLongest}
use Rattle.reply_text.specs.RowSizes.{AreCsvSizes, AreJsonSizes, CountFirst, HaveSizes, IsRowFrame}
use Rattle.reply_values.specs.Printed.{json_text, printed_value}
use Rattle.reply_values.specs.Size.{told}
use Rattle.reply_text.proofs.BoundLemmas.{longest_within, pieces_within, sizes_more}
use Rattle.reply_text.proofs.PieceLemmas.{end_pieces}

-- ---- first rows

-- rows after their commas
abbrev later : Bool → List (List ℕ) → List (List CellValue) → List (List ℕ)
later json names rows = map (row_piece json names 1) rows

-- one row more
pub row_more : (json : Bool) (rows : RowsOf) (names : List (List ℕ)) (first : List (List CellValue)) (width frame size : ℕ) (old new : RowSizes) → IsRowFrame json names width frame
    → BeginWith rows names first → old.len < length first → length (get_or first old.len []) ≡ width → size ≡ told (frame + length (flat_map (printed_value json) (get_or first old.len [])))
    → new.len ≡ old.len + 1 → new.all ≡ told (old.all + size) → new.longest ≡ max old.longest size → CountFirst json old rows → CountFirst json new rows
row_more json rows names first width frame size old new is begin inside wide size_is len all longest has =
    let row = get_or first old.len [] in
    let pieces = later json rows.names rows.rows in
    let within : old.len < length rows.rows = omega (arith, inside, ap length begin.rows_are, length-append first begin.rest) in
    let at : get_or pieces old.len [] ≡ row_piece json names 1 row =
    get_or-map (row_piece json rows.names 1) rows.rows old.len [] [] within ∙ ap (row_piece json rows.names 1) (ap (λ rs. get_or rs old.len []) begin.rows_are ∙ get_or_append_left first begin.rest [] old.len inside)
    ∙ ap (λ ns. row_piece json ns 1 row) begin.names_are in
    record {
      within = omega (arith, len, within);
      counted = subst (λ n. AreSizesOf (take n pieces) new.all new.longest) (sym len)
          (sizes_more pieces old.len _ _ size _ _ (omega (arith, within, length-map rows.rows (row_piece json rows.names 1))) has.counted (size_is ∙ sym (ap (λ (p : List ℕ). told (length p)) at ∙ is row wide)) all longest);
    }

pub none_are : (json : Bool) (sizes : RowSizes) (rows : RowsOf) → AreJsonSizes sizes 0 rows → AreCsvSizes sizes 0 rows → CountFirst json sizes rows
none_are true sizes rows objects lines = objects.1
none_are false sizes rows objects lines = lines.1

-- ---- in any order

longest_least : (pieces : List (List ℕ)) (most : ℕ) → AllByRecursion (λ piece. length piece ≤ most) pieces → longest_of pieces ≤ most
longest_least [] most all = omega arith
longest_least (piece ∷ pieces) most all = omega (arith, all.0, longest_least pieces most all.1)

longest_no_less : (xs ys : List (List ℕ)) → IsPermutation xs ys → longest_of ys ≤ longest_of xs
longest_no_less xs ys moved =
    let IsWithin : List ℕ → Type 0 = λ piece. length piece ≤ longest_of xs in
    longest_least ys (longest_of xs)
    (recursion_from_All IsWithin ys (All-permutation IsWithin xs ys moved (All-from_recursion IsWithin xs (pieces_within xs (longest_of xs) (omega arith)))))

sum_is : (pieces : List (List ℕ)) → length (concat pieces) ≡ sum_by length pieces
sum_is [] = refl
sum_is (piece ∷ pieces) = length-append piece (concat pieces) ∙ ap (λ n. length piece + n) (sum_is pieces) ∙ sym (sum_by-cons length piece pieces)

sizes_moved : (xs ys : List (List ℕ)) (all longest : ℕ) → IsPermutation xs ys → AreSizesOf xs all longest → AreSizesOf ys all longest
sizes_moved xs ys all longest moved are = record {
  counted = are.counted ∙ ap told (sum_is xs ∙ sym (sum_by-IsPermutation length xs ys moved) ∙ sym (sum_is ys));
  most = omega (arith, are.most, longest_no_less xs ys moved, longest_no_less ys xs (IsPermutation-sym xs ys moved));
}

-- ---- the body

-- the first row is shorter by its comma
abbrev comma : Bool → ℕ
comma json = if json then 1 else 0

first_long : (json : Bool) (names : List (List ℕ)) (row : List CellValue) → (length (row_piece json names 1 row) ≡ length (row_piece json names 0 row) + comma json) × (comma json ≤ 1)
first_long true names row = (omega arith, omega arith)
first_long false names row = (omega arith, omega arith)

record AreApart (pieces after : List (List ℕ)) (less : ℕ) : Type 0 where
  all : length (concat pieces) + less ≡ length (concat after)
  least : longest_of pieces ≤ longest_of after
  most : longest_of after ≤ longest_of pieces + 1

rows_apart : (json : Bool) (names : List (List ℕ)) (rows : List (List CellValue)) → AreApart (row_pieces json names rows) (later json names rows) (min (comma json) (length rows))
rows_apart json names [] = record { all = omega arith; least = omega arith; most = omega arith }
rows_apart json names (row ∷ rows) =
    let first = first_long json names row in
    let rest = later json names rows in
    record {
      all = omega (arith, first.0, first.1, length-append (row_piece json names 0 row) (concat rest), length-append (row_piece json names 1 row) (concat rest));
      least = omega (arith, first.0);
      most = omega (arith, first.0, first.1);
    }

longest_append : (xs ys : List (List ℕ)) → longest_of (xs ++ ys) ≡ max (longest_of xs) (longest_of ys)
longest_append [] ys = omega arith
longest_append (x ∷ xs) ys = omega (arith, longest_append xs ys)

end_long : (json : Bool) → (length (concat (end_pieces json)) ≡ 2 * comma json) × (longest_of (end_pieces json) ≡ 2 * comma json) × (comma json ≤ 1)
end_long true = (refl, refl, omega arith)
end_long false = (refl, refl, omega arith)

-- no end is longer than the opening
opening_long : (json : Bool) (rows : RowsOf) → 2 ≤ length (opening_text json rows)
opening_long true rows = let long = length-append (json_count rows.count) (json_text (codes "value") ++ codes ":[") in grind (arith, long)
opening_long false rows = omega (arith, length-append (join_with_byte 44 rows.names) (13 ∷ 10 ∷ []))

-- all pieces, with what comes before and after the rows
pub record AreBodySizes (json : Bool) (rows : RowsOf) (now last : ℕ) : Type 0 where
  pub all : now ≡ told (length (concat (body_pieces json rows)))
  pub longest : now < 2 ^ 64 - 1 → IsNearLongest (body_pieces json rows) last

pub all_sizes : (json : Bool) (rows : RowsOf) (sizes : RowSizes) (opening end all most now last : ℕ) → HaveSizes json sizes rows → sizes.len ≡ length rows.rows
    → opening ≡ length (opening_text json rows) → end ≡ 2 * comma json - min sizes.len 1 → all ≡ told (sizes.all + opening) → most ≡ max sizes.longest opening
    → now ≡ told (all + end) → last ≡ max most end → AreBodySizes json rows now last
all_sizes json rows sizes opening end all most now last has whole opening_is end_is all_is most_is now_is last_is =
    let others = has.1 in
    let moved : AreReordered others rows = has.2 in
    let are = has.4 in
    let ours = row_pieces json rows.names rows.rows in
    let ends = end_pieces json in
    let every : take sizes.len (later json others.names others.rows) ≡ later json rows.names others.rows =
    take_all sizes.len (later json others.names others.rows) (omega (arith, whole, length-map others.rows (row_piece json others.names 1), length_permutation others.rows rows.rows moved.moved))
    ∙ ap (λ ns. later json ns others.rows) (sym moved.names) in
    let counted = sizes_moved (later json rows.names others.rows) (later json rows.names rows.rows) sizes.all sizes.longest (IsPermutation-map (row_piece json rows.names 1) others.rows rows.rows moved.moved)
    (subst (λ l. AreSizesOf l sizes.all sizes.longest) every are.counted) in
    let apart = rows_apart json rows.names rows.rows in
    let longest = longest_append ours ends in
    let lengths = end_long json in
    let long = opening_long json rows in
    let sum : now ≡ told (length (concat (body_pieces json rows))) =
    omega (
      arith,
      counted.counted,
      apart.all,
      whole,
      opening_is,
      end_is,
      all_is,
      now_is,
      lengths.0,
      lengths.2,
      length-append (opening_text json rows) (concat (ours ++ ends)),
      ap length (concat-append ours ends),
      length-append (concat ours) (concat ends),
    ) in
    record {
      all = sum;
      longest = λ less. record {
        least = omega (arith, less, sum, longest_within (body_pieces json rows), counted.most, apart.least, longest, lengths.1, lengths.2, long, opening_is, most_is, last_is);
        most = omega (arith, counted.most, apart.most, longest, lengths.2, long, opening_is, end_is, most_is, last_is);
      };
    }
