-- The bodies of answers are the texts of their trees, as the kit's `json` prints their tokens.
use Rattle.std.proofs.Common.{◌≡◌, ℕ, pos, ◌<◌, ◌≤◌, true, false, Option, None, Some, List, [], ◌∷◌, ◌++◌, refl, sym, ap, ◌∙◌, arith, append_assoc, append-nil}
use Rattle.std.specs.Prelude.{◌^◌, codes, map, IfSome}
use Rattle.std.specs.List.{flat_map, join_with_byte, zip, AllByRecursion}
use Rattle.std.specs.Fmt.{decimal}
use Rattle.std.proofs.Math.Nat.{max-le}
use Rattle.json.specs.Token.{Token, end_object}
use Rattle.json.specs.Print.{escape_byte, print, print_from, quoted}
use Rattle.json.specs.Json as json
use Rattle.json.specs.Json.{document}
use Rattle.json.specs.Tree.{depth, items_depth, items_tokens, json_tokens, members_depth, members_tokens, HasNumbers, ItemsHaveNumbers, MembersHaveNumbers}
use Rattle.json.proofs.Printed.Trees.{document-print}
use Rattle.cell_types.specs.Value.{CellValue, integer}
use Rattle.reply_values.specs.Printed.{json_text, printed_value}
use Rattle.reply_values.specs.ReadBack.{json_of, FitsJson, ValuesReadBack}
use Rattle.reply_text.specs.Json.{json_count, json_member, json_row}
use Rattle.reply_text.specs.Laws.{body_of, with_count, items_of, members_of, object_of}
use Rattle.reply_text.proofs.JoinLemmas.{join_is}

-- ---- values and rows

abbrev FitJson : List (List CellValue) → Type 0
FitJson rows = AllByRecursion (AllByRecursion FitsJson) rows

module _ (law : ValuesReadBack) where
  -- a member, and what is printed after it
  member_printed : (member : List ℕ × CellValue) (others : json.Members) (ts : List Token) (after : List ℕ) → FitsJson member.1 → print_from true (members_tokens others ++ ts) ≡ after
      → (quoted member.0 ++ 58 ∷ []) ++ print_from false ((json_tokens (json_of member.1) ++ members_tokens others) ++ ts) ≡ json_member member ++ after
  member_printed member others ts after fits is =
      let value = ap (print_from false) (append_assoc (json_tokens (json_of member.1)) (members_tokens others) ts) ∙ (law.json member.1 fits).printed (members_tokens others ++ ts) in
      ap (λ s. (quoted member.0 ++ 58 ∷ []) ++ s) (value ∙ ap (λ s. printed_value true member.1 ++ s) is) ∙ sym (append_assoc (quoted member.0 ++ 58 ∷ []) (printed_value true member.1) after)

  others_printed : (members : List (List ℕ × CellValue)) (ts : List Token) → AllByRecursion (λ (m : List ℕ × CellValue). FitsJson m.1) members
      → print_from true (members_tokens (members_of members) ++ ts) ≡ flat_map (λ m. 44 ∷ json_member m) members ++ 125 ∷ print_from true ts
  unfolding print_from
  others_printed [] ts fit = refl
  others_printed (m ∷ ms) ts fit =
      ap (λ s. 44 ∷ s) (member_printed m (members_of ms) ts _ fit.0 (others_printed ms ts fit.1)) ∙ sym (append_assoc (44 ∷ json_member m) (flat_map (λ n. 44 ∷ json_member n) ms) (125 ∷ print_from true ts))

  members_printed : (members : List (List ℕ × CellValue)) (ts : List Token) → AllByRecursion (λ (m : List ℕ × CellValue). FitsJson m.1) members
      → print_from false (members_tokens (members_of members) ++ ts) ≡ (join_with_byte 44 (map json_member members) ++ 125 ∷ []) ++ print_from true ts
  unfolding print_from
  members_printed [] ts fit = refl
  members_printed (m ∷ ms) ts fit =
      let others = flat_map (λ n. 44 ∷ json_member n) ms in
      member_printed m (members_of ms) ts _ fit.0 (others_printed ms ts fit.1) ∙ sym (append_assoc (json_member m) others (125 ∷ print_from true ts))
      ∙ ap (λ l. l ++ 125 ∷ print_from true ts) (sym (join_is json_member m ms)) ∙ sym (append_assoc (join_with_byte 44 (map json_member (m ∷ ms))) (125 ∷ []) (print_from true ts))

  zip_fits : (names : List (List ℕ)) (values : List CellValue) → AllByRecursion FitsJson values → AllByRecursion (λ (m : List ℕ × CellValue). FitsJson m.1) (zip names values)
  zip_fits [] values fit = tt
  zip_fits (name ∷ names) [] fit = tt
  zip_fits (name ∷ names) (value ∷ values) fit = (fit.0, zip_fits names values fit.1)

  row_printed : (names : List (List ℕ)) (values : List CellValue) (ts : List Token) → AllByRecursion FitsJson values
      → print_from false (json_tokens (object_of names values) ++ ts) ≡ json_row names values ++ print_from true ts
  unfolding print_from
  row_printed names values ts fit = ap (λ s. 123 ∷ s) (members_printed (zip names values) ts (zip_fits names values fit))

  others_of : (names : List (List ℕ)) (rows : List (List CellValue)) (ts : List Token) → FitJson rows
      → print_from true (items_tokens (items_of names rows) ++ ts) ≡ flat_map (λ row. 44 ∷ json_row names row) rows ++ 93 ∷ print_from true ts
  unfolding print_from
  others_of names [] ts fit = refl
  others_of names (row ∷ rows) ts fit =
      let rest = items_tokens (items_of names rows) in
      ap (print_from true) (append_assoc (json_tokens (object_of names row)) rest ts) ∙ ap (λ s. 44 ∷ s) (row_printed names row (rest ++ ts) fit.0 ∙ ap (λ s. json_row names row ++ s) (others_of names rows ts fit.1))
      ∙ sym (append_assoc (44 ∷ json_row names row) (flat_map (λ r. 44 ∷ json_row names r) rows) (93 ∷ print_from true ts))

  rows_printed : (names : List (List ℕ)) (rows : List (List CellValue)) (ts : List Token) → FitJson rows
      → print_from false (items_tokens (items_of names rows) ++ ts) ≡ join_with_byte 44 (map (json_row names) rows) ++ 93 ∷ print_from true ts
  unfolding print_from
  rows_printed names [] ts fit = refl
  rows_printed names (row ∷ rows) ts fit =
      let rest = items_tokens (items_of names rows) in
      ap (print_from false) (append_assoc (json_tokens (object_of names row)) rest ts) ∙ row_printed names row (rest ++ ts) fit.0 ∙ ap (λ s. json_row names row ++ s) (others_of names rows ts fit.1)
      ∙ sym (append_assoc (json_row names row) (flat_map (λ r. 44 ∷ json_row names r) rows) (93 ∷ print_from true ts)) ∙ ap (λ l. l ++ 93 ∷ print_from true ts) (sym (join_is (json_row names) row rows))

  regroup_count : (a b c d e f : List ℕ) → ((((a ++ b) ++ c) ++ d) ++ e) ++ f ≡ a ++ (b ++ (c ++ (d ++ (e ++ f))))
  regroup_count a b c d e f = simp append_assoc

  body_printed : (names : List (List ℕ)) (rows : List (List CellValue)) (count : Option ℕ) → FitJson rows
      → print (json_tokens (body_of names rows count)) ≡ codes "{" ++ json_count count ++ json_text (codes "value") ++ codes ":[" ++ join_with_byte 44 (map (json_row names) rows) ++ codes "]}"
  unfolding escape_byte print_from
  body_printed names rows None fit = ap (λ rest. 123 ∷ (json_text (codes "value") ++ 58 ∷ 91 ∷ rest)) (rows_printed names rows (end_object ∷ []) fit)
  body_printed names rows (Some n) fit =
      ap (λ rest. 123 ∷ (json_text (codes "@odata.count") ++ 58 ∷ (decimal n ++ 44 ∷ (json_text (codes "value") ++ 58 ∷ 91 ∷ rest)))) (rows_printed names rows (end_object ∷ []) fit)
      ∙ ap (λ rest. 123 ∷ (json_text (codes "@odata.count") ++ 58 ∷ rest))
      (sym (regroup_count (decimal n) (44 ∷ []) (json_text (codes "value")) (58 ∷ 91 ∷ []) (join_with_byte 44 (map (json_row names) rows)) (93 ∷ 125 ∷ [])))

  -- ---- trees are read back

  members_numbers : (members : List (List ℕ × CellValue)) → AllByRecursion (λ (m : List ℕ × CellValue). FitsJson m.1) members → MembersHaveNumbers (members_of members)
  members_numbers [] fit = tt
  members_numbers (m ∷ ms) fit = ((law.json m.1 fit.0).numbers, members_numbers ms fit.1)

  items_numbers : (names : List (List ℕ)) (rows : List (List CellValue)) → FitJson rows → ItemsHaveNumbers (items_of names rows)
  items_numbers names [] fit = tt
  items_numbers names (row ∷ rows) fit = (members_numbers (zip names row) (zip_fits names row fit.0), items_numbers names rows fit.1)

  body_numbers : (names : List (List ℕ)) (rows : List (List CellValue)) (count : Option ℕ) → FitJson rows → IfSome count (λ n. n < 10 ^ 64) → HasNumbers (body_of names rows count)
  body_numbers names rows None fit counts = (items_numbers names rows fit, tt)
  body_numbers names rows (Some n) fit counts = ((law.json (integer (pos n)) counts).numbers, (items_numbers names rows fit, tt))

  members_flat : (members : List (List ℕ × CellValue)) → AllByRecursion (λ (m : List ℕ × CellValue). FitsJson m.1) members → members_depth (members_of members) ≤ 0
  members_flat [] fit = omega arith
  members_flat (m ∷ ms) fit = max-le (law.json m.1 fit.0).flat (members_flat ms fit.1)

  row_flat : (names : List (List ℕ)) (values : List CellValue) → AllByRecursion FitsJson values → depth (object_of names values) ≤ 1
  row_flat names values fit = let flat = members_flat (zip names values) (zip_fits names values fit) in omega (arith, flat)

  items_flat : (names : List (List ℕ)) (rows : List (List CellValue)) → FitJson rows → items_depth (items_of names rows) ≤ 1
  items_flat names [] fit = omega arith
  items_flat names (row ∷ rows) fit = max-le (row_flat names row fit.0) (items_flat names rows fit.1)

  body_flat : (names : List (List ℕ)) (rows : List (List CellValue)) (count : Option ℕ) → FitJson rows → depth (body_of names rows count) ≤ 128
  body_flat names rows None fit =
      let one : members_depth (json.member (codes "value") (json.array (items_of names rows)) json.no_members) ≤ 2 = max-le (omega (arith, items_flat names rows fit)) (omega arith) in
      omega (arith, one)
  body_flat names rows (Some n) fit =
      let one : members_depth (json.member (codes "value") (json.array (items_of names rows)) json.no_members) ≤ 2 = max-le (omega (arith, items_flat names rows fit)) (omega arith) in
      let two : members_depth (with_count (Some n) (json.member (codes "value") (json.array (items_of names rows)) json.no_members)) ≤ 2 = max-le (omega arith) one in
      omega (arith, two)

  -- a text as which a tree is printed is read as that
  text_is_read : (bytes : List ℕ) (tree : json.Json) → print (json_tokens tree) ≡ bytes → HasNumbers tree → depth tree ≤ 128 → document bytes ≡ Some tree
  text_is_read bytes tree is numbers flat = ap document (sym is) ∙ document-print tree numbers flat

  -- and where more tokens may come after its own
  alone_is_read : (bytes : List ℕ) (tree : json.Json) → print_from false (json_tokens tree ++ []) ≡ bytes ++ print_from true [] → HasNumbers tree → depth tree ≤ 128 → document bytes ≡ Some tree
  unfolding print_from
  alone_is_read bytes tree is = text_is_read bytes tree (ap print (sym (append-nil (json_tokens tree))) ∙ is ∙ append-nil bytes)

  pub value_is_read : (value : CellValue) → FitsJson value → document (printed_value true value) ≡ Some (json_of value)
  value_is_read value fits =
      let is = law.json value fits in
      alone_is_read (printed_value true value) (json_of value) (is.printed []) is.numbers (omega (arith, is.flat))

  pub row_is_read : (names : List (List ℕ)) (values : List CellValue) → AllByRecursion FitsJson values → document (json_row names values) ≡ Some (object_of names values)
  row_is_read names values fit =
      let flat = row_flat names values fit in
      alone_is_read (json_row names values) (object_of names values) (row_printed names values [] fit) (members_numbers (zip names values) (zip_fits names values fit)) (omega (arith, flat))

  pub body_is_read : (names : List (List ℕ)) (rows : List (List CellValue)) (count : Option ℕ) → FitJson rows → IfSome count (λ n. n < 10 ^ 64)
      → document (codes "{" ++ json_count count ++ json_text (codes "value") ++ codes ":[" ++ join_with_byte 44 (map (json_row names) rows) ++ codes "]}") ≡ Some (body_of names rows count)
  body_is_read names rows count fit counts = text_is_read _ (body_of names rows count) (body_printed names rows count fit) (body_numbers names rows count fit counts) (body_flat names rows count fit)
