-- Keys of which none has a null and none is that of an earlier row are different, have no null, and find their rows.
use Rattle.std.proofs.Common.{◌≡◌, ◌≢◌, ◌↔◌, ℕ, ◌<◌, true, false, List, [], length, take, get_or, Some, None, IsTrue, All, slice_get, true≢false, sym, ◌∙◌, arith}
use Rattle.std.specs.Cmp.Lexicographic.{pointwise_decides}
use Rattle.std.proofs.lemmas.Bool.{false_from_ne_true}
use Rattle.std.proofs.lemmas.List.{length-take, get_or-take}
use Rattle.std.proofs.lemmas.List.Folds.{list_any_at}
use Rattle.std.proofs.lemmas.List.Quantifiers.{position-Some}
use Rattle.std.proofs.lemmas.Option.{slice_get-get_or, get_or_from_slice_get, slice_get_within}
use Rattle.cell_types.specs.Value.{CellValue, null, value_eq}
use Rattle.key_index.specs.Key.{key_eq, null_row, is_repeated, repeated_row, row_of}
use Rattle.key_index.specs.Laws.{AreKeys}
use Rattle.key_index.proofs.KeyLemmas.{find-none, position-here, position-none}

module _ (equal : (a b : CellValue) → IsTrue (value_eq a b) ↔ (a ≡ b)) (keys : List (List CellValue)) (whole : null_row keys ≡ None) (once : repeated_row keys ≡ None) where
  same : (a b : List CellValue) → (key_eq a b ≡ true → a ≡ b) × (a ≡ b → key_eq a b ≡ true)
  same = pointwise_decides equal

  no_nulls : All (All (λ value. value ≢ null)) keys
  no_nulls k d within j e there is_null =
      let here = list_any_at (value_eq null) (get_or keys k d) j e there ((equal null (get_or (get_or keys k d) j e)).1 (sym is_null)) in
      absurd (cc (here, position-none _ keys k d whole within))

  not_again : (a b : ℕ) (key : List CellValue) → a < b → slice_get keys a ≡ Some key → slice_get keys b ≡ Some key → ⊥
  not_again a b key less e f =
      let within = slice_get_within keys b key f in
      let none : is_repeated keys b ≡ false = find-none (is_repeated keys) 0 (length keys) b once (omega arith) (omega arith) in
      let one = get_or_from_slice_get keys b key [] f ∙ sym (get_or-take b keys a [] less ∙ get_or_from_slice_get keys a key [] e) in
      let again = list_any_at (key_eq (get_or keys b [])) (take b keys) a [] (omega (arith, length-take b keys)) ((same (get_or keys b []) (get_or (take b keys) a [])).1 one) in
      absurd (true≢false (sym again ∙ none))

  one_row : (a b : ℕ) (key : List CellValue) → slice_get keys a ≡ Some key → slice_get keys b ≡ Some key → a ≡ b
  one_row a b key e f = grind (arith, not_again a b key, not_again b a key)

  row_found : (row : ℕ) (key : List CellValue) → row_of keys key ≡ Some row → slice_get keys row ≡ Some key
  row_found row key e =
      let p = position-Some (key_eq key) keys row [] e in
      rw ((same key (get_or keys row [])).0 p.1) (slice_get-get_or keys row [] p.0)

  key_found : (row : ℕ) (key : List CellValue) → slice_get keys row ≡ Some key → row_of keys key ≡ Some row
  key_found row key e =
      let within = slice_get_within keys row key e in
      position-here (key_eq key) keys row [] within ((same key (get_or keys row [])).1 (sym (get_or_from_slice_get keys row key [] e)))
      (λ k less. false_from_ne_true (key_eq key (get_or keys k []))
      (λ t. not_again k row key less (rw ((same key (get_or keys k [])).0 t) (slice_get-get_or keys k [] (omega arith))) e))

  pub are_keys : AreKeys keys
  are_keys = record { whole = no_nulls; distinct = one_row; found = λ row key. (row_found row key, key_found row key) }
