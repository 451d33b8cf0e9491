-- Columns by their numbers.
use Rattle.std.proofs.Common.{ℕ, ◌+◌, ◌<◌, ◌≡◌, length, drop, get_or, List, [], ◌∷◌, ◌++◌, refl, ap, ◌∙◌}
use Rattle.std.specs.Prelude.{Some, None, slice_get}
use Rattle.std.proofs.lemmas.List.{append_assoc, drop_more, map-append}
use Rattle.odata_types.specs.declared.types.InputColumn.{InputColumn}
use Rattle.odata_types.specs.Columns.{InputOf, input_view, inputs_view}
use Rattle.odata_query.specs.Apply.{columns_at}

pub known_column : (inputs : List InputOf) (places : List ℕ) (i : ℕ) (c : InputOf) → i < length places → Some c ≡ slice_get inputs (get_or places i 0)
    → columns_at inputs (drop i places) ≡ c ∷ columns_at inputs (drop (i + 1) places)
known_column inputs places i c h e = let more = drop_more places i 0 h in rw (more, ← e) refl

pub unknown_column : (inputs : List InputOf) (places : List ℕ) (i : ℕ) → i < length places → None ≡ slice_get inputs (get_or places i 0)
    → columns_at inputs (drop i places) ≡ columns_at inputs (drop (i + 1) places)
unknown_column inputs places i h e = let more = drop_more places i 0 h in rw (more, ← e) refl

-- a column goes from those that are left after those so far
pub one_more : (all : List InputOf) (made next : List InputColumn) (column : InputColumn) (rest others : List InputOf)
    → all ≡ inputs_view made ++ rest → rest ≡ input_view column ∷ others → next ≡ made ++ column ∷ [] → all ≡ inputs_view next ++ others
one_more all made next column rest others h e m =
    let parts = map-append input_view made (column ∷ []) in
    rw (m, parts, append_assoc) (h ∙ ap (λ (l : List InputOf). inputs_view made ++ l) e)

pub none_more : (all : List InputOf) (made next : List InputColumn) (rest others : List InputOf)
    → all ≡ inputs_view made ++ rest → rest ≡ others → next ≡ made → all ≡ inputs_view next ++ others
none_more all made next rest others h e m = rw (m, ← e) h
