-- The schemas of metadata.
use Rattle.std.proofs.Common.{◌≡◌, ◌<◌, ◌+◌, All, List, ◌∷◌, ◌++◌, ℕ, drop, get_or, length, map, take, take-append-drop, sym, ap, subst, ◌∙◌, arith}
use Rattle.std.proofs.lemmas.List.{get_or-map, length-map, map-append}
use Rattle.csvw_meta.specs.Laws.{IsAccepted}
use Rattle.csvw_meta.specs.Limits.{LimitsOf}
use Rattle.csvw_meta.specs.Schema.{schema_view}
use Rattle.csvw_meta.specs.declared.schema.Schema.{Schema}
use Rattle.file_cells.proofs.PlaceLemmas.{drop-from_slice_get, slice_get-from_read}
use Rattle.table_store.specs.Loading.{HasKeyColumns}

-- the key of one of accepted schemas is of its columns
pub key_places : (limits : LimitsOf) (items : List Schema) (i : ℕ) (x : Schema) → All (IsAccepted limits) (map schema_view items) → i < length items → x ≡ get_or items i x
    → HasKeyColumns (schema_view x)
key_places limits items i x accepted less is =
    let here : IsAccepted limits (get_or (map schema_view items) i (schema_view x)) = accepted i (schema_view x) (omega (arith, length-map items schema_view, less)) in
    let same : get_or (map schema_view items) i (schema_view x) ≡ schema_view x = get_or-map schema_view items i x (schema_view x) less ∙ ap schema_view (sym is) in
    (subst (IsAccepted limits) same here).places

-- those before it, and those after it
pub schemas_at : (items : List Schema) (i : ℕ) (x : Schema) → i < length items → x ≡ get_or items i x
    → map schema_view items ≡ map schema_view (take i items) ++ schema_view x ∷ map schema_view (drop (i + 1) items)
schemas_at items i x less is =
    let rest : drop i items ≡ x ∷ drop (i + 1) items = drop-from_slice_get items i x (slice_get-from_read items i x less is) in
    ap (map schema_view) (sym (take-append-drop i items) ∙ ap (λ l. take i items ++ l) rest) ∙ map-append schema_view (take i items) (x ∷ drop (i + 1) items)
