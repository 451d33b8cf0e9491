-- The row of a key, as an answer.
use Rattle.std.proofs.Common.{◌≡◌, ℕ, None, List, [], ◌∷◌, length, map, get_or, refl, sym, ap, ◌∙◌}
use Rattle.std.proofs.lemmas.List.{length-map}
use Rattle.std.specs.Prelude.{string_bytes}
use Rattle.cell_types.specs.Column.{column_view}
use Rattle.cell_types.specs.declared.column.Column.{Column}
use Rattle.cell_types.specs.Value.{CellValue}
use Rattle.row_columns.specs.Kinds.{KindOf, any}
use Rattle.row_columns.specs.Picked.{kinds_at, numbered}
use Rattle.query_meaning.specs.Apply.{names_at, values_at}
use Rattle.query_meaning.specs.Meaning.{ResultOf}

pub column_names : (columns : List Column) → map (λ column. string_bytes column.name) columns ≡ map (λ column. column.name) (map column_view columns)
column_names [] = refl
column_names (c ∷ columns) = ap (λ names. string_bytes c.name ∷ names) (column_names columns)

-- rows that are not counted
abbrev pub uncounted : List (List ℕ) → List (List CellValue) → ResultOf
uncounted names rows = record { names = names; rows = rows; count = None }

-- the row in all columns
pub row_whole : (columns : List Column) (names : List (List ℕ)) (row : List CellValue) (rows : List (List CellValue))
    → names ≡ map (λ column. string_bytes column.name) columns → rows ≡ row ∷ []
    → uncounted names rows ≡ uncounted (map (λ column. column.name) (map column_view columns)) (row ∷ [])
row_whole columns names row rows named one = ap (λ ns. uncounted ns rows) (named ∙ column_names columns) ∙ ap (uncounted (map (λ column. column.name) (map column_view columns))) one

-- the row in some of its columns
pub row_selected : (columns : List Column) (names picked : List (List ℕ)) (places : List ℕ) (row : List CellValue) (rows made : List (List CellValue))
    → names ≡ map (λ column. string_bytes column.name) columns → picked ≡ names_at places names
    → rows ≡ row ∷ [] → made ≡ map (values_at places) (numbered (0 ∷ []) rows)
    → uncounted picked made ≡ uncounted (names_at places (map (λ column. column.name) (map column_view columns))) (values_at places row ∷ [])
row_selected columns names picked places row rows made named picks one are =
    ap (λ ns. uncounted ns made) (picks ∙ ap (names_at places) (named ∙ column_names columns))
    ∙ ap (uncounted (names_at places (map (λ column. column.name) (map column_view columns)))) (are ∙ ap (λ rs. map (values_at places) (numbered (0 ∷ []) rs)) one)

-- there is a name for each kind that is picked
pub picked_width : (names picked : List (List ℕ)) (places : List ℕ) (kinds made : List KindOf) → made ≡ kinds_at places kinds → picked ≡ names_at places names → length made ≡ length picked
picked_width names picked places kinds made m p = ap length m ∙ length-map places (λ place. get_or kinds place any) ∙ sym (length-map places (λ place. get_or names place [])) ∙ sym (ap length p)

-- and for each column
pub whole_width : (columns : List Column) (names : List (List ℕ)) → names ≡ map (λ column. string_bytes column.name) columns → length (map column_view columns) ≡ length names
whole_width columns names n = length-map columns column_view ∙ sym (length-map columns (λ column. string_bytes column.name)) ∙ sym (ap length n)
