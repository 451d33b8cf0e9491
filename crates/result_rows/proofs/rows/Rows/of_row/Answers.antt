-- The names and the values of the row, in the columns that are selected or in all of them.
use Rattle.std.proofs.Common.{◌≡◌, ◌∙◌, ap, map, string_bytes}
use Rattle.std.proofs.lemmas.List.{length-map}
use Rattle.query_meaning.specs.Apply.{names_at}
use Rattle.row_eval.specs.Row.{row_view}
use Rattle.result_rows.proofs.RowLemmas.{picked_width, row_selected, row_whole, whole_width}
use Rattle.result_rows.proofs.rows.Rows.of_row.Goals as goal

pub returns-in_ok-picked-in-Some : goal.returns-in_ok-picked-in-Some
returns-in_ok-picked-in-Some c =
    let columns = c.args.schema.now.columns.items in
    let names = map string_bytes c.in_ok-names.names.items in
    let places = c.in-Some.places.now in
    let named : names ≡ map (λ column. string_bytes column.name) columns =
    c.in_ok-names.ensures ∙ ap (map (λ column. string_bytes column.name)) c.as_slice.ensures.value in
    let picked : map string_bytes c.in_ok-names-in-Some.names.items ≡ names_at places names =
    c.in_ok-names-in-Some.ensures ∙ ap (λ ns. names_at places (map string_bytes ns)) c.as_slice-in-Some.ensures.value in
    rw c.in-Some.is (c.new.ensures ∙ row_selected columns names (map string_bytes c.in_ok-names-in-Some.names.items) places (row_view c.args.values.now)
    c.in_ok-row.row.rows c.in_ok-picked-in-Some.picked.rows named picked c.in_ok-row.ensures.rows c.in_ok-picked-in-Some.ensures.rows)

pub returns-in-None : goal.returns-in-None
returns-in-None c =
    let columns = c.args.schema.now.columns.items in
    let names = map string_bytes c.in_ok-names.names.items in
    let named : names ≡ map (λ column. string_bytes column.name) columns =
    c.in_ok-names.ensures ∙ ap (map (λ column. string_bytes column.name)) c.as_slice.ensures.value in
    rw c.in-None.is (c.new-in-None.ensures ∙ row_whole columns names (row_view c.args.values.now) c.in_ok-row.row.rows named c.in_ok-row.ensures.rows)

pub new-requires : goal.new-requires
new-requires c =
    let names = map string_bytes c.as_slice-in-Some.result.now in
    let picked = map string_bytes c.in_ok-names-in-Some.names.items in
    picked_width names picked c.in-Some.places.now c.in_ok-row.row.kinds c.in_ok-picked-in-Some.picked.kinds c.in_ok-picked-in-Some.ensures.kinds c.in_ok-names-in-Some.ensures
    ∙ length-map c.in_ok-names-in-Some.names.items string_bytes

pub new-requires-in-None : goal.new-requires-in-None
new-requires-in-None c =
    let columns = c.args.schema.now.columns.items in
    let names = map string_bytes c.in_ok-names.names.items in
    let named : names ≡ map (λ column. string_bytes column.name) columns =
    c.in_ok-names.ensures ∙ ap (map (λ column. string_bytes column.name)) c.as_slice.ensures.value in
    c.in_ok-row.ensures.kinds ∙ c.requires.wide ∙ whole_width columns names named ∙ length-map c.in_ok-names.names.items string_bytes
