-- The bodies of replies (OData 4.01 JSON Format, sections 5, 6, 13 and 21.1), with no space between tokens.
use Rattle.std.specs.Prelude.{List, [], ℕ, ◌++◌, map, codes, get_or}
use Rattle.std.specs.List.{join_with_byte}
use Rattle.table_store.specs.Table.{TableOf}
use Rattle.result_rows.specs.Rows.{RowsOf}
use Rattle.odata_errors.specs.declared.code.Code.{Code}
use Rattle.odata_errors.specs.Code.{code_name, message_of}
use Rattle.reply_text.specs.Json.{json_row, json_count}
use Rattle.reply_values.specs.Printed.{json_text, json_text_member}

-- rows: an object whose member `value` has an object for each
abbrev pub rows_text : RowsOf → List ℕ
rows_text rows =
    codes "{" ++ json_count rows.count ++ json_text (codes "value") ++ codes ":["
    ++ join_with_byte 44 (map (json_row rows.names) rows.rows) ++ codes "]}"

-- one row: its object alone
abbrev pub row_text : RowsOf → List ℕ
row_text rows = json_row rows.names (get_or rows.rows 0 [])

-- a table is an entity set of that name
abbrev pub named_text : List ℕ → List ℕ
named_text name = json_text_member (codes "name") name ++ codes "," ++ json_text_member (codes "kind") (codes "EntitySet")

-- a table in the service document, whose url is its name
abbrev pub entry_text : List ℕ → List ℕ
entry_text name = codes "{" ++ named_text name ++ codes "," ++ json_text_member (codes "url") name ++ codes "}"

-- the service document: an entry for each table, in order
abbrev pub service_text : List TableOf → List ℕ
service_text tables =
    codes "{" ++ json_text (codes "value") ++ codes ":["
    ++ join_with_byte 44 (map (λ table. entry_text table.schema.name) tables) ++ codes "]}"

-- an error: its code and its message
abbrev pub error_text : Code → List ℕ
error_text code =
    codes "{" ++ json_text (codes "error") ++ codes ":{" ++ json_text_member (codes "code") (code_name code)
    ++ codes "," ++ json_text_member (codes "message") (message_of code) ++ codes "}}"
