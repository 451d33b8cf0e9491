use Rattle.std.proofs.Common.{◌≡◌, [], None, map, refl, sym, subst}
use Rattle.cell_types.specs.Column.{column_view}
use Rattle.column_blocks.specs.ColumnReader.{reader_at}
use Rattle.csvw_meta.specs.Schema.{schema_view}
use Rattle.file_cells.specs.Cells.{most_rows}
use Rattle.file_cells.specs.Rows.{mismatch_of}
use Rattle.file_cells.proofs.HeaderLemmas.{header_fits}
use Rattle.folder_checks.specs.Cells.{AreKept}
use Rattle.folder_checks.proofs.KeptLemmas.{kept_start}
use Rattle.folder_checks.proofs.cells.first_cells.Goals.{In_ok-readers-in-None}
use Rattle.folder_checks.proofs.cells.first_cells.Goals as goal

matches : (c : In_ok-readers-in-None) → mismatch_of (schema_view c.args.schema.now).columns c.args.file.now.header ≡ None
matches c =
    subst (λ columns. mismatch_of (map column_view columns) c.args.file.now.header ≡ None) c.as_slice.ensures.value
    (sym (rw c.in-None.is at c.in_ok-col.ensures))

begun : (c : In_ok-readers-in-None) → AreKept (schema_view c.args.schema.now) [] c.in_ok-readers-in-None.readers.items
begun c =
    kept_start (schema_view c.args.schema.now) c.in_ok-readers-in-None.readers.items
    (subst (λ columns. c.in_ok-readers-in-None.readers.items ≡ map (λ column. reader_at most_rows column []) (map column_view columns)) c.as_slice-in-None.ensures.value
    c.in_ok-readers-in-None.ensures)

pub more_cells-requires-clause-fits : goal.more_cells-requires-clause-fits
more_cells-requires-clause-fits c = header_fits (schema_view c.args.schema.now).columns c.requires.table.0 c.args.file.now c.requires.table.1 (matches c)

pub more_cells-requires-clause-kept : goal.more_cells-requires-clause-kept
more_cells-requires-clause-kept c = ([], refl, begun c)

pub returns-in_ok-readers-in-None : goal.returns-in_ok-readers-in-None
returns-in_ok-readers-in-None c =
    let at = (goal.at.returns-in_ok-readers-in-None c).In_ok-readers-in-None in
    c.more_cells.ensures (record { header = c.args.file.now.header; rows = [] }) refl (record { header_matches = matches at; right = refl; kept = begun at })
