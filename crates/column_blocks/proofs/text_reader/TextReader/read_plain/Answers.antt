use Rattle.std.proofs.Common.{true, ap, sym, ◌∙◌}
use Rattle.cell_types.specs.Column.{column_view}
use Rattle.csv_grammar.specs.Raw.{raw_content}
use Rattle.csv_fields.specs.Raw.{raw_view}
use Rattle.text_columns.specs.Buffer.{content_cell}
use Rattle.column_blocks.specs.Readers.{texts_with}
use Rattle.column_blocks.proofs.PartLemmas.{has_value, plain_value}
use Rattle.column_blocks.proofs.text_reader.TextReader.read_plain.Goals as goal

pub returns-clause-value : goal.returns-clause-value
returns-clause-value c =
    let column = column_view c.args.column.now in
    let raw = raw_view c.args.raw in
    (has_value column raw (content_cell true (raw_content raw)) (plain_value column raw c.requires.column c.requires.plain)).0

pub returns-clause-cells : goal.returns-clause-cells
returns-clause-cells c =
    let column = column_view c.args.column.now in
    let raw = raw_view c.args.raw in
    let says = has_value column raw (content_cell true (raw_content raw)) (plain_value column raw c.requires.column c.requires.plain) in
    c.in_ok-push_field.ensures ∙ ap (texts_with c.args.self.now) (sym says.1)
