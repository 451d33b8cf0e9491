-- The pieces of the line one after another.
use Rattle.cell_types.specs.Column.{column_view}
use Rattle.catalog_sheet.proofs.LineLemmas.{line-of_pieces}
use Rattle.catalog_sheet.proofs.show.push_column.Goals as goal

pub returns : goal.returns
returns c whole =
    let fourth = c.push.ensures whole in
    let third = c.push_bound-2.ensures fourth.0 in
    let second = c.push_bound.ensures third.0 in
    let first = c.push_front.ensures second.0 in (
      first.0,
      line-of_pieces _ _ _ _ _ _ (column_view c.args.column.now) c.null_count.result c.args.col _ _ c.in-Ok.range _ _ c.args.table.now.schema first.1 second.1 third.1 fourth.1
          c.null_count.ensures c.least.ensures c.greatest.ensures c.line_end.ensures c.schema.ensures c.in-Ok.ensures,
    )
