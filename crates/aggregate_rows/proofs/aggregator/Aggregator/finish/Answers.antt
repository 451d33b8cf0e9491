use Rattle.std.proofs.Common.{◌≡◌, ◌+◌, ℕ, List, Option, Some, None, refl, arith, length, replicate, sym, ap, ◌∙◌}
use Rattle.std.proofs.lemmas.List.{length-map, length-replicate}
use Rattle.std.proofs.lemmas.Result.{IfOk-weaker}
use Rattle.cell_types.specs.Value.{CellValue}
use Rattle.odata_query.specs.Aggregate.{NamedAggregateOf}
use Rattle.row_columns.specs.Columns.{ColumnsOf}
use Rattle.row_columns.specs.Kinds.{any}
use Rattle.aggregate_rows.specs.Gathered.{gathered_rows, gathered_width, key_width, rows_gathered, Gathers, MakesRows}
use Rattle.aggregate_rows.proofs.GatheredLemmas.{plain_rows}
use Rattle.aggregate_rows.proofs.aggregator.Aggregator.finish.Goals as goal

pub returns-clause-rows : goal.returns-clause-rows
returns-clause-rows c =
    IfOk-weaker c.into_rows.result (λ (made : ColumnsOf). MakesRows c.args.self.groups c.deref.result.now made.rows)
    (λ (made : ColumnsOf). (places : Option (List ℕ)) (aggregates : List NamedAggregateOf) (rows : List (List CellValue)) → Gathers c.args.self places aggregates rows
    → made.rows ≡ gathered_rows places aggregates rows)
    (λ made is places aggregates rows g.
    (rw c.deref.ensures.value at is) places c.args.self.aggregates.items rows g.groups_are
    ∙ ap (λ plain. rows_gathered places plain rows) g.aggregates_are.are ∙ plain_rows places aggregates rows)
    c.into_rows.ensures.rows

-- as many columns as values of a group, and as names
wide : (places : Option (List ℕ)) (aggregates : List NamedAggregateOf) → key_width places + length aggregates ≡ gathered_width places aggregates
wide None aggregates = omega arith
wide (Some places) aggregates = refl

pub returns-clause-width : goal.returns-clause-width
returns-clause-width c =
    let self = c.args.self in
    IfOk-weaker c.into_rows.result (λ (made : ColumnsOf). made.kinds ≡ replicate (self.groups.shape.key + length c.deref.result.now) any)
    (λ (made : ColumnsOf). (places : Option (List ℕ)) (aggregates : List NamedAggregateOf) (rows : List (List CellValue)) → Gathers self places aggregates rows
    → length made.kinds ≡ gathered_width places aggregates)
    (λ made is places aggregates rows g.
    let shown : length self.shown.items ≡ length aggregates = sym (length-map self.shown.items _) ∙ ap length g.aggregates_are.are ∙ length-map aggregates (λ a. a.aggregate) in
    let width : self.groups.shape.key ≡ key_width places = ap (λ s. s.key) g.groups_are.shape_is in
    ap length is ∙ length-replicate (self.groups.shape.key + length c.deref.result.now) any
    ∙ rw (width, c.deref.ensures.value, shown) (wide places aggregates))
    c.into_rows.ensures.kinds
