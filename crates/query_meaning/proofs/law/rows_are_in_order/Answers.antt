use Rattle.query_meaning.specs.Order.{rows_cmp}
use Rattle.query_meaning.proofs.OrderLemmas.{fault, rising, stable}
use Rattle.query_meaning.proofs.SortLemmas.{sorted_shuffles}
use Rattle.query_meaning.proofs.law.rows_are_in_order.Goals as goal

pub returns : goal.returns
returns c = record {
  fault = fault;
  rows = λ items. sorted_shuffles (rows_cmp items);
  rising = rising c.values_are_ordered.ensures.total;
  stable = stable c.values_are_ordered.ensures.total;
}
