use Rattle.std.proofs.Common.{[], map, sym, subst}
use Rattle.std.proofs.lemmas.Bool.{false≢true}
use Rattle.cell_types.specs.Value.{value_view}
use Rattle.aggregate_rows.specs.Distinct.{HasDistinct}
use Rattle.aggregate_rows.proofs.ValueLemmas.{no_keys}
use Rattle.aggregate_rows.proofs.distinct.Distinct.none.Goals as goal

pub returns : goal.returns
returns c = record {
  has = subst (λ ks. HasDistinct (map value_view ks) []) (sym c.new.ensures) no_keys;
  marked = λ mark set. absurd (false≢true (rw c.new-2.ensures.items at set));
}
