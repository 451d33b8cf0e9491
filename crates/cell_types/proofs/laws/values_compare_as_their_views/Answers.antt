use Rattle.std.proofs.Common.{◌∙◌}
use Rattle.cell_types.specs.Value.{value_view}
use Rattle.cell_types.specs.contracts.value.ValueHash.TheImpl.Laws.{respects_eq-law}
use Rattle.cell_types.proofs.ValueLemmas.{cmp-view, eq-view, value_eq-Decides}
use Rattle.cell_types.proofs.laws.values_compare_as_their_views.Goals as goal

pub returns-clause-equal : goal.returns-clause-equal
returns-clause-equal c = eq-view

pub returns-clause-order : goal.returns-clause-order
returns-clause-order c = cmp-view

pub returns-clause-hash : goal.returns-clause-hash
returns-clause-hash c v w same = respects_eq-law v w (eq-view v w ∙ (value_eq-Decides (value_view v) (value_view w)).1 same)
