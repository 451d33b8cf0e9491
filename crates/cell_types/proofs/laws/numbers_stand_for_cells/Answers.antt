use Rattle.cell_types.proofs.GivenLemmas.{given-number, no-number, only-null}
use Rattle.cell_types.proofs.KindLemmas.{cell-number, number-typed_cell, typed-kind, typed-value}
use Rattle.cell_types.proofs.OrderLemmas.{typed-order}
use Rattle.cell_types.proofs.laws.numbers_stand_for_cells.Goals as goal

pub returns : goal.returns
returns c = record { value = typed-value; of_kind = typed-kind; back = number-typed_cell; order = typed-order; cell = cell-number; no_number = no-number; only_null = only-null; given = given-number }
