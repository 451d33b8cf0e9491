use Rattle.std.proofs.Common.{◌≡◌, length}
use Rattle.text_columns.proofs.CodeLemmas.{AreCodesTo}
use Rattle.text_columns.proofs.codes.codes_of.Given as goal

abbrev pub invariant-loop-row : goal.invariant-loop-row
invariant-loop-row l = record { slots : length l.slots.items ≡ 1024; codes : AreCodesTo l.column l.rows.items l.codes.items l.row }
