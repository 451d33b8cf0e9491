use Rattle.std.proofs.Common.{take}
use Rattle.row_columns.specs.Picked.{numbered}
use Rattle.row_codes.specs.Codes.{HaveKeyCodes}
use Rattle.row_codes.proofs.codes.key_codes.Given as goal

-- the codes by the places so far
abbrev pub invariant-loop-place : goal.invariant-loop-place
invariant-loop-place l = HaveKeyCodes (take l.place-index l.places) (numbered l.numbers l.columns.rows) l.codes
