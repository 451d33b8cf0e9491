use Rattle.std.proofs.Common.{length, string_bytes, ◌≤◌}
use denote.Text.{Utf8}
use denote.Shadow.{shadow}
use Rattle.odata_parse.proofs.LiteralLemmas.{Unquoting}
use Rattle.odata_parse.proofs.literal.content.Given as goal

abbrev pub invariant-loop-at : goal.invariant-loop-at
invariant-loop-at l = shadow (Utf8 l.rest) × Unquoting l.quoted (string_bytes l.content) l.rest × (length l.rest ≤ length l.quoted)

abbrev pub decreases-loop-at : goal.decreases-loop-at
decreases-loop-at l = length l.rest
