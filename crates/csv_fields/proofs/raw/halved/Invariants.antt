-- What is written, and the rest halved, is the text halved.
use Rattle.std.proofs.Common.{◌≡◌, ◌++◌, string_bytes, length}
use denote.Text.{Utf8}
use denote.Shadow.{shadow}
use Rattle.csv_grammar.specs.Raw.{halved}
use Rattle.csv_fields.proofs.raw.halved.Given as goal

abbrev pub invariant-loop-front : goal.invariant-loop-front
invariant-loop-front l = shadow (Utf8 l.rest) × (halved l.fn.text ≡ string_bytes l.content ++ halved l.rest)

abbrev pub decreases-loop-front : goal.decreases-loop-front
decreases-loop-front l = length l.rest
