-- A text in its quotes.
use Rattle.diagnostics.proofs.value.push_value.Goals as goal

pub returns-in-Text : goal.returns-in-Text
returns-in-Text c = rw (c.in-Text.is, ← c.as_str.ensures.value) c.push_quoted.ensures
