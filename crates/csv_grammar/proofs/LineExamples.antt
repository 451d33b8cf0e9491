-- Worked lines, each by running the machine over it. The bytes are 'A' 65, the double quote 34 and LF 10.
use Rattle.std.proofs.Common.{[], ◌∷◌, refl}
use Rattle.csv_grammar.specs.Records.{unquoted, quoted}
use Rattle.csv_grammar.specs.Pieces.{AreLines}
use Rattle.csv_grammar.proofs.AfterLines.{lines_at}

-- A LF: one line
pub one_line : AreLines (65 ∷ 10 ∷ []) ((unquoted (65 ∷ []) ∷ []) ∷ [])
one_line = lines_at (65 ∷ 10 ∷ []) _ refl refl

-- "LF" LF: an LF inside double quotes ends no line
pub feed_in_quotes : AreLines (34 ∷ 10 ∷ 34 ∷ 10 ∷ []) ((quoted (10 ∷ []) ∷ []) ∷ [])
feed_in_quotes = lines_at (34 ∷ 10 ∷ 34 ∷ 10 ∷ []) _ refl refl
