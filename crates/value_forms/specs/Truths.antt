-- Words of true and false (Metadata Vocabulary for Tabular Data, section 5.11.2: the format of a boolean).
use Rattle.std.specs.Prelude.{ℕ, Bool, true, false, List, Option, Some, None, if◌then◌else◌}
use Rattle.std.specs.Str.{bytes_eq}

-- true for the one word, false for the other
abbrev pub word_truth : List ℕ → List ℕ → List ℕ → Option Bool
word_truth of_true of_false text =
    if bytes_eq of_true text then Some true else (if bytes_eq of_false text then Some false else None)
