-- Numbers that are marked: by a boolean each, or by the bits of a word.
use Rattle.std.specs.Prelude.{◌+◌, ◌==◌, ℕ, zero, suc, Bool, true, false, List, [], ◌∷◌, ◌++◌, if◌then◌else◌}
use Rattle.std.specs.Int.{bit_at}

-- the numbers whose marks are true, of which the first mark is that of a number
abbrev pub marked_numbers : ℕ → List Bool → List ℕ
marked_numbers start [] = []
marked_numbers start (true ∷ marks) = start ∷ marked_numbers (suc start) marks
marked_numbers start (false ∷ marks) = marked_numbers (suc start) marks

-- those of the first bits of a word, of the given count, that are set, each as its place after `start`
unfoldable pub bit_numbers : ℕ → ℕ → ℕ → List ℕ
bit_numbers start word zero = []
bit_numbers start word (suc count) = bit_numbers start word count ++ (if bit_at word count == 1 then (start + count) ∷ [] else [])
