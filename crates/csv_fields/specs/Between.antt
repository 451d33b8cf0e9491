-- The field that the bytes between two structural places are (RFC 4180, section 2, rules 1, 2 and 5).
use Rattle.std.specs.Prelude.{ℕ, ◌+◌, ◌-◌, true, false, List, [], ◌∷◌, length, slice_index, slice_range, if◌then◌else◌, ◌==◌}
use Rattle.csv_grammar.specs.Bytes.{double_quote, carriage_return}
use Rattle.csv_grammar.specs.Raw.{RawField}

-- a CR at the end belongs to the line break
abbrev pub without_return : List ℕ → List ℕ
without_return bytes = if slice_index bytes (length bytes - 1) == carriage_return then slice_range bytes 0 (length bytes - 1) else bytes

-- the enclosing double quotes belong to no field
abbrev pub unwrapped : List ℕ → RawField
unwrapped bytes =
    if slice_index bytes 0 == double_quote then record { bytes = slice_range bytes 1 (length bytes - 1); quoted = true }
    else record { bytes = bytes; quoted = false }

-- the field that the bytes between two structural places are
abbrev pub raw_between : List ℕ → RawField
raw_between bytes = unwrapped (without_return bytes)

-- the bytes between the places
abbrev pub cut : ℕ → List ℕ → List ℕ → List (List ℕ)
cut start [] bytes = []
cut start (end ∷ ends) bytes = slice_range bytes start end ∷ cut (end + 1) ends bytes
