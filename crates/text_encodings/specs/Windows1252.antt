-- The characters of Windows-1252 (Encoding Standard of WHATWG, index windows-1252).
use Rattle.std.specs.Prelude.{ℕ, List, [], ◌∷◌, ◌-◌, ◌&&◌, nat_le, nat_lt, if◌then◌else◌, get_or}

-- the characters of the bytes from 128 to 159
abbrev pub high_chars : List ℕ
high_chars = 0x20AC ∷ 0x81 ∷ 0x201A ∷ 0x192 ∷ 0x201E ∷ 0x2026 ∷ 0x2020 ∷ 0x2021
    ∷ 0x2C6 ∷ 0x2030 ∷ 0x160 ∷ 0x2039 ∷ 0x152 ∷ 0x8D ∷ 0x17D ∷ 0x8F
    ∷ 0x90 ∷ 0x2018 ∷ 0x2019 ∷ 0x201C ∷ 0x201D ∷ 0x2022 ∷ 0x2013 ∷ 0x2014
    ∷ 0x2DC ∷ 0x2122 ∷ 0x161 ∷ 0x203A ∷ 0x153 ∷ 0x9D ∷ 0x17E ∷ 0x178 ∷ []

-- the character of a byte: that of its number, but for those from 128 to 159
abbrev pub char_of_byte : ℕ → ℕ
char_of_byte byte = if nat_le 128 byte && nat_lt byte 160 then get_or high_chars (byte - 128) 0 else byte
