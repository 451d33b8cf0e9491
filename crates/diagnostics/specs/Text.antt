-- Texts of others in a line: without control characters, and cut.
use Rattle.std.specs.Prelude.{ℕ, Bool, List, [], ◌++◌, length, take, nat_lt, codes, chars, encode_utf8_all, if◌then◌else◌}
use Rattle.serde_json.specs.Data.{string}
use Rattle.serde_json.specs.Written.{compact_text}
use Rattle.text_escapes.specs.Escapes.{escaped}
use Rattle.diagnostics.specs.declared.text.TheConstants.{MOST_CHARACTERS}

-- the first characters, as many as stand in a line
abbrev pub front_of : List ℕ → List ℕ
front_of text = encode_utf8_all (take MOST_CHARACTERS (chars text))

-- more follow them
abbrev pub is_long : List ℕ → Bool
is_long text = nat_lt MOST_CHARACTERS (length (chars text))

-- three points stand for what is cut off
abbrev pub with_mark : List ℕ → Bool → List ℕ
with_mark text is_cut = text ++ (if is_cut then codes "..." else [])

-- a text on one line
abbrev pub cut_text : List ℕ → List ℕ
cut_text text = with_mark (escaped (front_of text)) (is_long text)

-- as a JSON text (RFC 8259, section 7)
abbrev pub quoted_text : List ℕ → List ℕ
quoted_text text = with_mark (escaped (compact_text (string (front_of text)))) (is_long text)
