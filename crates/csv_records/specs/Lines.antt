-- The lines of a text (RFC 4180, section 2, rule 1), and the line breaks of old files.
use Rattle.std.specs.Prelude.{◌≡◌, ℕ, zero, suc, ◌==◌, ◌&&◌, not, Bool, false, List, [], ◌∷◌, ◌++◌, if◌then◌else◌, option_to_list}
use Rattle.std.specs.List.{after_first}
use Rattle.csv_grammar.specs.Bytes.{double_quote, carriage_return, line_feed}
use Rattle.csv_records.specs.declared.feeds.LineFeeds.{LineFeeds}

abbrev pub begins_with_feed : List ℕ → Bool
begins_with_feed [] = false
begins_with_feed (byte ∷ rest) = byte == line_feed

-- a CR outside double quotes that no LF follows
abbrev pub is_lone : Bool → ℕ → List ℕ → Bool
is_lone is_inside byte rest = byte == carriage_return && not is_inside && not (begins_with_feed rest)

-- after a double quote the text is inside, if it was outside
abbrev pub inside_after : Bool → ℕ → Bool
inside_after is_inside byte = if byte == double_quote then not is_inside else is_inside

-- a text that begins inside double quotes or outside, with an LF in the place of each such CR
abbrev pub with_feeds : Bool → List ℕ → List ℕ
with_feeds is_inside [] = []
with_feeds is_inside (byte ∷ rest) =
    (if is_lone is_inside byte rest then line_feed else byte) ∷ with_feeds (inside_after is_inside byte) rest

-- what is written for the rest of a text, and for the last byte before it
abbrev pub fed : LineFeeds → List ℕ → List ℕ
fed feeds text = with_feeds feeds.is_inside (option_to_list feeds.last ++ text)

-- a piece of a text is read, and what is written, before and after, is the same with any text that follows
abbrev pub FeedsText : LineFeeds → LineFeeds → List ℕ → List ℕ → List ℕ → Type 0
FeedsText old new piece before after =
    (text : List ℕ) → before ++ fed old (piece ++ text) ≡ after ++ fed new text

-- a text without its first lines
abbrev pub after_lines : ℕ → List ℕ → List ℕ
after_lines zero text = text
after_lines (suc count) text = after_lines count (after_first (λ byte. byte == line_feed) text)
