-- The bytes that the grammar of CSV names (RFC 4180, section 2), and the byte order mark of UTF-8 (RFC 3629, section 6).
use Rattle.std.specs.Prelude.{ℕ, List, [], ◌∷◌}

abbrev pub double_quote : ℕ
double_quote = 34

abbrev pub comma : ℕ
comma = 44

abbrev pub carriage_return : ℕ
carriage_return = 13

abbrev pub line_feed : ℕ
line_feed = 10

abbrev pub byte_order_mark : List ℕ
byte_order_mark = 0xEF ∷ 0xBB ∷ 0xBF ∷ []
