-- The fields of a head that decide how it is answered (RFC 9110, sections 5 and 7; RFC 9112, sections 3.2, 6 and 9.3).
use Rattle.std.specs.Prelude.{ℕ, Bool, ◌&&◌, ◌||◌, not, ◌==◌, List, [], ◌∷◌, length, map, codes, if◌then◌else◌}
use Rattle.std.specs.List.{list_any, list_all, count_by, slice_split}
use Rattle.std.specs.Str.{bytes_eq}
use Rattle.std.specs.Char.{to_ascii_lowercase}
use Rattle.http_heads.specs.Head.{HeadOf}

-- the same name or word, in any case of ASCII letters
abbrev pub same_word : List ℕ → List ℕ → Bool
same_word a b = bytes_eq (map to_ascii_lowercase a) (map to_ascii_lowercase b)

-- a space or a tab
abbrev pub is_optional_space : ℕ → Bool
is_optional_space b = b == 32 || b == 9

-- the bytes without the blanks before them
abbrev pub without_front : List ℕ → List ℕ
without_front [] = []
without_front (b ∷ bytes) = if is_optional_space b then without_front bytes else b ∷ bytes

-- the bytes without the blanks after them
abbrev pub without_back : List ℕ → List ℕ
without_back [] = []
without_back (b ∷ bytes) = if is_optional_space b && (length (without_back bytes) == 0) then [] else b ∷ without_back bytes

-- the bytes without the blanks round them
abbrev pub stripped : List ℕ → List ℕ
stripped bytes = without_back (without_front bytes)

-- a list of words, separated by commas, has the word `close`
abbrev pub lists_close : List ℕ → Bool
lists_close value = list_any (λ part. same_word (stripped part) (codes "close")) (slice_split (λ b. b == 44) value)

-- how many fields have that name
abbrev pub count_named : List ℕ → List (List ℕ × List ℕ) → ℕ
count_named name fields = count_by (λ field. same_word field.0 name) fields

-- HTTP/1.1 wants one Host field, and HTTP/1.0 at most one (RFC 9112, section 3.2)
unfoldable pub host_fits : HeadOf → Bool
host_fits head =
    (count_named (codes "host") head.fields == 1) || ((head.minor == 0) && (count_named (codes "host") head.fields == 0))

-- a field that announces a body by a coding
abbrev pub is_coding : List ℕ × List ℕ → Bool
is_coding field = same_word field.0 (codes "transfer-encoding")

-- one that is no Content-Length, or says that there is no body
abbrev pub has_no_body : List ℕ × List ℕ → Bool
has_no_body field = not (same_word field.0 (codes "content-length")) || bytes_eq (stripped field.1) (codes "0")

-- a Connection field that lists `close`
abbrev pub is_closing : List ℕ × List ℕ → Bool
is_closing field = same_word field.0 (codes "connection") && lists_close field.1

-- a body is announced by a coding
unfoldable pub has_coding : HeadOf → Bool
has_coding head = list_any is_coding head.fields

-- each Content-Length field says that there is no body
unfoldable pub has_no_length : HeadOf → Bool
has_no_length head = list_all has_no_body head.fields

-- the client wants no further reply: HTTP/1.0, or a Connection field that lists `close` (RFC 9112, section 9.3)
unfoldable pub asks_to_close : HeadOf → Bool
asks_to_close head = (head.minor == 0) || list_any is_closing head.fields
