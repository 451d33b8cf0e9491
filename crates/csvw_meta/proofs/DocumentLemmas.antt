-- What the bytes of a text are as a document.
use Rattle.std.proofs.Common.{◌≡◌, ◌<◌, ◌≤◌, ◌+◌, ℕ, List, ◌++◌, Bool, true, false, Some, None, IsUtf8, length, leb, nat_eq, refl, arith}
use Rattle.std.specs.List.{starts_with}
use Rattle.std.proofs.lemmas.Bool.{le-leb, leb-true}
use Rattle.std.proofs.lemmas.Str.{IsUtf8-from_is_utf8, is_utf8-from_IsUtf8}
use Rattle.std.specs.Str.{is_utf8}
use Rattle.serde_json.specs.Data.{Data}
use Rattle.serde_json.specs.Read.{read}
use Rattle.csv_grammar.specs.Bytes.{byte_order_mark}
use Rattle.csv_grammar.specs.Files.{text_of}
use Rattle.csvw_meta.specs.declared.limits.TheConstants.{MOST_METADATA_BYTES}
use Rattle.csvw_meta.specs.Document.{document}

-- a text that is UTF-8 and reads as a value is that document
pub document-read : (bs : List ℕ) (d : Data) → length bs ≤ MOST_METADATA_BYTES → IsUtf8 (text_of bs) → read (text_of bs) ≡ Some d → document bs ≡ Some d
unfolding document
document-read bs d short utf8 is = rw (le-leb (length bs) MOST_METADATA_BYTES short, is_utf8-from_IsUtf8 (text_of bs) utf8) is

none_at : (bs : List ℕ) (short utf8 : Bool) → leb (length bs) MOST_METADATA_BYTES ≡ short → is_utf8 (text_of bs) ≡ utf8 → (IsUtf8 (text_of bs) → read (text_of bs) ≡ None) → document bs ≡ None
unfolding document
none_at bs true true e f h = rw (e, f) (h (IsUtf8-from_is_utf8 (text_of bs) f))
none_at bs true false e f h = rw (e, f) refl
none_at bs false utf8 e f h = rw e refl

-- a text that is refused as soon as it is UTF-8 is no document
pub document-none : (bs : List ℕ) → (IsUtf8 (text_of bs) → read (text_of bs) ≡ None) → document bs ≡ None
document-none bs h = none_at bs (leb (length bs) MOST_METADATA_BYTES) (is_utf8 (text_of bs)) refl refl h

long_at : (bs : List ℕ) (short : Bool) → leb (length bs) MOST_METADATA_BYTES ≡ short → MOST_METADATA_BYTES < length bs → document bs ≡ None
unfolding document
long_at bs true e h = let short = leb-true _ _ e in absurd (omega arith)
long_at bs false e h = rw e refl

-- a long text is no document
pub document-long : (bs : List ℕ) → MOST_METADATA_BYTES < length bs → document bs ≡ None
document-long bs h = long_at bs (leb (length bs) MOST_METADATA_BYTES) refl h

-- a mark in front of a text that has none changes nothing, where there is room for it
pub document-mark : (bs : List ℕ) → starts_with nat_eq bs byte_order_mark ≡ false → length byte_order_mark + length bs ≤ MOST_METADATA_BYTES
    → document (byte_order_mark ++ bs) ≡ document bs
unfolding document
document-mark bs unmarked room =
    let short : leb (length bs) MOST_METADATA_BYTES ≡ true = le-leb (length bs) MOST_METADATA_BYTES (omega arith) in
    let marked : leb (length (byte_order_mark ++ bs)) MOST_METADATA_BYTES ≡ true = le-leb (length (byte_order_mark ++ bs)) MOST_METADATA_BYTES (omega arith) in
    rw (short, marked, unmarked) refl
