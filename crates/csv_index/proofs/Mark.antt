-- A file may be cut after its byte order mark.
use Rattle.std.proofs.Common.{◌≡◌, ℕ, List, ◌++◌, drop, Bool, true, false, cond, nat_eq, refl, sym, ap, ◌∙◌, arith}
use Rattle.std.specs.Prelude.{IsUtf8}
use Rattle.std.specs.List.{starts_with}
use Rattle.std.specs.Str.{IsCharBoundary}
use Rattle.std.proofs.lemmas.Slice.Eq.{starts_is}
use Rattle.std.proofs.lemmas.Bool.Decides.{Decides-eqb}
use Rattle.std.proofs.lemmas.Str.{IsCharBoundary-start, IsCharBoundary-past_char}
use lib.Utf8.{encode}
use Rattle.csv_grammar.specs.Bytes.{byte_order_mark}
use Rattle.csv_grammar.specs.Files.{mark_len}

-- the mark is the character U+FEFF
mark_char : encode 0xFEFF ≡ byte_order_mark
unfolding encode
mark_char = refl

mark_at : (file : List ℕ) (t : Bool) → t ≡ starts_with nat_eq file byte_order_mark → IsUtf8 file → IsCharBoundary file (cond t 3 0)
mark_at file false e utf8 = IsCharBoundary-start file utf8
mark_at file true e utf8 =
    let begins = (starts_is Decides-eqb file byte_order_mark true e).0 refl in
    IsCharBoundary-past_char file (drop 3 file) 0 0xFEFF (omega arith) utf8 (begins ∙ ap (λ bytes. bytes ++ drop 3 file) (sym mark_char))

pub mark_boundary : (file : List ℕ) → IsUtf8 file → IsCharBoundary file (mark_len file)
mark_boundary file utf8 = mark_at file (starts_with nat_eq file byte_order_mark) refl utf8
