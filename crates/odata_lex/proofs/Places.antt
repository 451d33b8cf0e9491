-- Each token is a slice of its source, between two boundaries of characters, and each begins where the one before it ends, or later.
use Rattle.std.proofs.Common.{◌≡◌, ℕ, zero, suc, ◌+◌, ◌-◌, ◌≤◌, ◌<◌, List, [], ◌∷◌, ◌++◌, length, take, drop, get_or, refl, ap, ◌∙◌, sym, subst, arith, length-append, length-drop, length-take, IsUtf8, true, add-zero}
use Rattle.std.proofs.lemmas.Bool.Decides.{nat_tests}
use Rattle.std.proofs.lemmas.List.{take_at, drop_at, get_or-drop, get_or-take, get_or_append_left, get_or-append-add, drop-drop, length_push, get_or_push}
use Rattle.std.proofs.lemmas.List.Elements.{All-cons, All-nil}
use Rattle.std.proofs.lemmas.Str.{IsCharBoundary-before_ascii, IsCharBoundary-after_ascii}
use Rattle.std.proofs.lemmas.Str.Parse.{digit_at}
use Rattle.std.specs.List.{All}
use Rattle.std.specs.Str.Parse.{AllDigits}
use Rattle.odata_lex.specs.Lexer.{BeginsToken, ReadsTokensFrom, reads_end, reads_blank, reads_token, IsTokenAt, AreTokensInOrder}
use Rattle.odata_lex.specs.Token.{apostrophe, point, dollar, apostrophes_doubled, IsOfTokenKind, IsWord, word, is_word_byte, token_text}
use Rattle.odata_lex.specs.declared.token.Token.{Token}
use Rattle.odata_lex.specs.declared.token.TokenKind.{TokenKind}
use Rattle.odata_lex.specs.declared.token.TokenKind.TheVariants.{Text, Date, Decimal, Number, Word, Dollar, OpenParenthesis, CloseParenthesis, Comma, Slash, Minus, Star, EqualsSign}
use Rattle.odata_lex.proofs.Runs.{AreWordBytes, word_byte_of_begin}
use Rattle.odata_lex.proofs.LexerLemmas.{kind_nonempty}

-- the first and the last byte are of ASCII
record AsciiEnds (front : List ℕ) : Type 0 where
  first : get_or front 0 0 < 128
  last : get_or front (length front - 1) 0 < 128

digit_ascii : (digits : List ℕ) (i : ℕ) → AllDigits 10 digits → i < length digits → get_or digits i 0 < 128
digit_ascii digits i are within = let range = digit_at digits i are within in omega (arith, range)

word_byte_ascii : (b : ℕ) → is_word_byte b ≡ true → b < 128
word_byte_ascii b is = grind (arith, nat_tests)

word_ascii : (bytes : List ℕ) (i : ℕ) → AreWordBytes bytes → i < length bytes → get_or bytes i 0 < 128
word_ascii [] i are within = absurd (omega arith)
word_ascii (b ∷ bytes) zero (first, others) within = word_byte_ascii b first
word_ascii (b ∷ bytes) (suc i) (first, others) within = word_ascii bytes i others (omega arith)

word_bytes : (bytes : List ℕ) → IsWord bytes → AreWordBytes bytes
word_bytes bytes (word {b = b} begins others) = (word_byte_of_begin b begins, others)

word_ends : (front : List ℕ) → IsWord front → AsciiEnds front
word_ends front form =
    let some = kind_nonempty Word front form in
    record { first = word_ascii front 0 (word_bytes front form) some; last = word_ascii front (length front - 1) (word_bytes front form) (omega (arith, some)) }

after_dollar : (name : List ℕ) → 0 < length name → AsciiEnds name → AsciiEnds (dollar ∷ name)
after_dollar name some ends =
    let e : length (dollar ∷ name) - 1 ≡ suc (length name - 1) = omega arith in
    let last : get_or (dollar ∷ name) (length (dollar ∷ name) - 1) 0 < 128 = rw e ends.last in record { first = omega arith; last = last }

decimal_ends : (whole fraction : List ℕ) → AllDigits 10 whole → AllDigits 10 fraction → 0 < length whole → 0 < length fraction → AsciiEnds (whole ++ point ∷ fraction)
decimal_ends whole fraction before behind some_before some_behind =
    let long = length-append whole (point ∷ fraction) in
    let k : length (whole ++ point ∷ fraction) - 1 ≡ length whole + suc (length fraction - 1) = omega (arith, long) in
    let first_is = get_or_append_left whole (point ∷ fraction) 0 0 some_before in
    let last_is = get_or-append-add whole (point ∷ fraction) (suc (length fraction - 1)) 0 in
    let first = digit_ascii whole 0 before some_before in
    let last = digit_ascii fraction (length fraction - 1) behind (omega (arith, some_behind)) in
    record { first = omega (arith, first, first_is); last = rw (k, last_is) last }

ascii_ends : (kind : TokenKind) (front : List ℕ) → IsOfTokenKind kind front → AsciiEnds front
ascii_ends Text front form =
    let inside = apostrophe ∷ apostrophes_doubled form.content in
    let last_is : get_or front (length front - 1) 0 ≡ apostrophe =
    ap (λ (f : List ℕ). get_or f (length f - 1) 0) form.printed
    ∙ get_or_push inside apostrophe 0 (length (inside ++ apostrophe ∷ []) - 1) (omega (arith, length_push inside apostrophe)) in
    record { first = rw form.printed (omega arith); last = omega (arith, last_is) }
ascii_ends Date front form =
    let long : length front ≡ 10 = form.form.ten in
    let end : length front - 1 ≡ 9 = omega arith in
    let first : get_or (take 4 front) 0 0 < 128 = digit_ascii (take 4 front) 0 form.form.year (omega (arith, length-take 4 front)) in
    let last : get_or (take 2 (drop 8 front)) 1 0 < 128 = digit_ascii (take 2 (drop 8 front)) 1 form.form.day (omega (arith, length-take 2 (drop 8 front), length-drop 8 front)) in
    let first_is = get_or-take 4 front 0 0 (omega arith) in
    let last_is = get_or-take 2 (drop 8 front) 1 0 (omega arith) ∙ get_or-drop 8 front 1 0 in
    record { first = omega (arith, first, first_is); last = rw end (omega (arith, last, last_is)) }
ascii_ends Decimal front form = rw form.printed (decimal_ends form.whole form.fraction form.before form.behind form.some_before form.some_behind)
ascii_ends Number front form = record {
  first = digit_ascii front 0 form.digits form.nonempty;
  last = digit_ascii front (length front - 1) form.digits (omega (arith, form.nonempty));
}
ascii_ends Word front form = word_ends front form
ascii_ends Dollar front form = rw form.printed (after_dollar form.name (kind_nonempty Word form.name form.is_word) (word_ends form.name form.is_word))
ascii_ends OpenParenthesis front form = rw form (record { first = omega arith; last = omega arith })
ascii_ends CloseParenthesis front form = rw form (record { first = omega arith; last = omega arith })
ascii_ends Comma front form = rw form (record { first = omega arith; last = omega arith })
ascii_ends Slash front form = rw form (record { first = omega arith; last = omega arith })
ascii_ends Minus front form = rw form (record { first = omega arith; last = omega arith })
ascii_ends Star front form = rw form (record { first = omega arith; last = omega arith })
ascii_ends EqualsSign front form = rw form (record { first = omega arith; last = omega arith })

-- a token that begins at a place of the source
pub token_at : (source : List ℕ) (place : ℕ) (front after : List ℕ) (t : Token) → IsUtf8 source → place ≤ length source → BeginsToken (drop place source) t.kind front after → t.start ≡ place → t.end ≡ place + length front → IsTokenAt source t × (after ≡ drop t.end source)
token_at source place front after t utf8 inside begins start end =
    let some : 0 < length front = kind_nonempty t.kind front begins.form in
    let whole : length source - place ≡ length front + length after = sym (length-drop place source) ∙ ap length begins.split ∙ length-append front after in
    let ascii = ascii_ends t.kind front begins.form in
    let byte : (i : ℕ) → i < length front → get_or source (place + i) 0 ≡ get_or front i 0 = λ i within.
    sym (get_or-drop place source i 0) ∙ ap (λ (l : List ℕ). get_or l i 0) begins.split ∙ get_or_append_left front after 0 i within in
    let width : t.end - t.start ≡ length front = omega arith in
    let text : token_text source t ≡ front = rw (width, start, begins.split) (take_at front after (length front) refl) in
    let first : get_or source place 0 < 128 = let at : get_or source place 0 ≡ get_or front 0 0 = sym (ap (λ n. get_or source n 0) (add-zero place)) ∙ byte 0 some in omega (arith, ascii.first, at) in
    let last : get_or source (place + (length front - 1)) 0 < 128 = let at = byte (length front - 1) (omega arith) in omega (arith, ascii.last, at) in
    let end_is : place + (length front - 1) + 1 ≡ t.end = omega arith in
    let close = IsCharBoundary-after_ascii source (place + (length front - 1)) utf8 (omega arith) last in
    let rest : drop (length front) (drop place source) ≡ after = ap (drop (length front)) begins.split ∙ drop_at front after (length front) refl in (
      record {
        nonempty = omega arith;
        within = omega arith;
        start = rw start (IsCharBoundary-before_ascii source place (omega arith) first);
        end = rw end_is at close;
        form = rw text begins.form;
      },
      sym rest ∙ drop-drop (length front) place source ∙ ap (λ n. drop n source) (sym end),
    )

earlier : (place : ℕ) (tokens : List Token) → AreTokensInOrder (place + 1) tokens → AreTokensInOrder place tokens
earlier place [] order = tt
earlier place (t ∷ tokens) order = (omega (arith, order.0), order.1)

-- the tokens of a text that stands at a place of the source
pub record ArePlaced (source : List ℕ) (place : ℕ) (tokens : List Token) : Type 0 where
  pub each : All (IsTokenAt source) tokens
  pub in_order : AreTokensInOrder place tokens

pub placed : (source : List ℕ) (place : ℕ) (text : List ℕ) (tokens : List Token) (rest : List ℕ) → IsUtf8 source → place ≤ length source → text ≡ drop place source → ReadsTokensFrom place text tokens rest → ArePlaced source place tokens
placed source place text _ rest utf8 inside here reads_end = record { each = All-nil (IsTokenAt source); in_order = tt }
placed source place _ _ rest utf8 inside here (reads_blank {b = b} {text = text} {tokens = tokens} blank more) =
    let one : suc (length text) ≡ length source - place = ap length here ∙ length-drop place source in
    let next : text ≡ drop (place + 1) source = ap (drop 1) here ∙ drop-drop 1 place source in
    let later = placed source (place + 1) text tokens rest utf8 (omega arith) next more in
    record { each = later.each; in_order = earlier place tokens later.in_order }
placed source place text _ rest utf8 inside here (reads_token {front = front} {after = after} {t = t} {tokens = tokens} begins start end more) =
    let there : BeginsToken (drop place source) t.kind front after = subst (λ l. BeginsToken l t.kind front after) here begins in
    let token = token_at source place front after t utf8 inside there start end in
    let later = placed source t.end after tokens rest utf8 token.0.within token.1 more in
    record { each = All-cons (IsTokenAt source) t tokens token.0 later.each; in_order = (omega (arith, start), later.in_order) }
