-- How far a text has been read.
use Rattle.std.proofs.Common.{◌≡◌, ℕ, ◌+◌, ◌-◌, ◌≤◌, ◌<◌, List, [], ◌∷◌, ◌++◌, length, take, drop, get_or, true, false, Option, None, Some, inl, inr, ◌≢◌, refl, ap, ◌∙◌, sym, subst, arith, append-nil, append_assoc, length-append, length-drop, IsUtf8}
use Rattle.std.proofs.lemmas.List.{drop-drop, drop_at, take_rest, at_drop_more, at_drop_all}
use Rattle.odata_lex.specs.First.{first_token}
use Rattle.odata_lex.specs.Lexer.{is_blank, ReadsTokensFrom, reads_end, reads_blank, reads_token, IsBadPlace, AreTokens, IsBad, IsTooMany}
use Rattle.odata_lex.specs.declared.token.TheConstants.{MAX_TOKENS}
use Rattle.odata_lex.specs.declared.token.Token.{Token}
use Rattle.odata_lex.specs.declared.token.TokenKind.{TokenKind}
use Rattle.odata_lex.proofs.BeginsLemmas.{first_token_found}
use Rattle.odata_lex.proofs.Finds.{FindsIn, Finds}
use Rattle.odata_lex.proofs.LexerLemmas.{reading, no_place, kind_nonempty}
use Rattle.odata_lex.proofs.Places.{placed}

-- the tokens so far, and then those of what stands at the place, are tokens of the source
pub record Progress (source : List ℕ) (tokens : List Token) (place : ℕ) : Type 0 where
  pub whole : (more : List Token) (rest : List ℕ) → ReadsTokensFrom place (drop place source) more rest → ReadsTokensFrom 0 source (tokens ++ more) rest
  pub inside : place ≤ length source
  pub few : length tokens ≤ MAX_TOKENS

pub Progress-init : (source : List ℕ) → Progress source [] 0
Progress-init source = record { whole = λ more rest reads. reads; inside = omega arith; few = omega arith }

goes_on : (source : List ℕ) (place : ℕ) → place < length source → drop place source ≡ get_or source place 0 ∷ drop (place + 1) source
goes_on source place within = at_drop_more (λ l. l) source place 0 within

pub Progress-blank : (source : List ℕ) (tokens : List Token) (place : ℕ) → Progress source tokens place → place < length source → is_blank (get_or source place 0) ≡ true → Progress source tokens (place + 1)
Progress-blank source tokens place p within blank = record {
  whole = λ more rest reads. p.whole more rest (rw (goes_on source place within) (reads_blank blank reads));
  inside = omega arith;
  few = p.few;
}

-- the token that is found at the place
found_at : (source : List ℕ) (place : ℕ) (kind : TokenKind) (len : ℕ) → first_token (drop place source) ≡ Some (kind, len) → Finds (drop place source) kind len
found_at source place kind len first = subst (FindsIn (drop place source)) first (first_token_found (drop place source))

found_within : (source : List ℕ) (place : ℕ) (kind : TokenKind) (len : ℕ) → Finds (drop place source) kind len → place ≤ length source → (0 < len) × (place + len ≤ length source)
found_within source place kind len found inside =
    let some = kind_nonempty kind found.front found.begins.form in
    let whole = sym (length-drop place source) ∙ ap length found.begins.split ∙ length-append found.front found.after in
    (omega (arith, some, found.len), omega (arith, whole, found.len))

-- a token has a byte, and ends within the source
pub token_within : (source : List ℕ) (place : ℕ) (kind : TokenKind) (len : ℕ) → first_token (drop place source) ≡ Some (kind, len) → place ≤ length source → (0 < len) × (place + len ≤ length source)
token_within source place kind len first inside = found_within source place kind len (found_at source place kind len first) inside

one_more : (source : List ℕ) (place : ℕ) (kind : TokenKind) (len : ℕ) (more : List Token) (rest : List ℕ) → Finds (drop place source) kind len → ReadsTokensFrom (place + len) (drop (place + len) source) more rest → ReadsTokensFrom place (drop place source) (record { kind = kind; start = place; end = place + len } ∷ more) rest
one_more source place kind len more rest found reads =
    let t : Token = record { kind = kind; start = place; end = place + len } in
    let end : place + len ≡ place + length found.front = ap (λ n. place + n) found.len in
    let after : drop (place + len) source ≡ found.after =
    ap (λ n. drop n source) end ∙ sym (drop-drop (length found.front) place source) ∙ ap (drop (length found.front)) found.begins.split ∙ drop_at found.front found.after (length found.front) refl in
    reads_token {t = t} found.begins refl end (rw after at reads)

pub Progress-token : (source : List ℕ) (tokens grown : List Token) (place : ℕ) (kind : TokenKind) (len : ℕ) → Progress source tokens place → first_token (drop place source) ≡ Some (kind, len) → length tokens ≢ MAX_TOKENS → grown ≡ tokens ++ record { kind = kind; start = place; end = place + len } ∷ [] → Progress source grown (place + len)
Progress-token source tokens grown place kind len p first few push =
    let t : Token = record { kind = kind; start = place; end = place + len } in
    let found = found_at source place kind len first in
    let count = ap length push ∙ length-append tokens (t ∷ []) in
    record {
      whole = λ more rest reads. rw (push, append_assoc) (p.whole (t ∷ more) rest (one_more source place kind len more rest found reads));
      inside = (found_within source place kind len found p.inside).1;
      few = let below = p.few in omega (arith, below, few, count);
    }

pub Progress-end : (source : List ℕ) (tokens : List Token) (place : ℕ) → IsUtf8 source → Progress source tokens place → length source ≤ place → AreTokens source tokens
Progress-end source tokens place utf8 p all =
    let end : drop place source ≡ [] = at_drop_all (λ l. l) source place all in
    let reads : ReadsTokensFrom 0 source tokens [] = rw append-nil at (p.whole [] [] (rw end reads_end)) in
    let spans = placed source 0 source tokens [] utf8 (omega arith) refl reads in
    record { reads = record { reads = reads; stops = inl refl }; few = p.few; in_order = spans.in_order; each = spans.each }

pub Progress-bad : (source : List ℕ) (tokens : List Token) (place : ℕ) → Progress source tokens place → place < length source → is_blank (get_or source place 0) ≡ false → first_token (drop place source) ≡ None → IsBad source
Progress-bad source tokens place p within blank none =
    let cons = goes_on source place within in
    let bad : IsBadPlace (drop place source) = rw cons (no_place (get_or source place 0) (drop (place + 1) source) blank (rw cons at none)) in
    let reads : ReadsTokensFrom 0 source tokens (drop place source) = rw append-nil at (p.whole [] (drop place source) reads_end) in
    record { tokens = tokens; rest = drop place source; reads = record { reads = reads; stops = inr bad }; few = p.few; bad = bad }

pub Progress-many : (source : List ℕ) (tokens : List Token) (place : ℕ) (kind : TokenKind) (len : ℕ) → Progress source tokens place → first_token (drop place source) ≡ Some (kind, len) → length tokens ≡ MAX_TOKENS → IsTooMany source
Progress-many source tokens place kind len p first full =
    let found = found_at source place kind len first in
    let t : Token = record { kind = kind; start = place; end = place + length found.front } in
    let rest = reading (place + length found.front) found.after in
    let reads : ReadsTokensFrom place (drop place source) (t ∷ rest.tokens) rest.rest = reads_token {t = t} found.begins refl refl rest.reads in
    record {
      tokens = tokens ++ t ∷ rest.tokens;
      rest = rest.rest;
      reads = record { reads = p.whole (t ∷ rest.tokens) rest.rest reads; stops = rest.stops };
      many = omega (arith, length-append tokens (t ∷ rest.tokens));
    }

-- the same facts, of what stands at the place as the code reads it
pub read_at : (source : List ℕ) (place : ℕ) (o : Option (TokenKind × ℕ)) → o ≡ first_token (take (length source - place) (drop place source)) → first_token (drop place source) ≡ o
read_at source place o given = ap first_token (sym (take_rest source place)) ∙ sym given
