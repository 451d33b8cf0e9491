-- Rests after which no head can come.
use Rattle.std.proofs.Common.{◌≡◌, ◌<◌, ◌≤◌, ℕ, List, [], ◌∷◌, ◌++◌, length, take, refl, sym, ap, ◌∙◌, subst, arith, append_assoc, append-nil, length-take, true, false, inl, inr}
use Rattle.std.proofs.lemmas.Bool.{cases_lt}
use Rattle.std.proofs.lemmas.List.{length-map, take_all}
use Rattle.std.proofs.lemmas.List.Elements.{All-nil, All-push}
use Rattle.std.proofs.lemmas.Str.{IsUtf8-from_ascii}
use Rattle.std.proofs.lemmas.Str.Ascii.{IsAscii-cons, IsAscii-nil}
use Rattle.httparse.specs.Grammar.{RequestHead, IsRequestHead, is_token_byte, is_uri_byte, IsField, lf, print_request}
use Rattle.httparse.specs.declared.spans.HeaderSpan.{HeaderSpan}
use Rattle.httparse.specs.declared.spans.RequestSpans.{RequestSpans}
use Rattle.httparse.specs.Spans.{IsRequestOf, IsRequestWithin, header_bytes, name_and_value}
use Rattle.http_heads.specs.declared.head.TheConstants.{MAX_HEAD, MAX_FIELDS}
use Rattle.http_heads.specs.Head.{HeadOf, head_of, BeginsWith, HasNoHead, IsRest}
use Rattle.http_heads.specs.Cut.{IsCut}
use Rattle.http_heads.specs.Hopeless.{IsHopeless, TellsHopeless}
use Rattle.http_heads.specs.Laws.{HopelessRests}
use Rattle.http_heads.proofs.HeadLemmas.{long_enough, short_front}
use Rattle.http_heads.proofs.CutLemmas.{cut_joins}

-- a rest of as many bytes as a head may have
pub full_hopeless : (rest : List ℕ) → IsRest rest → length rest ≡ MAX_HEAD → TellsHopeless rest true
full_hopeless rest is full = record {
  hopeless = λ _ more. long_enough rest more (omega (arith, full)) is.none;
  waits = λ bad. cc;
}

-- a rest has no head at its front
pub complete_none : (rest : List ℕ) (headers : List HeaderSpan) (spans : RequestSpans) → IsRest rest → length headers ≡ MAX_FIELDS
    → IsRequestWithin rest headers spans → IsRequestOf rest headers spans → ⊥
complete_none rest headers spans is room within found =
    let h = found.0 in
    let at = found.1 in
    let here : spans.len ≤ length rest = within.section.len_fits in
    let short : length rest ≤ MAX_HEAD = is.short in
    let len : spans.len ≡ length (print_request h) = at.len in
    let count : length (take spans.headers headers) ≡ length h.fields =
    sym (length-map (take spans.headers headers) (header_bytes rest)) ∙ ap length at.fields ∙ length-map h.fields name_and_value in
    let few : length h.fields ≤ MAX_FIELDS = omega (arith, count, room, length-take spans.headers headers) in
    is.none (head_of h) _ (record {
      tree = h;
      reads = at.reads;
      small = record { bytes = omega (arith, here, short, len); fields = few };
      parts = refl;
    })

-- ---- a hopeless rest

-- a head of few bytes
abbrev least : RequestHead
least = record { blank = []; method = 65 ∷ []; target = 47 ∷ []; minor = 1; line_end = lf; fields = []; last = lf }

least_is : IsRequestHead least
unfolding is_token_byte
least_is = record {
  method = (omega arith, All-push (λ v. is_token_byte v ≡ true) [] 65 (All-nil _) refl);
  target = (omega arith, All-push (λ v. is_uri_byte v ≡ true) [] 47 (All-nil _) refl);
  target_text = IsUtf8-from_ascii (47 ∷ []) (IsAscii-cons 47 [] (omega arith) IsAscii-nil);
  minor = omega arith;
  fields = All-nil IsField;
}

least_small : length (print_request least) ≤ MAX_HEAD
unfolding print_request
least_small = let len : length (print_request least) ≡ 14 = refl in omega (arith, len)

least_begins : BeginsWith (print_request least) (head_of least) []
least_begins = record {
  tree = least;
  reads = (least_is, sym (append-nil _));
  small = record { bytes = least_small; fields = omega arith };
  parts = refl;
}

some_bytes : (rest : List ℕ) → IsHopeless rest → 0 < length rest
some_bytes [] never = absurd (never (print_request least) (head_of least) [] least_begins)
some_bytes (b ∷ rest) never = omega arith

stays_so : (rest more : List ℕ) → IsHopeless rest → IsHopeless (rest ++ more)
stays_so rest more never = λ further.
    let P : List ℕ → Type 0 = λ x. HasNoHead x in
    subst P (sym (append_assoc rest more further)) (never (more ++ further))

stays_kept : (rest more : List ℕ) → IsHopeless rest → IsHopeless (take MAX_HEAD (rest ++ more))
stays_kept rest more never = elim (cases_lt (length (rest ++ more)) MAX_HEAD) [
  | inl short ↦
      let P : List ℕ → Type 0 = λ x. IsHopeless x in
      subst P (sym (take_all MAX_HEAD (rest ++ more) (omega (arith, short)))) (stays_so rest more never)
  | inr long ↦ λ further. short_front (rest ++ more) further long (never more)
]

rest_cut : (stream more : List ℕ) (heads : List HeadOf) (rest : List ℕ)
    → IsCut stream heads rest false → IsHopeless rest → IsCut (stream ++ more) heads (take MAX_HEAD (rest ++ more)) false
rest_cut stream more heads rest cut never =
    let P : List HeadOf → Type 0 = λ x. IsCut (stream ++ more) x (take MAX_HEAD (rest ++ more)) false in
    subst P (append-nil heads) (cut_joins stream more heads [] rest (take MAX_HEAD (rest ++ more)) false cut (refl, refl, never more))

pub all_rests : HopelessRests
all_rests = record { some = some_bytes; kept = stays_kept; cut = rest_cut }
