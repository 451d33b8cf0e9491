-- Places in a front of some bytes have the bytes that they have in all of them.
use Rattle.std.proofs.Common.{◌≡◌, ◌+◌, ◌-◌, ℕ, List, [], ◌∷◌, map, drop, take, refl, ap, ◌∙◌, arith}
use Rattle.std.specs.List.{All}
use Rattle.std.proofs.lemmas.List.{drop-take, take-take}
use Rattle.std.proofs.lemmas.List.Elements.{All-head, All-tail}
use Rattle.httparse.specs.declared.spans.HeaderSpan.{HeaderSpan}
use Rattle.httparse.specs.declared.spans.Span.{Span}
use Rattle.httparse.specs.Spans.{IsHeaderWithin, IsWithin, header_bytes, span_bytes}
use Rattle.http_heads.specs.Head.{head_at}

pub span-front : (n : ℕ) (bytes : List ℕ) (s : Span) → IsWithin n s → span_bytes (take n bytes) s ≡ span_bytes bytes s
span-front n bytes s within =
    let e : n ≡ s.start + (n - s.start) = omega (arith, within.0, within.1) in
    ap (take (s.end - s.start)) (ap (λ m. drop s.start (take m bytes)) e ∙ drop-take s.start (n - s.start) bytes)
    ∙ take-take (s.end - s.start) (n - s.start) (drop s.start bytes) (omega (arith, within.0, within.1))

pub header-front : (n : ℕ) (bytes : List ℕ) (h : HeaderSpan) → IsHeaderWithin n h → header_bytes (take n bytes) h ≡ header_bytes bytes h
header-front n bytes h within = rw (span-front n bytes h.name within.0, span-front n bytes h.value within.1) refl

pub headers-front : (n : ℕ) (bytes : List ℕ) (hs : List HeaderSpan) → All (IsHeaderWithin n) hs → map (header_bytes (take n bytes)) hs ≡ map (header_bytes bytes) hs
headers-front n bytes [] within = refl
headers-front n bytes (h ∷ hs) within = rw (header-front n bytes h (All-head (IsHeaderWithin n) h hs within), headers-front n bytes hs (All-tail (IsHeaderWithin n) h hs within)) refl

-- and so the head that stands there is the same
pub head-front : (n : ℕ) (bytes : List ℕ) (method target : Span) (minor : ℕ) (fields : List HeaderSpan) → IsWithin n method → IsWithin n target
    → All (IsHeaderWithin n) fields → head_at (take n bytes) method target minor fields ≡ head_at bytes method target minor fields
head-front n bytes method target minor fields a b c =
    rw (span-front n bytes method a, span-front n bytes target b, headers-front n bytes fields c) refl
