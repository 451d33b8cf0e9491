-- The heads of requests (RFC 9112, section 2): httparse's grammar, with a bound on the bytes and one on the fields.
use Rattle.std.specs.Prelude.{◌≡◌, ℕ, ◌≤◌, List, [], ◌∷◌, length, map, take}
use Rattle.httparse.specs.Grammar.{RequestHead, print_request, ReadsRequest}
use Rattle.httparse.specs.declared.spans.HeaderSpan.{HeaderSpan}
use Rattle.httparse.specs.declared.spans.RequestSpans.{RequestSpans}
use Rattle.httparse.specs.declared.spans.Span.{Span}
use Rattle.httparse.specs.Spans.{header_bytes, name_and_value, span_bytes}
use Rattle.http_heads.specs.declared.head.TheConstants.{MAX_HEAD, MAX_FIELDS}
use Rattle.http_heads.specs.declared.head.Field.{Field}
use Rattle.http_heads.specs.declared.head.Head.{Head}

-- the parts of a head; a field is its name, and its value without the white space around it
pub record HeadOf : Type 0 where
  pub method : List ℕ
  pub target : List ℕ
  pub minor : ℕ
  pub fields : List (List ℕ × List ℕ)

-- the parts of a head of httparse's grammar
abbrev pub head_of : RequestHead → HeadOf
head_of h = record { method = h.method; target = h.target; minor = h.minor; fields = map name_and_value h.fields }

abbrev pub field_view : Field → List ℕ × List ℕ
field_view field = (field.name.items, field.value.items)

abbrev pub head_view : Head → HeadOf
head_view head = record {
  method = head.method.items;
  target = head.target.items;
  minor = head.minor;
  fields = map field_view head.fields.items;
}

-- the head whose parts stand at these places of some bytes
abbrev pub head_at : List ℕ → Span → Span → ℕ → List HeaderSpan → HeadOf
head_at bytes method target minor fields = record {
  method = span_bytes bytes method;
  target = span_bytes bytes target;
  minor = minor;
  fields = map (header_bytes bytes) fields;
}

-- the head whose parts httparse found
abbrev pub found_head : List ℕ → List HeaderSpan → RequestSpans → HeadOf
found_head bytes headers spans = head_at bytes spans.method spans.path spans.version (take spans.headers headers)

-- at most `MAX_HEAD` bytes, and at most the greatest number of fields
pub record IsSmall (h : RequestHead) : Type 0 where
  pub bytes : length (print_request h) ≤ MAX_HEAD
  pub fields : length h.fields ≤ MAX_FIELDS

-- the bytes begin with this head, and rest is what follows it
pub record BeginsWith (bytes : List ℕ) (head : HeadOf) (rest : List ℕ) : Type 0 where
  pub tree : RequestHead
  pub reads : ReadsRequest bytes tree rest
  pub small : IsSmall tree
  pub parts : head ≡ head_of tree

-- no front of the bytes is a head
abbrev pub HasNoHead : List ℕ → Type 0
HasNoHead bytes = (head : HeadOf) (rest : List ℕ) → ¬ (BeginsWith bytes head rest)

-- the bytes begin with these heads, one after another, and rest is what follows them
abbrev pub BeginsWithAll : List ℕ → List HeadOf → List ℕ → Type 0
BeginsWithAll bytes [] rest = rest ≡ bytes
BeginsWithAll bytes (head ∷ heads) rest = (more : List ℕ) × BeginsWith bytes head more × BeginsWithAll more heads rest

-- what may be the rest of a stream: no front of it is a head, and it has no more bytes than a head may have
pub record IsRest (bytes : List ℕ) : Type 0 where
  pub short : length bytes ≤ MAX_HEAD
  pub none : HasNoHead bytes
