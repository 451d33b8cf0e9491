use Rattle.std.proofs.Common.{◌≡◌, map, take}
use Rattle.httparse.specs.Spans.{header_bytes}
use Rattle.http_heads.specs.Head.{field_view}
use Rattle.http_heads.proofs.head.copy_fields.Given as goal

-- the fields so far are copies of the first
abbrev pub invariant-loop-header : goal.invariant-loop-header
invariant-loop-header l = map field_view l.fields.items ≡ map (header_bytes l.bytes) (take l.header-index l.headers)
