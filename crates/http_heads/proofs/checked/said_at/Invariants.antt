use Rattle.std.proofs.Common.{◌≡◌, map, take}
use Rattle.httparse.specs.Spans.{header_bytes}
use Rattle.http_heads.specs.Said.{said_by}
use Rattle.http_heads.proofs.checked.said_at.Given as goal

-- what the fields so far say
abbrev pub invariant-loop-field : goal.invariant-loop-field
invariant-loop-field l = l.said ≡ said_by (map (header_bytes l.bytes) (take l.field-index l.fields))
