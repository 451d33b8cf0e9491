use Rattle.std.proofs.Common.{◌≡◌, map, take}
use Rattle.http_heads.specs.Head.{field_view}
use Rattle.http_heads.specs.Said.{said_by}
use Rattle.http_heads.proofs.checks.said_of.Given as goal

-- what the fields so far say
abbrev pub invariant-loop-field : goal.invariant-loop-field
invariant-loop-field l = l.said ≡ said_by (map field_view (take l.field-index l.fields))
