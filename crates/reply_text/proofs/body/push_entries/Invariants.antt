use Rattle.std.proofs.Common.{◌≡◌, ◌++◌, map, take}
use Rattle.std.specs.List.{join_with_byte}
use Rattle.reply_text.specs.Body.{entry_text}
use Rattle.reply_text.proofs.body.push_entries.Given as goal

abbrev pub invariant-loop-place : goal.invariant-loop-place
invariant-loop-place l = l.out.items ≡ l.initial.out.items ++ join_with_byte 44 (map (λ table. entry_text table.schema.name) (take l.place l.tables))
