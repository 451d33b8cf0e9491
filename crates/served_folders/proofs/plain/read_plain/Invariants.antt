use Rattle.std.proofs.Common.{◌≤◌, ◌-◌, vec_len}
use Rattle.std.specs.Io.KnownBytes.{Consumes}
use Rattle.served_folders.proofs.plain.read_plain.Given as goal

-- these bytes of the file are read
abbrev pub invariant-loop-bytes : goal.invariant-loop-bytes
invariant-loop-bytes g l = (vec_len l.bytes ≤ 1073741825) × Consumes (g.R.File.Read.remaining l.initial.file) (g.R.File.Read.remaining l.file) l.bytes.items

abbrev pub decreases-loop-bytes : goal.decreases-loop-bytes
decreases-loop-bytes g l = 1073741826 - vec_len l.bytes
