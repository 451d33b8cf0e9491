use Rattle.std.specs.Io.KnownBytes.{Keeps}
use Rattle.served_folders.proofs.plain.read_once.Given as goal

-- no byte was read
abbrev pub invariant-loop-try : goal.invariant-loop-try
invariant-loop-try g l = Keeps (g.F.Read.remaining l.initial.file) (g.F.Read.remaining l.file)
