use Rattle.std.proofs.Common.{◌≡◌, map, take}
use Rattle.std.specs.Prelude.{string_bytes}
use Rattle.cli_args.specs.Words.{texts}
use Rattle.cli_args.proofs.words.line_of.Given as goal

-- the words so far are in the line
abbrev pub invariant-loop-word : goal.invariant-loop-word
invariant-loop-word l = texts l.line.items ≡ map string_bytes (take l.word-index l.words)
