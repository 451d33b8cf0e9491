use Rattle.std.proofs.Common.{◌≡◌, ◌+◌, false, drop}
use Rattle.std.specs.Option.{option_map}
use Rattle.odata_lex.specs.First.{text_len}
use Rattle.odata_lex.proofs.first.text_len.Given as goal

abbrev pub invariant-loop-i : goal.invariant-loop-i
invariant-loop-i l = text_len false l.text ≡ option_map (λ n. l.i + n) (text_len l.closed (drop l.i l.text))
