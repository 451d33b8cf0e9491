use Rattle.std.proofs.Common.{◌≡◌, ◌++◌, IsUtf8, string_bytes}
use Rattle.std.specs.Str.Iter.{chars_rest}
use Rattle.text_escapes.specs.Escapes.{escaped}
use Rattle.text_escapes.proofs.escapes.escaped.Given as goal

abbrev pub invariant-loop-character : goal.invariant-loop-character
invariant-loop-character l = IsUtf8 (chars_rest l.character-iterator) × (string_bytes l.out ++ escaped (chars_rest l.character-iterator) ≡ escaped l.fn.text)
