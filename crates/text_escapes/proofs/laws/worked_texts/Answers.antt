use Rattle.std.proofs.Common.{refl}
use Rattle.std.specs.Str.{chars}
use Rattle.text_escapes.specs.Escapes.{escaped}
use Rattle.text_escapes.proofs.laws.worked_texts.Goals as goal

pub returns : goal.returns
unfolding escaped chars lib.Utf8.encode
returns c = record { line = refl; same = refl; red = refl; space = refl; delete = refl; last = refl }
