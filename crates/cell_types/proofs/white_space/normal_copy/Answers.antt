-- Before the first word.
use Rattle.std.proofs.Common.{length, string_bytes, ap}
use Rattle.cell_types.proofs.WordLemmas.{text_before-empty}
use Rattle.cell_types.proofs.white_space.normal_copy.Goals as goal

pub loop-word-init : goal.loop-word-init
loop-word-init c = (c.utf8.text, text_before-empty (string_bytes c.in_ok-copy.copy) (ap length c.in_ok-copy.ensures.bytes) c.args.text.now)
