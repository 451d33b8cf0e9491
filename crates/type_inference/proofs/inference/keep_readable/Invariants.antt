use Rattle.std.proofs.Common.{◌-◌, length}
use Rattle.type_inference.proofs.inference.keep_readable.Given as goal

abbrev pub decreases-loop-next : goal.decreases-loop-next
decreases-loop-next l = length l.left.items - l.next
