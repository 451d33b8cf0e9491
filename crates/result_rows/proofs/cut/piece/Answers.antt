use Rattle.std.proofs.Common.{◌≡◌, ◌∙◌, ap, drop, length, min, rules, take}
use Rattle.std.proofs.lemmas.List.{take_min}
use Rattle.result_rows.proofs.PieceLemmas.{without_first}
use Rattle.result_rows.proofs.cut.piece.Goals as goal

pub returns : goal.returns
returns c =
    let behind : c.truncate.new.self.items ≡ drop c.args.skip c.args.numbers.items =
    without_first c.args.numbers.items c.rotate_left.new.self.items c.truncate.new.self.items c.args.skip c.min-skipped.result (search rules) (search rules) (search rules) in
    let first : c.truncate-2.new.self.items ≡ take (min c.args.top (length c.truncate.new.self.items)) c.truncate.new.self.items = search rules in
    first ∙ take_min c.args.top c.truncate.new.self.items ∙ ap (take c.args.top) behind
