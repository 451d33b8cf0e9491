use Rattle.std.proofs.Common.{◌≡◌, ◌++◌, [], length, sym, ap, ◌∙◌, arith, rules, append-nil, length-append}
use Rattle.reply_text.proofs.reply.Reply.into_bytes.Goals as goal

pub returns : goal.returns
returns c =
    let laid = c.fill.new.laid.items in
    let left = c.fill.new.body.bytes in
    let whole : laid ++ left ≡ c.args.self = search rules in
    let none : left ≡ [] =
    c.fill.ensures.all (omega (
      arith,
      ap length c.fill.ensures.bytes,
      length-append laid left,
      length-append c.reserve.new.self.items c.self.inside.body.bytes,
      c.size.ensures,
      c.longest.ensures,
      c.saturating_add.ensures,
      c.in_ok-reserve.ensures.ok,
      c.reserve.new.self.small,
      c.reserve.new.self.ok.0,
      c.fill.new.laid.ok.0,
    )) in
    sym (append-nil laid) ∙ ap (λ rest. laid ++ rest) (sym none) ∙ whole
