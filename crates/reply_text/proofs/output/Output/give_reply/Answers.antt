use Rattle.std.proofs.Common.{refl}
use Rattle.reply_text.proofs.WaitingLemmas.{give_one}
use Rattle.reply_text.proofs.output.Output.give_reply.Goals as goal

pub returns-clause-added : goal.returns-clause-added
returns-clause-added c =
    give_one c.self.inside.first c.args.reply c.args.self.now c.args.reply c.self.inside.others.items c.push_back.new.self.items
    c.self.view_is c.in_ok-push_back.ensures.items refl
