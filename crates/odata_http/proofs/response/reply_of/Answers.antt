use Rattle.std.proofs.Common.{ℕ, List}
use Rattle.odata_http.proofs.ReplyLemmas.{two_parts}
use Rattle.odata_http.proofs.response.reply_of.Goals as goal

pub returns : goal.returns
returns c =
    two_parts (λ (bytes : List ℕ). bytes) c.start.result _ _ c.args.method c.args.response.body.bytes _ _ _ _ c.start.ensures c.in_ok-lines.ensures c.size-size.ensures
    c.body_for.ensures
