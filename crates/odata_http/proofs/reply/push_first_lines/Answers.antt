use Rattle.odata_http.proofs.ReplyLemmas.{three_written}
use Rattle.odata_http.proofs.reply.push_first_lines.Goals as goal

pub returns : goal.returns
returns c =
    three_written c.push_field-2.result _ _ _ _ _ _ _ c.in_ok-push_status_line.ensures (rw c.name.ensures at c.in_ok-push_field.ensures) c.push_field-2.ensures
