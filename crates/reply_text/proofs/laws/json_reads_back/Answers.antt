-- Each text is that of its tree.
use Rattle.reply_text.proofs.TreeLemmas.{body_is_read, row_is_read, value_is_read}
use Rattle.reply_text.proofs.laws.json_reads_back.Goals as goal

pub returns : goal.returns
returns c =
    let law = c.values_read_back.ensures in
    record { values = value_is_read law; rows = row_is_read law; bodies = λ rows fit counts. body_is_read law rows.names rows.rows rows.count fit counts }
