use Rattle.csv_records.proofs.FrontLemmas.{plain_front}
use Rattle.csv_records.proofs.read.read_plain.Goals as goal

pub returns : goal.returns
returns c =
    plain_front c.args.separator c.args.text.now c.split_at.result.0.now c.split_at.result.1.now c.plain_len.result c.plain_len.ensures.place c.split_at.ensures.front
    c.split_at.ensures.back
