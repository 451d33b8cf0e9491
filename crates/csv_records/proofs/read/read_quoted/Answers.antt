use Rattle.csv_records.proofs.FrontLemmas.{quoted_front}
use Rattle.csv_records.proofs.read.read_quoted.Goals as goal

pub returns : goal.returns
returns c =
    quoted_front c.args.separator c.args.text.now c.split_at.result.0.now c.split_at.result.1.now c.in-Some.rest.now c.quote_len.result c.in-Some._quote
    c.quote_len.ensures.place c.split_at.ensures.front c.split_at.ensures.back c.in-Some.ensures
