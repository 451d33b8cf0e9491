use Rattle.query_exec.proofs.TopNLemmas.{top_n_finishes}
use Rattle.query_exec.proofs.top_n.TopNSink.finish.Goals as goal

pub with_rows-requires : goal.with_rows-requires
with_rows-requires c = rw (c.into_rows-rows.ensures, c.as_slice.ensures.value) c.in_ok-numbers.ensures.within

pub returns : goal.returns
returns c =
    top_n_finishes c.args.self c.in_ok-numbers.numbers.items _ c.in_ok-numbers.ensures (rw (c.into_rows-rows.ensures, c.as_slice.ensures.value) at c.in_ok-with_rows.ensures)
