use Rattle.quote_parity.proofs.WordLemmas.{window_start, window_doubled, window_whole}
use Rattle.quote_parity.proofs.words.prefix_xor.Goals as goal

pub returns : goal.returns
returns c i h =
    window_whole c.args.word _ i
    (window_doubled _ 32 _ _
    (window_doubled _ 16 _ _
    (window_doubled _ 8 _ _
    (window_doubled _ 4 _ _
    (window_doubled _ 2 _ _
    (window_doubled _ 1 _ _ (window_start c.args.word) c.with_shifted-two.ensures)
    c.with_shifted-four.ensures) c.with_shifted-eight.ensures) c.with_shifted-sixteen.ensures) c.with_shifted-half.ensures) c.with_shifted.ensures) h
