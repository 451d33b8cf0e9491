use Rattle.std.proofs.Common.{◌+◌, ◌++◌, ◌^◌, ◌∙◌, List, ℕ, ap, arith, map}
use Rattle.row_columns.proofs.NumberLemmas.{below_from, from-start}
use Rattle.row_columns.proofs.row_numbers.RowNumbers.first.Goals as goal

pub append-requires : goal.append-requires
append-requires c = below_from 0 c.args.count (2 ^ 32) c.all.result c.all.ensures (omega (arith, c.if-count-gt-NUMBERS.false))

pub returns : goal.returns
returns c =
    c.in_ok-append.ensures ∙ ap (λ (ns : List ℕ). ns ++ map (λ row. 0 + row) c.all.result) c.none-made.ensures ∙ ap (map (λ row. 0 + row)) c.all.ensures ∙ from-start 0 c.args.count
