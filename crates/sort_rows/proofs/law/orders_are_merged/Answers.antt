use Rattle.std.proofs.Common.{refl}
use Rattle.sort_rows.proofs.MergeLemmas.{sorted_appended}
use Rattle.sort_rows.proofs.law.orders_are_merged.Goals as goal

pub returns : goal.returns
returns c = record { merges = λ cmp order xs ys. sorted_appended cmp order xs ys; ties = refl }
