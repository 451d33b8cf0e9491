use Rattle.std.proofs.Common.{◌∙◌, ◌∷◌, [], ◌++◌, ℕ, List, ap, map, append_assoc}
use Rattle.std.specs.Cow.{cow_slice_items}
use Rattle.csv_grammar.specs.Bytes.{line_feed}
use Rattle.csv_grammar.specs.Records.{print_record}
use Rattle.csv_records.specs.Written.{field_for, row_bytes}
use Rattle.csv_records.proofs.write.push_row.Goals as goal

pub returns : goal.returns
unfolding row_bytes
returns c =
    c.in_ok-push.ensures.items ∙ ap (λ (l : List ℕ). l ++ line_feed ∷ []) c.in_ok-push_cells.ensures
    ∙ append_assoc c.args.out.now.items (print_record (map field_for (map cow_slice_items c.args.cells.now))) (line_feed ∷ [])
