use Rattle.std.proofs.Common.{◌∙◌, ◌++◌, ℕ, List, ap, map, sym}
use Rattle.csv_grammar.specs.Records.{doubled}
use Rattle.csv_records.specs.Exchange.{exchanged}
use Rattle.csv_records.proofs.ReadLemmas.{inside_more}
use Rattle.csv_records.proofs.read.read_doubled.Goals as goal

pub loop-byte-preserved : goal.loop-byte-preserved
loop-byte-preserved c =
    let E : List ℕ → List ℕ = λ l. map (exchanged c.args.separator) l in
    inside_more c.args.separator c.in-Some.byte c.loop-byte.cell.items (E c.args.text.now) (E c.loop-byte.left.now) (E c.in-Some.rest.now) c.loop-byte.invariant c.in-Some.ensures
    ∙ ap (λ (l : List ℕ). doubled (E l) ++ E c.in-Some.rest.now) (sym c.in_ok-push_exchanged.ensures)
