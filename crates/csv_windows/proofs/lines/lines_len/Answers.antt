use Rattle.std.proofs.Common.{◌≡◌, ◌-◌, ◌<◌, get_or, ne_eqb, sym, subst}
use Rattle.csv_grammar.specs.Bytes.{double_quote}
use Rattle.csv_windows.specs.Breaks.{IsBreak}
use Rattle.csv_windows.proofs.LineLemmas.{counts_no, counts_yes, no_break, CountsTo}
use Rattle.csv_windows.proofs.lines.lines_len.Goals.{then-last-eq34, else-last-eq34, else-last-eq10-via-then-last-eq10+else-quotes-eq0, else-last-eq10-via-else-last-eq10}
use Rattle.csv_windows.proofs.lines.lines_len.Goals as goal

pub loop-end-preserved : goal.loop-end-preserved
loop-end-preserved c =
    let bytes = c.args.bytes.now in
    let end = c.loop-end.end in
    let quotes = c.loop-end.quotes in
    let to = c.loop-end.invariant in
    let none : ¬ (IsBreak bytes end) =
    elim c.else-last-eq10.branch [
      | else-last-eq10-via-then-last-eq10+else-quotes-eq0 w ↦ no_break bytes end quotes to (λ b. w.if-quotes-eq0.false b.1)
      | else-last-eq10-via-else-last-eq10 w ↦ no_break bytes end quotes to (λ b. w.if-last-eq10.false b.0)
    ] in
    elim c.if-last-eq34.branch [
      | then-last-eq34 w ↦ subst (CountsTo bytes (end - 1)) (sym w.quotes-is) (counts_yes bytes end quotes to c.loop-end-test.true w.if-last-eq34.true).1
      | else-last-eq34 w ↦
          subst (CountsTo bytes (end - 1)) (sym w.quotes-is)
          (counts_no bytes end quotes to c.loop-end-test.true (ne_eqb (get_or bytes (end - 1) 0) double_quote w.if-last-eq34.false) none)
    ]
