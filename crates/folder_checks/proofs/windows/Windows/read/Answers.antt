use Rattle.std.proofs.Common.{◌++◌, take, inr, refl, sym, ap, subst, ◌∙◌}
use Rattle.std.specs.Prelude.{IfSome}
use Rattle.csv_grammar.specs.Files.{IsFileFault}
use Rattle.csv_index.specs.Fault.{text_cause}
use Rattle.csv_windows.specs.Windows.{IsBeforeWindow, ReadsPiece}
use Rattle.csv_windows.specs.declared.window.Piece.TheVariants as pieces
use Rattle.folder_checks.proofs.WindowLemmas.{before, lines_read}
use Rattle.folder_checks.proofs.windows.Windows.read.Goals as goal

pub returns-in-Ok-Rows-clause-reads : goal.returns-in-Ok-Rows-clause-reads
returns-in-Ok-Rows-clause-reads c given front fed =
    let old = c.args.self in
    let reads = rw c.in-Ok-Rows.field-0-is at c.in-Ok-Rows.ensures.reads in
    let at = subst (λ w. IsBeforeWindow front w old.front) (sym c.as_slice.ensures.value) (before given front old fed) in
    let is = pieces.Rows c.in-Ok-Rows.new c.in-Ok-Rows.file in
    let piece : ReadsPiece front old.window.items old.front.lines is = subst (λ w. ReadsPiece front w old.front.lines is) c.as_slice.ensures.value (reads front at) in
    (refl, front ++ take piece.0.taken old.window.items, lines_read given front old _ fed piece.0 c.without_front.ensures, piece.1)

pub returns-in-Ok-Fault-clause-reads : goal.returns-in-Ok-Fault-clause-reads
returns-in-Ok-Fault-clause-reads c given front fed =
    let old = c.args.self in
    let reads = rw c.in-Ok-Fault.field-0-is at c.in-Ok-Fault.ensures.reads in
    let at = subst (λ w. IsBeforeWindow front w old.front) (sym c.as_slice.ensures.value) (before given front old fed) in
    let is = pieces.Fault c.in-Ok-Fault.new in
    let piece : ReadsPiece front old.window.items old.front.lines is = subst (λ w. ReadsPiece front w old.front.lines is) c.as_slice.ensures.value (reads front at) in
    inr (front ++ take piece.0.taken old.window.items, lines_read given front old _ fed piece.0 c.without_front-in-Ok-Fault.ensures, piece.1)

pub returns-in-Err-clause-fault : goal.returns-in-Err-clause-fault
returns-in-Err-clause-fault c given more has =
    let old = c.args.self in
    let at = subst (λ w. IsBeforeWindow has.0 w old.front) (sym c.as_slice.ensures.value) (before given has.0 old has.1) in
    subst (λ g. IfSome (text_cause c.in-Err.fault) (IsFileFault (g ++ more))) (sym (has.1.is ∙ ap (λ w. has.0 ++ w) (sym c.as_slice.ensures.value)))
    (c.in-Err.ensures.fault has.0 more at)
