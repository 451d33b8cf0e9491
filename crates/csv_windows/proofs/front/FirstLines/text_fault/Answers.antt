use Rattle.std.proofs.Common.{◌≡◌, ◌++◌, IfSome, length, sym, ap, subst, ◌∙◌}
use Rattle.csv_grammar.specs.Files.{IsFileFault}
use Rattle.csv_index.specs.Fault.{text_cause}
use Rattle.csv_windows.specs.Windows.{line_width, moved_cause, IsPastLine}
use Rattle.csv_windows.proofs.FaultLemmas.{lasting_is, moved_text, text_stays}
use Rattle.csv_windows.proofs.front.FirstLines.text_fault.Goals as goal

pub moved-requires-clause-past : goal.moved-requires-clause-past
moved-requires-clause-past c =
    let r = c.requires.follows in
    let m = moved_text c.in_windows.ensures r.0 r.1 c.args.self c.args.fault r.3 (sym c.malformed.ensures ∙ c.in-None.is) c.requires.text in
    subst (λ n. IsPastLine n (text_cause c.args.fault)) (sym c.line_width.ensures) m.past

pub returns-in-Some-clause-is : goal.returns-in-Some-clause-is
returns-in-Some-clause-is c = λ bytes piece size f.
    lasting_is (bytes ++ piece) (text_cause c.in-Some.first)
    (text_stays c.in_windows.ensures bytes piece c.args.self c.args.fault c.in-Some.first f (sym c.malformed.ensures ∙ c.in-Some.is) c.requires.text)

pub returns-in-None-clause-is : goal.returns-in-None-clause-is
returns-in-None-clause-is c = λ bytes piece size f.
    let m = moved_text c.in_windows.ensures bytes piece c.args.self c.args.fault f (sym c.malformed.ensures ∙ c.in-None.is) c.requires.text in
    subst (λ o. IfSome o (IsFileFault (bytes ++ piece)))
    (sym (c.moved.ensures ∙ (ap (λ n. moved_cause n c.args.front (text_cause c.args.fault)) c.line_width.ensures
    ∙ ap (λ n. moved_cause (line_width c.args.self) n (text_cause c.args.fault)) size)))
    m.is
