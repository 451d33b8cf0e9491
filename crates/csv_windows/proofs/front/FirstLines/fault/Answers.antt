use Rattle.std.proofs.Common.{◌≡◌, ◌++◌, IfSome, Some, length, sym, ap, subst, ◌∙◌}
use Rattle.csv_grammar.specs.Files.{not_utf8, IsFileFault}
use Rattle.csv_index.specs.Fault.{text_cause}
use Rattle.csv_windows.specs.Windows.{line_width, moved_cause, FollowsFault, IsPastLine}
use Rattle.csv_windows.proofs.FaultLemmas.{moved_bytes}
use Rattle.csv_windows.proofs.front.FirstLines.fault.Goals as goal

pub moved-requires-clause-past : goal.moved-requires-clause-past
moved-requires-clause-past c =
    let r = c.requires in
    let at = c.in-NotUtf8.at in
    let f = subst (FollowsFault r.0 r.1 c.args.self) c.in-NotUtf8.is r.3 in
    let m = moved_bytes c.in_windows.ensures r.0 r.1 c.args.self at f in
    subst (λ x. IsPastLine c.line_width.result (text_cause x)) (sym c.in-NotUtf8.is) (subst (λ n. IsPastLine n (Some (not_utf8 at))) (sym c.line_width.ensures) m.past)

pub returns-in-NotUtf8-clause-is : goal.returns-in-NotUtf8-clause-is
returns-in-NotUtf8-clause-is c = λ bytes piece size follows.
    let at = c.in-NotUtf8.at in
    let f = subst (FollowsFault bytes piece c.args.self) c.in-NotUtf8.is follows in
    let m = moved_bytes c.in_windows.ensures bytes piece c.args.self at f in
    subst (λ o. IfSome o (IsFileFault (bytes ++ piece)))
    (sym (c.moved.ensures ∙ (ap (λ x. moved_cause c.line_width.result c.args.front (text_cause x)) c.in-NotUtf8.is
    ∙ (ap (λ n. moved_cause n c.args.front (Some (not_utf8 at))) c.line_width.ensures ∙ ap (λ n. moved_cause (line_width c.args.self) n (Some (not_utf8 at))) size))))
    m.is

pub returns-in-Width-clause-is : goal.returns-in-Width-clause-is
returns-in-Width-clause-is c = λ bytes piece size f.
    c.uneven.ensures.is bytes piece (subst (FollowsFault bytes piece c.args.self) c.in-Width.is f)

pub returns-in-Width-clause-lasts : goal.returns-in-Width-clause-lasts
returns-in-Width-clause-lasts c = λ bytes piece size f may.
    c.uneven.ensures.lasts bytes piece (subst (FollowsFault bytes piece c.args.self) c.in-Width.is f)
