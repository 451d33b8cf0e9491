use Rattle.std.proofs.Common.{ap, arith, take, ◌∙◌}
use Rattle.row_selection.specs.Marks.{marked_numbers}
use Rattle.row_selection.proofs.MarkLemmas.{every_selected, none_selected, selected_within, take_least}
use Rattle.row_selection.proofs.selection.Selection.of_marks.Goals as goal

pub returns-then-count-marks : goal.returns-then-count-marks
returns-then-count-marks c =
    let made = c.all.ensures ∙ every_selected c.args.marks.now c.args.count c.args.most c.min-len.result c.requires.count c.min-len.ensures (omega (arith, c.if-count-marks.true)) in
    record { rows = made; within = selected_within c.args.marks.now c.args.most _ made }

pub returns-then-len-eq0 : goal.returns-then-len-eq0
returns-then-len-eq0 c =
    let made = c.all-then-len-eq0.ensures ∙ none_selected c.args.marks.now c.args.count c.args.most c.min-len.result c.requires.count c.min-len.ensures c.if-len-eq0.true in
    record { rows = made; within = selected_within c.args.marks.now c.args.most _ made }

pub returns : goal.returns
returns c =
    let made = c.few.ensures ∙ c.truncate.ensures.items ∙ ap (take c.min-len.result) c.in_ok-rows.ensures
    ∙ take_least (marked_numbers 0 c.args.marks.now) c.args.count c.args.most c.min-len.result c.requires.count c.min-len.ensures in
    record { rows = made; within = selected_within c.args.marks.now c.args.most _ made }
