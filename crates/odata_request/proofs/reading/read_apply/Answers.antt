use Rattle.odata_parse.specs.Depth.{IsTooDeepForApply}
use Rattle.odata_parse.specs.Apply.{IsApply}
use Rattle.odata_parse.specs.Tree.{apply_view}
use Rattle.odata_request.specs.Reading.{ReadsText}
use Rattle.odata_request.proofs.ReadingLemmas.{read_tree, unread_tree}
use Rattle.odata_request.proofs.StepLemmas.{passed_on}
use Rattle.odata_request.proofs.reading.read_apply.Goals as goal

pub returns-in_err-parse_apply : goal.returns-in_err-parse_apply
returns-in_err-parse_apply c =
    passed_on apply_view (ReadsText (IsTooDeepForApply c.args.limit) IsApply c.args.text.now) c.from_residual-in_err-parse_apply.result _ c.from_residual-in_err-parse_apply.ensures.1
    (unread_tree apply_view (IsTooDeepForApply c.args.limit) IsApply c.args.text.now c.in_ok-tokens.tokens.items c.in_err-parse_apply.field-0.0 c.in_ok-tokens.ensures.tokens
    (rw c.as_slice.ensures.value at c.in_err-parse_apply.ensures))

pub returns : goal.returns
returns c =
    read_tree apply_view (IsTooDeepForApply c.args.limit) IsApply c.args.text.now c.in_ok-tokens.tokens.items c.in_ok-parse_apply.field-0 c.in_ok-tokens.ensures.tokens
    (rw c.as_slice.ensures.value at c.in_ok-parse_apply.ensures)
