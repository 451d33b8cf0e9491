use Rattle.odata_parse.specs.Depth.{IsTooDeep}
use Rattle.odata_parse.specs.Options.{IsSelection}
use Rattle.odata_parse.specs.Tree.{selection_view}
use Rattle.odata_request.specs.Reading.{ReadsText}
use Rattle.odata_request.proofs.ReadingLemmas.{read_tree, unread_tree}
use Rattle.odata_request.proofs.StepLemmas.{passed_on}
use Rattle.odata_request.proofs.reading.read_selection.Goals as goal

pub returns-in_err-parse_select : goal.returns-in_err-parse_select
returns-in_err-parse_select c =
    passed_on selection_view (ReadsText IsTooDeep IsSelection c.args.text.now) c.from_residual-in_err-parse_select.result _ c.from_residual-in_err-parse_select.ensures.1
    (unread_tree selection_view IsTooDeep IsSelection c.args.text.now c.in_ok-tokens.tokens.items c.in_err-parse_select.field-0.0 c.in_ok-tokens.ensures.tokens
    (rw c.as_slice.ensures.value at c.in_err-parse_select.ensures))

pub returns : goal.returns
returns c =
    read_tree selection_view IsTooDeep IsSelection c.args.text.now c.in_ok-tokens.tokens.items c.in_ok-parse_select.field-0 c.in_ok-tokens.ensures.tokens
    (rw c.as_slice.ensures.value at c.in_ok-parse_select.ensures)
