use Rattle.odata_parse.specs.Depth.{IsTooDeep}
use Rattle.odata_parse.specs.Expression.{IsFilter}
use Rattle.odata_parse.specs.Tree.{expr_view}
use Rattle.odata_request.specs.Reading.{ReadsText}
use Rattle.odata_request.proofs.ReadingLemmas.{read_tree, unread_tree}
use Rattle.odata_request.proofs.StepLemmas.{passed_on}
use Rattle.odata_request.proofs.reading.read_filter.Goals as goal

pub returns-in_err-parse_filter : goal.returns-in_err-parse_filter
returns-in_err-parse_filter c =
    passed_on expr_view (ReadsText IsTooDeep IsFilter c.args.text.now) c.from_residual-in_err-parse_filter.result _ c.from_residual-in_err-parse_filter.ensures.1
    (unread_tree expr_view IsTooDeep IsFilter c.args.text.now c.in_ok-tokens.tokens.items c.in_err-parse_filter.field-0.0 c.in_ok-tokens.ensures.tokens
    (rw c.as_slice.ensures.value at c.in_err-parse_filter.ensures))

pub returns : goal.returns
returns c =
    read_tree expr_view IsTooDeep IsFilter c.args.text.now c.in_ok-tokens.tokens.items c.in_ok-parse_filter.field-0 c.in_ok-tokens.ensures.tokens
    (rw c.as_slice.ensures.value at c.in_ok-parse_filter.ensures)
