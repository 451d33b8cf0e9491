use Rattle.odata_parse.specs.Depth.{IsTooDeep}
use Rattle.odata_parse.specs.Options.{IsOrder}
use Rattle.odata_parse.specs.Tree.{order_by_view}
use Rattle.odata_request.specs.Reading.{ReadsText}
use Rattle.odata_request.proofs.ReadingLemmas.{read_tree, unread_tree}
use Rattle.odata_request.proofs.StepLemmas.{passed_on}
use Rattle.odata_request.proofs.reading.read_order.Goals as goal

pub returns-in_err-parse_orderby : goal.returns-in_err-parse_orderby
returns-in_err-parse_orderby c =
    passed_on order_by_view (ReadsText IsTooDeep IsOrder c.args.text.now) c.from_residual-in_err-parse_orderby.result _ c.from_residual-in_err-parse_orderby.ensures.1
    (unread_tree order_by_view IsTooDeep IsOrder c.args.text.now c.in_ok-tokens.tokens.items c.in_err-parse_orderby.field-0.0 c.in_ok-tokens.ensures.tokens
    (rw c.as_slice.ensures.value at c.in_err-parse_orderby.ensures))

pub returns : goal.returns
returns c =
    read_tree order_by_view IsTooDeep IsOrder c.args.text.now c.in_ok-tokens.tokens.items c.in_ok-parse_orderby.field-0 c.in_ok-tokens.ensures.tokens
    (rw c.as_slice.ensures.value at c.in_ok-parse_orderby.ensures)
