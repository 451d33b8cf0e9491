use Rattle.odata_parse.specs.Depth.{IsTooDeep}
use Rattle.odata_parse.specs.Options.{IsKey}
use Rattle.odata_parse.specs.Tree.{key_view}
use Rattle.odata_request.specs.Reading.{ReadsText}
use Rattle.odata_request.proofs.ReadingLemmas.{read_tree, unread_tree}
use Rattle.odata_request.proofs.StepLemmas.{passed_on}
use Rattle.odata_request.proofs.reading.read_key.Goals as goal

pub returns-in_err-parse_key : goal.returns-in_err-parse_key
returns-in_err-parse_key c =
    passed_on key_view (ReadsText IsTooDeep IsKey c.args.text.now) c.from_residual-in_err-parse_key.result _ c.from_residual-in_err-parse_key.ensures.1
    (unread_tree key_view IsTooDeep IsKey c.args.text.now c.in_ok-tokens.tokens.items c.in_err-parse_key.field-0.0 c.in_ok-tokens.ensures.tokens
    (rw c.as_slice.ensures.value at c.in_err-parse_key.ensures))

pub returns : goal.returns
returns c =
    read_tree key_view IsTooDeep IsKey c.args.text.now c.in_ok-tokens.tokens.items c.in_ok-parse_key.field-0 c.in_ok-tokens.ensures.tokens
    (rw c.as_slice.ensures.value at c.in_ok-parse_key.ensures)
