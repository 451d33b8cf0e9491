use Rattle.std.proofs.Common.{option_map, refl}
use Rattle.odata_parse.specs.Tree.{apply_view, expr_view, key_view, order_by_view, selection_view}
use Rattle.odata_query.specs.Query.{query_view}
use Rattle.odata_request.specs.Options.{asked_view}
use Rattle.odata_request.specs.Query.{ReadsQuery}
use Rattle.odata_request.specs.Reading.{goes_on}
use Rattle.odata_request.proofs.StepLemmas.{go_on, passed_on, stop}
use Rattle.odata_request.proofs.query.read_query.Goals as goal

pub returns-in_err-key : goal.returns-in_err-key
returns-in_err-key c =
    let fault = c.in_err-key.field-0.0 in
    passed_on query_view (ReadsQuery c.args.limit (asked_view c.args.texts)) c.from_residual.result fault c.from_residual.ensures.1
    (stop _ _ fault c.in_err-key.ensures)

pub returns-in_err-apply : goal.returns-in_err-apply
returns-in_err-apply c =
    let fault = c.in_err-apply.field-0.0 in
    passed_on query_view (ReadsQuery c.args.limit (asked_view c.args.texts)) c.from_residual-in_err-apply.result fault c.from_residual-in_err-apply.ensures.1
    (go_on _ _ fault (option_map key_view c.in_ok-key.key) c.in_ok-key.ensures
    (stop _ _ fault c.in_err-apply.ensures))

pub returns-in_err-filter : goal.returns-in_err-filter
returns-in_err-filter c =
    let fault = c.in_err-filter.field-0.0 in
    passed_on query_view (ReadsQuery c.args.limit (asked_view c.args.texts)) c.from_residual-in_err-filter.result fault c.from_residual-in_err-filter.ensures.1
    (go_on _ _ fault (option_map key_view c.in_ok-key.key) c.in_ok-key.ensures
    (go_on _ _ fault (apply_view c.in_ok-apply.apply) c.in_ok-apply.ensures
    (stop _ _ fault c.in_err-filter.ensures)))

pub returns-in_err-count : goal.returns-in_err-count
returns-in_err-count c =
    let fault = c.in_err-count.field-0.0 in
    passed_on query_view (ReadsQuery c.args.limit (asked_view c.args.texts)) c.from_residual-in_err-count.result fault c.from_residual-in_err-count.ensures.1
    (go_on _ _ fault (option_map key_view c.in_ok-key.key) c.in_ok-key.ensures
    (go_on _ _ fault (apply_view c.in_ok-apply.apply) c.in_ok-apply.ensures
    (go_on _ _ fault (option_map expr_view c.in_ok-filter.filter) c.in_ok-filter.ensures
    (stop _ _ fault c.in_err-count.ensures))))

pub returns-in_err-order : goal.returns-in_err-order
returns-in_err-order c =
    let fault = c.in_err-order.field-0.0 in
    passed_on query_view (ReadsQuery c.args.limit (asked_view c.args.texts)) c.from_residual-in_err-order.result fault c.from_residual-in_err-order.ensures.1
    (go_on _ _ fault (option_map key_view c.in_ok-key.key) c.in_ok-key.ensures
    (go_on _ _ fault (apply_view c.in_ok-apply.apply) c.in_ok-apply.ensures
    (go_on _ _ fault (option_map expr_view c.in_ok-filter.filter) c.in_ok-filter.ensures
    (go_on _ _ fault c.in_ok-count.count c.in_ok-count.ensures
    (stop _ _ fault c.in_err-order.ensures)))))

pub returns-in_err-skip : goal.returns-in_err-skip
returns-in_err-skip c =
    let fault = c.in_err-skip.field-0.0 in
    passed_on query_view (ReadsQuery c.args.limit (asked_view c.args.texts)) c.from_residual-in_err-skip.result fault c.from_residual-in_err-skip.ensures.1
    (go_on _ _ fault (option_map key_view c.in_ok-key.key) c.in_ok-key.ensures
    (go_on _ _ fault (apply_view c.in_ok-apply.apply) c.in_ok-apply.ensures
    (go_on _ _ fault (option_map expr_view c.in_ok-filter.filter) c.in_ok-filter.ensures
    (go_on _ _ fault c.in_ok-count.count c.in_ok-count.ensures
    (go_on _ _ fault (order_by_view c.in_ok-order.order) c.in_ok-order.ensures
    (stop _ _ fault c.in_err-skip.ensures))))))

pub returns-in_err-top : goal.returns-in_err-top
returns-in_err-top c =
    let fault = c.in_err-top.field-0.0 in
    passed_on query_view (ReadsQuery c.args.limit (asked_view c.args.texts)) c.from_residual-in_err-top.result fault c.from_residual-in_err-top.ensures.1
    (go_on _ _ fault (option_map key_view c.in_ok-key.key) c.in_ok-key.ensures
    (go_on _ _ fault (apply_view c.in_ok-apply.apply) c.in_ok-apply.ensures
    (go_on _ _ fault (option_map expr_view c.in_ok-filter.filter) c.in_ok-filter.ensures
    (go_on _ _ fault c.in_ok-count.count c.in_ok-count.ensures
    (go_on _ _ fault (order_by_view c.in_ok-order.order) c.in_ok-order.ensures
    (go_on _ _ fault c.in_ok-skip.skip c.in_ok-skip.ensures
    (stop _ _ fault c.in_err-top.ensures)))))))

pub returns-in_err-select : goal.returns-in_err-select
returns-in_err-select c =
    let fault = c.in_err-select.field-0.0 in
    passed_on query_view (ReadsQuery c.args.limit (asked_view c.args.texts)) c.from_residual-in_err-select.result fault c.from_residual-in_err-select.ensures.1
    (go_on _ _ fault (option_map key_view c.in_ok-key.key) c.in_ok-key.ensures
    (go_on _ _ fault (apply_view c.in_ok-apply.apply) c.in_ok-apply.ensures
    (go_on _ _ fault (option_map expr_view c.in_ok-filter.filter) c.in_ok-filter.ensures
    (go_on _ _ fault c.in_ok-count.count c.in_ok-count.ensures
    (go_on _ _ fault (order_by_view c.in_ok-order.order) c.in_ok-order.ensures
    (go_on _ _ fault c.in_ok-skip.skip c.in_ok-skip.ensures
    (go_on _ _ fault c.in_ok-top.top c.in_ok-top.ensures
    (stop _ _ fault c.in_err-select.ensures))))))))

pub returns : goal.returns
returns c =
    goes_on (option_map key_view c.in_ok-key.key) c.in_ok-key.ensures
    (goes_on (apply_view c.in_ok-apply.apply) c.in_ok-apply.ensures
    (goes_on (option_map expr_view c.in_ok-filter.filter) c.in_ok-filter.ensures
    (goes_on c.in_ok-count.count c.in_ok-count.ensures
    (goes_on (order_by_view c.in_ok-order.order) c.in_ok-order.ensures
    (goes_on c.in_ok-skip.skip c.in_ok-skip.ensures
    (goes_on c.in_ok-top.top c.in_ok-top.ensures
    (goes_on (option_map selection_view c.in_ok-select.select) c.in_ok-select.ensures
    refl)))))))
