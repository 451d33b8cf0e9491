use Rattle.odata_http.specs.Work.{response_view}
use Rattle.odata_http.proofs.WorkLemmas.{works_find, works_list, works_over, works_refuse}
use Rattle.odata_http.proofs.work.Work.go_on.Goals as goal

pub returns-in_ok-reply_of-in-Refuse-clause-works : goal.returns-in_ok-reply_of-in-Refuse-clause-works
returns-in_ok-reply_of-in-Refuse-clause-works c = λ request left.
    works_refuse c.args.catalog.now c.args.method c.args.closes request left c.args.self c.in-Refuse.code (response_view c.in_ok-response-in-Refuse.response)
    c.in_ok-reply_of-in-Refuse.field-0 c.in-Refuse.is c.in_ok-response-in-Refuse.ensures.response c.in_ok-reply_of-in-Refuse.ensures

pub returns-in_ok-reply_of-in-ListTables-clause-works : goal.returns-in_ok-reply_of-in-ListTables-clause-works
returns-in_ok-reply_of-in-ListTables-clause-works c = λ request left.
    works_list c.args.catalog.now c.args.method c.args.closes request left c.args.self (response_view c.in_ok-response-in-ListTables.response)
    c.in_ok-reply_of-in-ListTables.field-0 c.in-ListTables.is c.in_ok-response-in-ListTables.ensures.response c.in_ok-reply_of-in-ListTables.ensures

pub returns-in_ok-reply_of-in-Find-clause-works : goal.returns-in_ok-reply_of-in-Find-clause-works
returns-in_ok-reply_of-in-Find-clause-works c = λ request left.
    works_find c.args.catalog.now c.args.method c.args.closes request left c.args.self c.in-Find.key_lookup (response_view c.in_ok-response-in-Find.response)
    c.in_ok-reply_of-in-Find.field-0 c.in-Find.is c.in_ok-response-in-Find.ensures.responds c.in_ok-reply_of-in-Find.ensures

pub returns-in_ok-reply_of-in-Over-clause-works : goal.returns-in_ok-reply_of-in-Over-clause-works
returns-in_ok-reply_of-in-Over-clause-works c = λ request left.
    works_over c.args.catalog.now c.args.method c.args.closes request left c.args.self c.in-Read.query_run c.in_ok-query_run-in-Read.field-0 c.in-Over.response
    c.in_ok-reply_of-in-Over.field-0 c.in-Read.is c.in-Over.is c.in_ok-query_run-in-Read.ensures.reads c.in_ok-reply_of-in-Over.ensures
