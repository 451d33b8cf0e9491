use Rattle.odata_http.proofs.LazyLemmas.{lays_last, lays_none, may_work}
use Rattle.odata_http.proofs.exchange.Exchange.advance.Goals as goal

pub go_on-requires : goal.go_on-requires
go_on-requires c = may_work _ _ c.requires

pub returns-in-More-clause-goes_on : goal.returns-in-More-clause-goes_on
returns-in-More-clause-goes_on c = λ head left a.
    lays_none c.args.catalog.now head left c.go_on.new.self c.in_ok-go_on.field-0 c.in-More.is (c.in_ok-go_on.ensures.goes_on head left a)

pub returns-in_ok-lay_down-in-Done-clause-goes_on : goal.returns-in_ok-lay_down-in-Done-clause-goes_on
returns-in_ok-lay_down-in-Done-clause-goes_on c = λ head left a.
    lays_last c.args.catalog.now head left c.go_on.new.self c.lay_down.new.self c.in_ok-go_on.field-0 c.in-Done.is (c.in_ok-go_on.ensures.goes_on head left a)
    c.in_ok-lay_down-in-Done.ensures.waiting
