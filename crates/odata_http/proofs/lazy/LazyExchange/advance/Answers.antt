use Rattle.odata_http.proofs.LazyLemmas.{may_work_lazily}
use Rattle.odata_http.proofs.lazy.LazyExchange.advance.Goals as goal

pub go_on-requires : goal.go_on-requires
go_on-requires c = may_work_lazily _ _ c.requires
