use Rattle.std.proofs.Common.{Some, Ok, sym, ap, ◌∙◌}
use Rattle.table_store.proofs.CatalogLemmas.{HaveTables-schemas}
use Rattle.table_store.proofs.laws.schemas_of_tables.Goals as goal

pub returns : goal.returns
returns c folder catalog means =
    means.read ∙ ap (λ schemas. Some (Ok schemas)) (sym (HaveTables-schemas folder.limits.file folder.files means.schemas catalog.tables means.tables))
