use Rattle.table_store.proofs.KeysOfTables.{HaveTables-keys}
use Rattle.table_store.proofs.laws.keys_of_tables.Goals as goal

pub returns : goal.returns
returns c folder catalog means =
    HaveTables-keys c.keys_find_rows.ensures folder.limits.file folder.files means.schemas catalog.tables means.tables
