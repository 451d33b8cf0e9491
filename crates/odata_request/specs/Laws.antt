-- What holds of all heads, targets and tables.
use Rattle.std.specs.Prelude.{◌≡◌, ℕ, List, [], Option, Some}
use Rattle.cell_types.specs.Value.{CellValue}
use Rattle.table_store.specs.Catalog.{CatalogOf}
use Rattle.http_heads.specs.declared.checks.HeadFault.{HeadFault}
use Rattle.odata_request.specs.Request.{AsksFor, RequestOf, RowsRequestOf, rows}

-- a head and a target ask for one request at most
abbrev pub OneRequest : Type 0
OneRequest = (catalog : CatalogOf) (fault : Option HeadFault) (target : List ℕ) (request other : RequestOf)
    → AsksFor catalog fault target request → AsksFor catalog fault target other → request ≡ other

-- the row of a key is one of the table's own: the query has no `$apply`
abbrev pub KeysStandAlone : Type 0
KeysStandAlone = (catalog : CatalogOf) (fault : Option HeadFault) (target : List ℕ) (asked : RowsRequestOf) (key : List CellValue)
    → AsksFor catalog fault target (rows asked) → asked.query.key ≡ Some key → asked.query.apply ≡ []
