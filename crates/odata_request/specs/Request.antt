-- What a request asks for (RFC 9110, section 9; OData 4.01 Part 2, URL Conventions, sections 4 and 5).
use Rattle.std.specs.Prelude.{◌≡◌, ℕ, true, false, List, Option, None, Some, Result, Ok, Err, option_map, slice_get, ⊤}
use Rattle.std.specs.Option.{ok_or}
use Rattle.table_store.specs.Catalog.{CatalogOf}
use Rattle.table_store.specs.Table.{TableOf}
use Rattle.odata_url.specs.Target.{QueryOption, target_of}
use Rattle.odata_parse.specs.declared.format.Format.{Format}
use Rattle.odata_parse.specs.declared.format.Format.TheVariants.{Json, Csv}
use Rattle.odata_query.specs.Query.{TypedOf, query_typed_view}
use Rattle.query_meaning.specs.Fitting.{IsTypedFor}
use Rattle.odata_errors.specs.declared.code.Code.{Code}
use Rattle.odata_errors.specs.declared.code.Code.TheVariants.{NotAcceptable}
use Rattle.http_heads.specs.declared.checks.HeadFault.{HeadFault}
use Rattle.odata_request.specs.declared.request.Request.{Request}
use Rattle.odata_request.specs.declared.request.Request.TheVariants.{Refused, Service, Rows}
use Rattle.odata_request.specs.declared.request.RowsRequest.{RowsRequest}
use Rattle.odata_request.specs.Fault.{TellsCause, head_code, url_code}
use Rattle.odata_request.specs.Reading.{◌>>=◌, IsResult, IsThere, passes_unless}
use Rattle.odata_request.specs.Resource as resource
use Rattle.odata_request.specs.Resource.{ResourceOf, path_resource}
use Rattle.odata_request.specs.Options.{TextsOf, asked_format, options_fault, texts_of}
use Rattle.odata_request.specs.Query.{AsksQuery}

-- a query on the table of a number, counted from 0, and the format of its answer
pub record RowsRequestOf : Type 0 where
  pub table : ℕ
  pub query : TypedOf
  pub format : Format

abbrev pub rows_request_view : RowsRequest → RowsRequestOf
rows_request_view asked = record { table = asked.table; query = query_typed_view asked.query; format = asked.format }

pub data RequestOf : Type 0 where
  refused : Code → RequestOf
  service : RequestOf
  rows : RowsRequestOf → RequestOf

abbrev pub request_view : Request → RequestOf
request_view (Refused code) = refused code
request_view Service = service
request_view (Rows asked) = rows (rows_request_view asked)

-- a query on the rows of the table of a number, by its texts
abbrev pub AsksRows : CatalogOf → ℕ → TextsOf → Format → Result RequestOf Code → Type 0
AsksRows catalog number texts format = do
  table ← IsThere (slice_get catalog.tables number)
  query ← AsksQuery catalog.limits.transformations table.schema texts
  IsResult (Ok (rows (record { table = number; query = query; format = format })))

-- what options ask of a resource in a format: the service document is in JSON alone
abbrev pub AsksOf : CatalogOf → ResourceOf → List QueryOption → Format → Result RequestOf Code → Type 0
AsksOf catalog resource.service options Json = IsResult (Ok service)
AsksOf catalog resource.service options Csv = IsResult (Err NotAcceptable)
AsksOf catalog (resource.rows number) options format = AsksRows catalog number (texts_of None false options) format
AsksOf catalog (resource.count number) options format = AsksRows catalog number (texts_of None true options) format
AsksOf catalog (resource.key number text) options format = AsksRows catalog number (texts_of (Some text) false options) format

-- what a path and options ask for: each option must fit what the path leads to, in the query's order, before their values are read, by their names,
-- that of the format first
abbrev pub AsksPath : CatalogOf → List (List ℕ) → List QueryOption → Result RequestOf Code → Type 0
AsksPath catalog segments options = do
  resource ← IsResult (path_resource catalog.tables segments)
  fitting ← IsResult (passes_unless (options_fault resource options))
  format ← IsResult (ok_or (asked_format options) NotAcceptable)
  AsksOf catalog resource options format

-- what a head with that fault or none, and that target, ask for: the head comes before its target
abbrev pub Asks : CatalogOf → Option HeadFault → List ℕ → Result RequestOf Code → Type 0
Asks catalog fault target = do
  head ← IsResult (passes_unless (option_map head_code fault))
  read ← TellsCause url_code (target_of target)
  AsksPath catalog read.segments read.options

abbrev pub request_in : Result RequestOf Code → RequestOf
request_in (Ok request) = request
request_in (Err code) = refused code

-- so a request, which is refused under the first code
pub record AsksFor (catalog : CatalogOf) (fault : Option HeadFault) (target : List ℕ) (request : RequestOf) : Type 0 where
  pub outcome : Result RequestOf Code
  pub asks : Asks catalog fault target outcome
  pub request_is : request ≡ request_in outcome

-- the table is one of these, and the query is one on its columns
pub record IsRowsInside (catalog : CatalogOf) (asked : RowsRequestOf) : Type 0 where
  pub table : TableOf
  pub table_is : slice_get catalog.tables asked.table ≡ Some table
  pub typed : IsTypedFor table.schema asked.query

abbrev pub IsInside : CatalogOf → RequestOf → Type 0
IsInside catalog (rows asked) = IsRowsInside catalog asked
IsInside catalog request = ⊤
