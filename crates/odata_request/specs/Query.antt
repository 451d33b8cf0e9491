-- The typed query that a key and options ask for (OData 4.01 Part 2, URL Conventions, sections 4.3.1 and 5.1).
use Rattle.std.specs.Prelude.{ℕ, [], false, Result, Ok}
use Rattle.csvw_meta.specs.Schema.{SchemaOf}
use Rattle.odata_parse.specs.Expression.{IsFilter}
use Rattle.odata_parse.specs.Options.{IsKey, IsOrder, IsSelection}
use Rattle.odata_query.specs.Query.{QueryOf, TypedOf, query_typing}
use Rattle.odata_errors.specs.declared.code.Code.{Code}
use Rattle.odata_request.specs.Fault.{TellsCause, type_code}
use Rattle.odata_request.specs.Options.{TextsOf}
use Rattle.odata_request.specs.Reading.{◌>>=◌, IsResult, ReadsApply, ReadsFlag, ReadsNumber, ReadsOption, ReadsOr, ReadsTree}

-- how the texts of a query read, one after another: the first code is reported
abbrev pub ReadsQuery : ℕ → TextsOf → Result QueryOf Code → Type 0
ReadsQuery limit texts = do
  key ← ReadsOption (ReadsTree IsKey) texts.key
  apply ← ReadsOr [] (ReadsApply limit) texts.apply
  filter ← ReadsOption (ReadsTree IsFilter) texts.filter
  count ← ReadsOr false ReadsFlag texts.count
  order ← ReadsOr [] (ReadsTree IsOrder) texts.order
  skip ← ReadsOr 0 ReadsNumber texts.skip
  top ← ReadsOption ReadsNumber texts.top
  select ← ReadsOption (ReadsTree IsSelection) texts.select
  IsResult (Ok (record {
    key = key;
    counting = texts.counting;
    apply = apply;
    filter = filter;
    count = count;
    order = order;
    skip = skip;
    top = top;
    select = select;
  }))

-- the query that texts ask for on a table: all of them are read before any is typed
abbrev pub AsksQuery : ℕ → SchemaOf → TextsOf → Result TypedOf Code → Type 0
AsksQuery limit schema texts = do
  query ← ReadsQuery limit texts
  TellsCause type_code (query_typing schema query)
