-- What the calls that make a request give is what is asked for.
use Rattle.std.proofs.Common.{◌≡◌, ◌<◌, ℕ, List, length, get_or, Option, Some, None, Result, Ok, Err, option_map, refl, sym, ap, ◌∙◌, subst, inl, inr, ◌⊎◌}
use Rattle.std.specs.Prelude.{slice_get}
use Rattle.std.specs.Option.{ok_or}
use Rattle.std.proofs.lemmas.Option.{slice_get-get_or}
use Rattle.csvw_meta.specs.Schema.{SchemaOf}
use Rattle.table_store.specs.Catalog.{CatalogOf}
use Rattle.table_store.specs.Table.{TableOf}
use Rattle.odata_url.specs.declared.fault.UrlFault.{UrlFault}
use Rattle.odata_url.specs.declared.fault.UrlFault.TheVariants as url
use Rattle.odata_url.specs.Target.{QueryOption, TargetOf, target_of}
use Rattle.odata_parse.specs.declared.format.Format.{Format}
use Rattle.odata_query.specs.Query.{TypedOf}
use Rattle.odata_errors.specs.declared.code.Code.{Code}
use Rattle.odata_errors.specs.declared.code.Code.TheVariants.{NotAcceptable}
use Rattle.http_heads.specs.declared.checks.HeadFault.{HeadFault}
use Rattle.odata_request.specs.declared.fault.RequestFault.{RequestFault}
use Rattle.odata_request.specs.declared.fault.RequestFault.TheVariants.{Refused}
use Rattle.odata_request.specs.declared.request.Request.{Request}
use Rattle.odata_request.specs.Fault.{Refuses, Yields, fault_of, head_code, url_code}
use Rattle.odata_request.specs.Options.{TextsOf, asked_format, options_fault}
use Rattle.odata_request.specs.Query.{AsksQuery}
use Rattle.odata_request.specs.Reading.{goes_on, passes_unless}
use Rattle.odata_request.specs.Request.{Asks, AsksOf, AsksPath, AsksRows, request_view, rows}
use Rattle.odata_request.specs.Resource.{ResourceOf, path_resource}
use Rattle.odata_request.proofs.StepLemmas.{go_on, stop, there_as, told_as, told_under}

-- the table of a number that is one of these
pub table_at : (tables seen : List TableOf) (number : ℕ) (table : TableOf) → seen ≡ tables → number < length tables → table ≡ get_or seen number table
    → slice_get tables number ≡ Some table
table_at tables seen number table same less at =
    let here : table ≡ get_or tables number table = rw same at at in
    slice_get-get_or tables number table less ∙ ap Some (sym here)

module _ (catalog : CatalogOf) (number : ℕ) (texts : TextsOf) (format : Format) (table : TableOf) (schema : SchemaOf) (limit : ℕ)
    (at : slice_get catalog.tables number ≡ Some table) (of : schema ≡ table.schema) (most : limit ≡ catalog.limits.transformations) where
  on_table : (R : ℕ → SchemaOf → Type 0) → R limit schema → R catalog.limits.transformations table.schema
  on_table R h = subst (λ l. R l table.schema) most (subst (λ s. R limit s) of h)

  -- a query on the columns of a table is one on its rows
  pub asks_rows : (query : TypedOf) → AsksQuery limit schema texts (Ok query)
      → AsksRows catalog number texts format (Ok (rows (record { table = number; query = query; format = format })))
  asks_rows query asks =
      goes_on table (there_as (slice_get catalog.tables number) table at) (goes_on query (on_table (λ l s. AsksQuery l s texts (Ok query)) asks) refl)

  pub refused_rows : (why : RequestFault) → Refuses (AsksQuery limit schema texts) why → Refuses (AsksRows catalog number texts format) why
  refused_rows why h =
      go_on _ _ why table (there_as (slice_get catalog.tables number) table at) (stop _ _ why (on_table (λ l s. Refuses (AsksQuery l s texts) why) h))

-- what the path leads to, where the options fit and the format is served
module _ (catalog : CatalogOf) (segments : List (List ℕ)) (options : List QueryOption) (resource : ResourceOf) (leads : Ok resource ≡ path_resource catalog.tables segments) where
  module _ (fits : Ok tt ≡ passes_unless (options_fault resource options)) where
    pub refused_format : (code : Code) → Err code ≡ ok_or (asked_format options) NotAcceptable → Refuses (AsksPath catalog segments options) (Refused code)
    refused_format code format = go_on _ _ (Refused code) resource leads (go_on _ _ (Refused code) tt fits (stop _ _ (Refused code) format))

    pub asks_path : (format : Format) → Ok format ≡ ok_or (asked_format options) NotAcceptable → (result : Result Request RequestFault)
        → Yields request_view (AsksOf catalog resource options format) result → Yields request_view (AsksPath catalog segments options) result
    asks_path format served (Ok request) h = goes_on resource leads (goes_on tt fits (goes_on format served h))
    asks_path format served (Err why) h = go_on _ _ why resource leads (go_on _ _ why tt fits (go_on _ _ why format served h))

-- a fault of the head, of the target, and what the target asks for
module _ (catalog : CatalogOf) (fault : Option HeadFault) (target : List ℕ) where
  pub refused_head : (of : HeadFault) → fault ≡ Some of → Refuses (Asks catalog fault target) (Refused (head_code of))
  refused_head of is = stop _ _ (Refused (head_code of)) (ap (λ f. passes_unless (option_map head_code f)) (sym is))

  module _ (none : fault ≡ None) where
    no_head : Ok tt ≡ passes_unless (option_map head_code fault)
    no_head = ap (λ f. passes_unless (option_map head_code f)) (sym none)

    pub refused_target : (of : UrlFault) → (of ≡ url.NoMemory) ⊎ (target_of target ≡ Err of) → Refuses (Asks catalog fault target) (fault_of (url_code of))
    refused_target of (inl is) = subst (λ (u : UrlFault). Refuses (Asks catalog fault target) (fault_of (url_code u))) (sym is) tt
    refused_target of (inr is) =
        go_on _ _ (fault_of (url_code of)) tt no_head (stop _ _ (fault_of (url_code of)) (told_under url_code (target_of target) of is))

    pub asks_target : (read : TargetOf) → target_of target ≡ Ok read → (result : Result Request RequestFault)
        → Yields request_view (AsksPath catalog read.segments read.options) result → Yields request_view (Asks catalog fault target) result
    asks_target read is (Ok request) h = goes_on tt no_head (goes_on read (told_as url_code (target_of target) read is) h)
    asks_target read is (Err why) h = go_on _ _ why tt no_head (go_on _ _ why read (told_as url_code (target_of target) read is) h)
