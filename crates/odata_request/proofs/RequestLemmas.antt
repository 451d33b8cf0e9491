-- A head and a target ask for one request at most.
use Rattle.std.proofs.Common.{◌≡◌, ℕ, true, false, List, Option, Some, None, ap, sym, ◌∙◌}
use Rattle.std.specs.Prelude.{slice_get}
use Rattle.table_store.specs.Catalog.{CatalogOf}
use Rattle.odata_url.specs.Target.{QueryOption, target_of}
use Rattle.odata_parse.specs.declared.format.Format.{Format}
use Rattle.odata_parse.specs.declared.format.Format.TheVariants.{Json, Csv}
use Rattle.http_heads.specs.declared.checks.HeadFault.{HeadFault}
use Rattle.odata_request.specs.Fault.{url_code}
use Rattle.odata_request.specs.Resource as resource
use Rattle.odata_request.specs.Resource.{ResourceOf}
use Rattle.odata_request.specs.Options.{TextsOf, texts_of}
use Rattle.odata_request.specs.Request.{Asks, AsksFor, AsksOf, AsksPath, AsksRows, RequestOf, request_in}
use Rattle.odata_request.proofs.StepLemmas.{HasOne, is_one, steps_one, there_one, told_one}
use Rattle.odata_request.proofs.UniqueLemmas.{Grammars, query_one}

rows_one : Grammars → (catalog : CatalogOf) (number : ℕ) (texts : TextsOf) (format : Format) → HasOne (AsksRows catalog number texts format)
rows_one laws catalog number texts format =
    steps_one _ _ (there_one (slice_get catalog.tables number)) (λ table.
    steps_one _ _ (query_one laws catalog.limits.transformations table.schema texts) (λ query. is_one _))

of_one : Grammars → (catalog : CatalogOf) (r : ResourceOf) (options : List QueryOption) (format : Format) → HasOne (AsksOf catalog r options format)
of_one laws catalog resource.service options Json = is_one _
of_one laws catalog resource.service options Csv = is_one _
of_one laws catalog (resource.rows n) options format = rows_one laws catalog n (texts_of None false options) format
of_one laws catalog (resource.count n) options format = rows_one laws catalog n (texts_of None true options) format
of_one laws catalog (resource.key n text) options format = rows_one laws catalog n (texts_of (Some text) false options) format

path_one : Grammars → (catalog : CatalogOf) (segments : List (List ℕ)) (options : List QueryOption) → HasOne (AsksPath catalog segments options)
path_one laws catalog segments options =
    steps_one _ _ (is_one _) (λ resource.
    steps_one _ _ (is_one _) (λ fitting.
    steps_one _ _ (is_one _) (λ format. of_one laws catalog resource options format)))

asks_one : Grammars → (catalog : CatalogOf) (fault : Option HeadFault) (target : List ℕ) → HasOne (Asks catalog fault target)
asks_one laws catalog fault target =
    steps_one _ _ (is_one _) (λ head.
    steps_one _ _ (told_one url_code (target_of target)) (λ read. path_one laws catalog read.segments read.options))

pub request_one : Grammars → (catalog : CatalogOf) (fault : Option HeadFault) (target : List ℕ) (q p : RequestOf)
    → AsksFor catalog fault target q → AsksFor catalog fault target p → q ≡ p
request_one laws catalog fault target q p h k =
    h.request_is ∙ ap request_in (asks_one laws catalog fault target h.outcome k.outcome h.asks k.asks) ∙ sym k.request_is
