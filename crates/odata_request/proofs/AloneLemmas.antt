-- A query with a key has no `$apply`.
use Rattle.std.proofs.Common.{◌≡◌, ℕ, true, false, List, [], ◌∷◌, Option, Some, None, Result, Ok, Err, refl, sym, ap, ◌∙◌, subst}
use Rattle.cell_types.specs.Value.{CellValue}
use Rattle.csvw_meta.specs.Schema.{SchemaOf}
use Rattle.table_store.specs.Catalog.{CatalogOf}
use Rattle.odata_url.specs.declared.option_name.OptionName.{OptionName}
use Rattle.odata_url.specs.declared.option_name.OptionName.TheVariants as name
use Rattle.odata_url.specs.Target.{QueryOption}
use Rattle.odata_parse.specs.declared.format.Format.{Format}
use Rattle.odata_parse.specs.declared.format.Format.TheVariants.{Json, Csv}
use Rattle.odata_parse.specs.Options.{IsKey}
use Rattle.odata_types.specs.declared.fault.TypeFault.{TypeFault}
use Rattle.odata_types.specs.Result as typing
use Rattle.odata_types.specs.Schema.{inputs_of}
use Rattle.odata_query.specs.Apply.{apply_typing}
use Rattle.odata_query.specs.Key.{optional_key_typing}
use Rattle.odata_query.specs.Query.{QueryOf, TypedOf, optional_typing, order_typing, query_typing}
use Rattle.odata_query.specs.Selection.{optional_selection_typing}
use Rattle.odata_errors.specs.declared.code.Code.{Code}
use Rattle.http_heads.specs.declared.checks.HeadFault.{HeadFault}
use Rattle.odata_request.specs.Fault.{type_code}
use Rattle.odata_request.specs.Resource as resource
use Rattle.odata_request.specs.Resource.{ResourceOf}
use Rattle.odata_request.specs.Options.{TextsOf, options_fault, texts_of, option_value}
use Rattle.odata_request.specs.Query.{AsksQuery, ReadsQuery}
use Rattle.odata_request.specs.Reading.{ReadsApply, ReadsOption, ReadsOr, ReadsTree}
use Rattle.odata_request.specs.Request.{Asks, AsksOf, AsksRows, RequestOf, RowsRequestOf, request_in, rows, service}
use Rattle.odata_request.specs.Laws.{KeysStandAlone}
use Rattle.odata_request.proofs.StepLemmas.{no_code, not_under, same_value, then_ok, told_ok}

-- of the options that fit the row of a key none is `$apply`
no_apply : (number : ℕ) (text : List ℕ) (options : List QueryOption) → options_fault (resource.key number text) options ≡ None → option_value name.Apply options ≡ None
no_apply number text [] e = refl
no_apply number text (option ∷ options) e = of option.0 option.1 (λ h. no_apply number text options h) e
  where
    of : (n : OptionName) (value : List ℕ) → (options_fault (resource.key number text) options ≡ None → option_value name.Apply options ≡ None) → options_fault (resource.key number text) ((n, value) ∷ options) ≡ None → option_value name.Apply ((n, value) ∷ options) ≡ None
    of name.Format value rest h = rest h
    of name.Select value rest h = rest h
    of name.Apply value rest h = absurd (cc h)
    of name.Filter value rest h = absurd (cc h)
    of name.Count value rest h = absurd (cc h)
    of name.OrderBy value rest h = absurd (cc h)
    of name.Skip value rest h = absurd (cc h)
    of name.Top value rest h = absurd (cc h)

-- ---- what was read

abbrev ok_in : {X : Type 0} {E : Type 0} → X → Result X E → X
ok_in d (Ok x) = x
ok_in d (Err e) = d

not_there : {X : Type 0} (reads : List ℕ → Result X Code → Type 0) (text : Option (List ℕ)) (o : Option X) → text ≡ None → ReadsOption reads text (Ok o) → o ≡ None
not_there reads None o e h = ap (ok_in o) h
not_there reads (Some text) o e h = absurd (cc e)

not_said : {X : Type 0} (absent : X) (reads : List ℕ → Result X Code → Type 0) (text : Option (List ℕ)) (x : X) → text ≡ None → ReadsOr absent reads text (Ok x) → x ≡ absent
not_said absent reads None x e h = ap (ok_in x) h
not_said absent reads (Some text) x e h = absurd (cc e)

-- no key where its text is not there, and no transformation where that of `$apply` is not
pub record IsAlone (texts : TextsOf) (key : Type 0) (apply : Type 0) : Type 0 where
  pub key_is : texts.key ≡ None → key
  pub apply_is : texts.apply ≡ None → apply

read_alone : (limit : ℕ) (texts : TextsOf) (q : QueryOf) → ReadsQuery limit texts (Ok q) → IsAlone texts (q.key ≡ None) (q.apply ≡ [])
read_alone limit texts q reads =
    let key = then_ok reads in
    let apply = then_ok key.2 in
    let filter = then_ok apply.2 in
    let count = then_ok filter.2 in
    let order = then_ok count.2 in
    let skip = then_ok order.2 in
    let top = then_ok skip.2 in
    let select = then_ok top.2 in
    let same = ap (ok_in q) select.2 in
    record {
      key_is = λ none. ap (λ (x : QueryOf). x.key) same ∙ not_there (ReadsTree IsKey) texts.key key.0 none key.1;
      apply_is = λ none. ap (λ (x : QueryOf). x.apply) same ∙ not_said [] (ReadsApply limit) texts.apply apply.0 none apply.1;
    }

-- ---- what was typed

bind_ok : {A B : Type 0} (r : Result A TypeFault) (f : A → Result B TypeFault) (b : B) → (typing.◌>>=◌ r f) ≡ Ok b → (a : A) × (r ≡ Ok a) × (f a ≡ Ok b)
bind_ok (Ok a) f b e = (a, refl, e)
bind_ok (Err x) f b e = absurd (cc e)

typed_alone : (schema : SchemaOf) (texts : TextsOf) (query : QueryOf) (t : TypedOf) → query_typing schema query ≡ Ok t
    → IsAlone texts (query.key ≡ None) (query.apply ≡ []) → IsAlone texts (t.key ≡ None) (t.apply ≡ [])
typed_alone schema texts query t e alone =
    let key = bind_ok (optional_key_typing (inputs_of schema) schema.key query.key) _ t e in
    let apply = bind_ok (apply_typing (inputs_of schema) query.apply) _ t key.2 in
    let filter = bind_ok (optional_typing apply.0.1 query.filter) _ t apply.2 in
    let order = bind_ok (order_typing apply.0.1 query.order) _ t filter.2 in
    let select = bind_ok (optional_selection_typing apply.0.1 query.select) _ t order.2 in
    let same = ap (ok_in t) select.2 in
    record {
      key_is = λ none.
          ap (λ (x : TypedOf). x.key) (sym same)
          ∙ ap (ok_in key.0) (sym key.1 ∙ ap (λ k. optional_key_typing (inputs_of schema) schema.key k) (alone.key_is none));
      apply_is = λ none.
          ap (λ (x : TypedOf). x.apply) (sym same)
          ∙ ap (λ r. (ok_in apply.0 r).0) (sym apply.1 ∙ ap (λ ts. apply_typing (inputs_of schema) ts) (alone.apply_is none));
    }

asks_alone : (limit : ℕ) (schema : SchemaOf) (texts : TextsOf) (t : TypedOf) → AsksQuery limit schema texts (Ok t) → IsAlone texts (t.key ≡ None) (t.apply ≡ [])
asks_alone limit schema texts t asks =
    let read = then_ok asks in
    typed_alone schema texts read.0 t (told_ok type_code (query_typing schema read.0) t read.2) (read_alone limit texts read.0 read.1)

-- ---- what is asked

abbrev rows_in : RowsRequestOf → RequestOf → RowsRequestOf
rows_in d (rows asked) = asked
rows_in d other = d

rows_alone : (catalog : CatalogOf) (number : ℕ) (texts : TextsOf) (format : Format) (asked : RowsRequestOf) → AsksRows catalog number texts format (Ok (rows asked))
    → IsAlone texts (asked.query.key ≡ None) (asked.query.apply ≡ [])
rows_alone catalog number texts format asked h =
    let table = then_ok h in
    let query = then_ok table.2 in
    let same : query.0 ≡ asked.query = ap (λ r. (rows_in asked (ok_in (rows asked) r)).query) (sym query.2) in
    subst (λ (q : TypedOf). IsAlone texts (q.key ≡ None) (q.apply ≡ [])) same (asks_alone catalog.limits.transformations table.0.schema texts query.0 query.1)

abbrev Stands : RowsRequestOf → Type 0
Stands asked = (key : List CellValue) → asked.query.key ≡ Some key → asked.query.apply ≡ []

no_key : (asked : RowsRequestOf) (texts : TextsOf) → texts.key ≡ None → IsAlone texts (asked.query.key ≡ None) (asked.query.apply ≡ []) → Stands asked
no_key asked texts none alone key is = let there = alone.key_is none in absurd (cc (there, is))

of_stands : (catalog : CatalogOf) (r : ResourceOf) (options : List QueryOption) (format : Format) (asked : RowsRequestOf) → options_fault r options ≡ None
    → AsksOf catalog r options format (Ok (rows asked)) → Stands asked
of_stands catalog resource.service options Json asked e h = absurd (let bad = same_value (rows asked) service h in cc bad)
of_stands catalog resource.service options Csv asked e h = absurd (no_code (rows asked) _ h)
of_stands catalog (resource.rows number) options format asked e h =
    no_key asked (texts_of None false options) refl (rows_alone catalog number (texts_of None false options) format asked h)
of_stands catalog (resource.count number) options format asked e h =
    no_key asked (texts_of None true options) refl (rows_alone catalog number (texts_of None true options) format asked h)
of_stands catalog (resource.key number text) options format asked e h = λ key is.
    (rows_alone catalog number (texts_of (Some text) false options) format asked h).apply_is (no_apply number text options e)

asks_stand : (catalog : CatalogOf) (fault : Option HeadFault) (target : List ℕ) (asked : RowsRequestOf) → Asks catalog fault target (Ok (rows asked)) → Stands asked
asks_stand catalog fault target asked h =
    let head = then_ok h in
    let read = then_ok head.2 in
    let resource = then_ok read.2 in
    let fitting = then_ok resource.2 in
    let format = then_ok fitting.2 in
    of_stands catalog resource.0 read.0.options format.0 asked (not_under (options_fault resource.0 read.0.options) fitting.0 fitting.1) format.2

pub keys_alone : KeysStandAlone
keys_alone catalog fault target asked key h is = of h.outcome h.asks h.request_is
  where
    of : (outcome : Result RequestOf Code) → Asks catalog fault target outcome → rows asked ≡ request_in outcome → asked.query.apply ≡ []
    of (Ok request) asks e = asks_stand catalog fault target asked (subst (λ q. Asks catalog fault target (Ok q)) (sym e) asks) key is
    of (Err code) asks e = absurd (cc e)
