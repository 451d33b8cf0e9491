use Rattle.std.proofs.Common.{◌≡◌, [], Some, Ok, map, refl, ap, subst}
use Rattle.std.proofs.lemmas.List.Elements.{recursion_from_All}
use Rattle.csvw_meta.specs.Document.{schemas_of}
use Rattle.csvw_meta.specs.Laws.{HasShortDefaults}
use Rattle.csvw_meta.specs.Limits.{limits_view}
use Rattle.csvw_meta.specs.Schema.{schema_view}
use Rattle.table_store.proofs.CatalogLemmas.{accepted_keys}
use Rattle.table_store.proofs.folder_loading.Loading.start.Goals as goal

pub returns-clause-loads : goal.returns-clause-loads
returns-clause-loads c files =
    let limits = limits_view c.args.limits in
    let schemas = map schema_view c.in-Ok.schemas.tables.items in
    let rest = c.from.ensures.0 in
    let laws = c.accepted_schemas.ensures limits c.as_slice.result.now schemas c.args.limits.tables_in_range.0 c.in-Ok.ensures.schemas in
    record {
      limits = refl;
      schemas = schemas;
      metadata = subst (λ bytes. Some (schemas_of limits bytes) ≡ Some (Ok schemas)) c.as_slice.ensures.value (ap Some c.in-Ok.ensures.schemas);
      read = [];
      tables = rw c.new.ensures.items tt;
      order = rw rest refl;
      keys = rw rest (accepted_keys limits schemas laws.each);
      defaults = rw rest (recursion_from_All HasShortDefaults schemas (c.defaults_are_short.ensures limits c.as_slice.result.now schemas c.in-Ok.ensures.schemas));
      differ = laws.distinct;
      count = c.from.result.ok.0;
    }
