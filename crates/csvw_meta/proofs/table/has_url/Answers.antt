-- The urls of the tables are looked at one by one.
use Rattle.std.proofs.Common.{map, rules, tests}
use Rattle.std.proofs.lemmas.Iterator.{YieldsList-from_slice}
use Rattle.std.proofs.lemmas.Iterator.Search.{any_from_yields_List}
use Rattle.std.specs.Str.{bytes_eq}
use Rattle.serde_json.specs.View.{view}
use Rattle.cell_types.proofs.ListLaws.{list_any-map}
use Rattle.csvw_meta.specs.Table.{url_of}
use Rattle.csvw_meta.proofs.table.has_url.Goals as goal

pub returns : goal.returns
returns c =
    let url = c.args.url.now in
    let tables = c.args.tables.now in
    rw (list_any-map (bytes_eq url) url_of (map view tables), list_any-map (λ table. bytes_eq url (url_of table)) view tables)
    (any_from_yields_List (λ table. bytes_eq url (url_of (view table))) _ _ _ c.any.ensures.ran (YieldsList-from_slice tables cc) (λ x b q k. search (rules, tests)))
