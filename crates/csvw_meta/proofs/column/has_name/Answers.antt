-- The names of the columns are looked at one by one.
use Rattle.std.proofs.Common.{map, rules, tests}
use Rattle.std.proofs.lemmas.Iterator.{YieldsList-from_slice}
use Rattle.std.proofs.lemmas.Iterator.Search.{any_from_yields_List}
use Rattle.std.specs.Str.{bytes_eq}
use Rattle.serde_json.specs.View.{view}
use Rattle.cell_types.proofs.ListLaws.{list_any-map}
use Rattle.csvw_meta.specs.Column.{name_of}
use Rattle.csvw_meta.proofs.column.has_name.Goals as goal

pub returns : goal.returns
returns c =
    let name = c.args.name.now in
    let columns = c.args.columns.now in
    rw (list_any-map (bytes_eq name) name_of (map view columns), list_any-map (λ column. bytes_eq name (name_of column)) view columns)
    (any_from_yields_List (λ column. bytes_eq name (name_of (view column))) _ _ _ c.any.ensures.ran (YieldsList-from_slice columns cc) (λ x b q k. search (rules, tests)))
