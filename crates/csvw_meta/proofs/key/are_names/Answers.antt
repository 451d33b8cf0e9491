-- The texts are looked at one by one.
use Rattle.std.proofs.Common.{map, rules, tests}
use Rattle.std.proofs.lemmas.Iterator.{YieldsList-from_slice}
use Rattle.std.proofs.lemmas.Iterator.Search.{all_from_yields_List}
use Rattle.std.proofs.lemmas.List.Folds.{list_all-map}
use Rattle.serde_json.specs.View.{view}
use Rattle.csvw_meta.specs.Column.{names_a_column}
use Rattle.csvw_meta.specs.Key.{text_or_empty}
use Rattle.csvw_meta.proofs.key.are_names.Goals as goal

pub returns : goal.returns
returns c =
    let columns = map view c.args.columns.now in
    let values = c.args.values.now in
    rw (list_all-map (names_a_column columns) text_or_empty (map view values), list_all-map (λ value. names_a_column columns (text_or_empty value)) view values)
    (all_from_yields_List (λ value. names_a_column columns (text_or_empty (view value))) _ _ _ c.all.ensures.ran (YieldsList-from_slice values cc) (λ x b q k. search (rules, tests)))
