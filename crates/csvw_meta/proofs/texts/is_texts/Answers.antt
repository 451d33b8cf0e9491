-- The parts are looked at one by one.
use Rattle.std.proofs.Common.{rules, tests}
use Rattle.std.proofs.lemmas.Iterator.{YieldsList-from_slice}
use Rattle.std.proofs.lemmas.Iterator.Search.{all_from_yields_List}
use Rattle.std.proofs.lemmas.List.Folds.{list_all-map}
use Rattle.serde_json.specs.View.{view}
use Rattle.csvw_meta.specs.Texts.{is_data_string}
use Rattle.csvw_meta.proofs.texts.is_texts.Goals as goal

pub returns : goal.returns
returns c =
    let parts = c.parts.result.now in
    rw (← c.parts.ensures, list_all-map is_data_string view parts)
    (all_from_yields_List (λ part. is_data_string (view part)) _ _ _ c.all.ensures.ran (YieldsList-from_slice parts cc) (λ x b q k. search (rules, tests)))
