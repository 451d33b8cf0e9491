use Rattle.odata_http.proofs.QueryRunLemmas.{counted_csv, counted_json}
use Rattle.odata_http.proofs.query_run.counted.Goals as goal

pub count_json-requires : goal.count_json-requires
count_json-requires c = (c.in-Some.ensures c.requires.0 c.requires.1 c.requires.2).width

pub returns-in-Json : goal.returns-in-Json
returns-in-Json c = λ plan table rows lends answers has.
    counted_json c.args.format c.args.sizes c.count_json.new.self rows _ _ c.in-Json.is ((c.in-Some.ensures plan table lends).first rows answers) c.count_json.ensures has

pub returns-in-Csv : goal.returns-in-Csv
returns-in-Csv c = λ plan table rows lends answers has.
    counted_csv c.args.format c.args.sizes c.count_csv.new.self rows _ _ c.in-Csv.is ((c.in-Some.ensures plan table lends).first rows answers) c.count_csv.ensures has
