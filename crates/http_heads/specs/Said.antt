-- What fields say that decides how a head is answered.
use Rattle.std.specs.Prelude.{ℕ, List, codes, min}
use Rattle.std.specs.List.{list_all, list_any}
use Rattle.http_heads.specs.declared.fields.Said.{Said}
use Rattle.http_heads.specs.Fields.{count_named, has_no_body, is_closing, is_coding}

abbrev pub said_by : List (List ℕ × List ℕ) → Said
said_by fields = record {
  hosts = min 2 (count_named (codes "host") fields);
  is_coded = list_any is_coding fields;
  is_bodiless = list_all has_no_body fields;
  lists_close = list_any is_closing fields;
}
