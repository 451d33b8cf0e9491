use Rattle.std.proofs.Common.{◌≡◌, ◌++◌, ◌∙◌, true, codes, length, map, string_bytes, sym, ap, subst, arith, rules, tests, take_all}
use Rattle.std.specs.List.{flat_map}
use Rattle.std.proofs.lemmas.List.Folds.{flat_map-map}
use Rattle.reply_text.specs.RowSizes.{labels_size}
use Rattle.reply_values.specs.Printed.{json_text}
use Rattle.reply_values.specs.Size.{told}
use Rattle.reply_text.specs.contracts.row_sizes.labels_size.{JSON-type}
use denote.Param.{number}
use Rattle.reply_text.proofs.row_sizes.labels_size.Goals as goal

pub returns : goal.returns
returns g c =
    let names = c.args.names.now in
    let set : JSON-type (number g.row.JSON) ≡ true = first_of (grind (arith, tests, c.if-not-this.false), search rules) in
    let whole = ap (flat_map (λ name. json_text (string_bytes name) ++ codes ":")) (take_all c.loop-name.name-index names (omega (arith, c.loop-name-test.false))) in
    subst (λ json. c.loop-name.size ≡ told (labels_size json (map string_bytes names))) (sym set)
    (c.loop-name.invariant ∙ ap (λ l. told (length l)) (whole ∙ sym (flat_map-map (λ name. json_text name ++ codes ":") string_bytes names)))
