use Rattle.std.proofs.Common.{◌≡◌, ◌++◌, IfOk, codes, string_bytes, ap, sym, subst, ◌∙◌}
use Rattle.std.proofs.lemmas.List.{append_assoc}
use Rattle.std.specs.Fmt.{decimal}
use Rattle.table_store.specs.Fault.{file_text as file_text_of}
use Rattle.table_store.proofs.fault.cell_text.Goals as goal

pub returns : goal.returns
returns c =
    let row = decimal c.args.row in
    let col = decimal c.args.col in
    let name = c.args.name.now in
    let grouped = append_assoc (row ++ codes " col " ++ col) (codes " ") name ∙ append_assoc (row ++ codes " col ") col (codes " " ++ name)
    ∙ append_assoc row (codes " col ") (col ++ (codes " " ++ name)) in
    subst (λ cause. IfOk c.file_text.result (λ text. string_bytes text ≡ file_text_of c.args.table.now cause))
    (c.as_str.ensures.value ∙ c.in_ok-cause.ensures.ok ∙ ap (λ text. codes "Cell row " ++ text) (sym grouped)) c.file_text.ensures
