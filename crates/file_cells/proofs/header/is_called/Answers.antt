use Rattle.std.proofs.Common.{string_bytes, sym, ap, ◌∙◌}
use Rattle.std.specs.List.{list_any}
use Rattle.std.specs.Str.{bytes_eq}
use Rattle.file_cells.proofs.HeaderLemmas.{is_called-title}
use Rattle.file_cells.proofs.header.is_called.Goals as goal

pub returns-else-eq : goal.returns-else-eq
returns-else-eq c =
    let other = ap (λ name. bytes_eq name c.args.text.now) (sym c.as_str.ensures.value) ∙ sym c.eq.ensures ∙ c.if-eq.false in
    let titles = c.is_title.ensures ∙ ap (list_any (λ title. bytes_eq (string_bytes title) c.args.text.now)) c.as_slice.ensures.value in
    is_called-title c.args.column.now c.args.text.now c.is_title.result other titles
