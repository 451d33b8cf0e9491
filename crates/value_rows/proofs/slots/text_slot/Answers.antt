use Rattle.std.proofs.Common.{◌≡◌, [], length, string_bytes, sym, ap, ◌∙◌, arith}
use Rattle.std.proofs.lemmas.List.{append-nil}
use Rattle.std.proofs.lemmas.Str.{IsUtf8-nil}
use Rattle.cell_types.specs.Value.{text as text_value}
use Rattle.value_rows.proofs.PackedLemmas.{text-there}
use Rattle.value_rows.proofs.slots.text_slot.Goals as goal

pub returns-in_err-push_str-clause-grows : goal.returns-in_err-push_str-clause-grows
returns-in_err-push_str-clause-grows c = ([], IsUtf8-nil, c.in_err-push_str.ensures.bytes ∙ sym (append-nil (string_bytes c.args.texts.now)))

pub returns-clause-slot : goal.returns-clause-slot
returns-clause-slot c =
    let start : c.len-start.result ≡ length (string_bytes c.args.texts.now) = omega (arith, c.len-start.ensures, c.args.texts.now.bytes.ok.0) in
    let there = text-there (string_bytes c.args.texts.now) c.args.text.now (string_bytes c.push_str.new.self) c.len-start.result c.utf8.text c.in_ok-push_str.ensures.bytes start in
    λ others place. record { is = (there.0, there.1); view = ap text_value there.2 }
