use Rattle.std.proofs.Common.{◌≡◌, Some, None, string_bytes, refl, sym, ap, ◌∙◌}
use Rattle.std.specs.List.{position}
use Rattle.std.specs.Str.{bytes_eq}
use Rattle.table_store.proofs.FileLemmas.{file_named-at, file_named-none, file_named-other}
use Rattle.table_store.proofs.file.take_file.Goals as goal

pub returns-in-None-clause-file : goal.returns-in-None-clause-file
returns-in-None-clause-file c =
    let files = c.args.files.now.items in
    let name = c.args.name.now in
    let none : position (λ f. bytes_eq (string_bytes f.name) name) files ≡ None =
    ap (position (λ f. bytes_eq (string_bytes f.name) name)) (sym c.as_slice.ensures.value) ∙ sym c.in-None.ensures in
    file_named-none name files none

pub returns-in-Some-clause-file : goal.returns-in-Some-clause-file
returns-in-Some-clause-file c =
    let files = c.args.files.now.items in
    let name = c.args.name.now in
    let at : position (λ f. bytes_eq (string_bytes f.name) name) files ≡ Some c.in-Some.place =
    ap (position (λ f. bytes_eq (string_bytes f.name) name)) (sym c.as_slice.ensures.value) ∙ sym c.in-Some.ensures in
    file_named-at name files c.in-Some.place c.index_mut-file.result.now at c.index_mut-file.ensures.value ∙ sym (ap (λ v. Some v.items) c.replace.ensures.value)

pub returns-in-Some-clause-others : goal.returns-in-Some-clause-others
returns-in-Some-clause-others c other differs =
    let files = c.args.files.now.items in
    let name = c.args.name.now in
    let at : position (λ f. bytes_eq (string_bytes f.name) name) files ≡ Some c.in-Some.place =
    ap (position (λ f. bytes_eq (string_bytes f.name) name)) (sym c.as_slice.ensures.value) ∙ sym c.in-Some.ensures in
    file_named-other name files c.in-Some.place c.index_mut-file.result.now _ at c.index_mut-file.ensures.value refl other differs
