use Rattle.std.proofs.Common.{◌≡◌, ◌∙◌, ◌∷◌, ◌++◌, ℕ, List, ap, map, take, sym, append_assoc, take_all, Global}
use Rattle.std.specs.Cow.{cow_slice_items}
use Rattle.std.specs.declared.borrow.CowSlice.{CowSlice}
use Rattle.csv_grammar.specs.Records.{print_field, print_record}
use Rattle.csv_records.specs.Written.{field_for}
use Rattle.csv_records.proofs.WrittenLemmas.{first_and_next, next_fields}
use Rattle.csv_records.proofs.write.push_cells.Goals as goal

whole : (out before first : List ℕ) (others : List (List ℕ)) (all : List (List ℕ)) → out ≡ (before ++ print_field (field_for first)) ++ next_fields others → all ≡ first ∷ others
    → out ≡ before ++ print_record (map field_for all)
whole out before first others all e f =
    e ∙ append_assoc before (print_field (field_for first)) (next_fields others)
    ∙ ap (λ (l : List ℕ). before ++ l) (sym (first_and_next first others))
    ∙ ap (λ (l : List (List ℕ)). before ++ print_record (map field_for l)) (sym f)

pub returns : goal.returns
returns c =
    let items : List (CowSlice ℕ Global) → List (List ℕ) = λ cells. map cow_slice_items cells in
    let before = c.args.out.now.items in
    let others = c.in-Some.others.now in
    let all : take c.loop-cell.cell-index others ≡ others = take_all c.loop-cell.cell-index others c.loop-cell-test.false in
    let e : c.loop-cell.out.items ≡ (before ++ print_field (field_for (cow_slice_items c.in-Some.first.now))) ++ next_fields (items others) =
    c.loop-cell.invariant
    ∙ ap (λ (l : List (CowSlice ℕ Global)). c.push_field.new.out.items ++ next_fields (items l)) all
    ∙ ap (λ (l : List ℕ). l ++ next_fields (items others)) (c.in_ok-push_field.ensures ∙ ap (λ (l : List ℕ). before ++ print_field (field_for l)) c.as_slice.ensures.value) in
    whole c.loop-cell.out.items before (cow_slice_items c.in-Some.first.now) (items others) (items c.args.cells.now) e (ap items c.in-Some.ensures.cases.0)
