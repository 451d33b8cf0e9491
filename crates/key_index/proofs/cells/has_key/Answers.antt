use Rattle.std.proofs.Common.{◌≡◌, ◌<◌, ℕ, true, false, true≢false, get_or, length, map, sym, ap, ◌∙◌, arith}
use borrow.Author.Count.{below_more}
use Rattle.std.proofs.lemmas.Bool.{not-false, not-true}
use Rattle.std.proofs.lemmas.List.{ext_get_or, get_or-map, length-map}
use Rattle.cell_types.specs.Value.{CellValue, null, value_eq, value_view}
use Rattle.key_index.specs.Key.{row_key}
use Rattle.key_index.specs.Keys.{typed_row}
use Rattle.key_index.proofs.RowLemmas.{key_value}
use Rattle.key_index.proofs.cells.has_key.Goals as goal

pub returns-then-ne-clause-no : goal.returns-then-ne-clause-no
returns-then-ne-clause-no c _ same =
    let key = c.args.key.now in
    let places = c.args.places.now in
    let i = c.loop-i.i in
    let mine = c.index-key-i.result in
    let other = c.value.result in
    let inside : i < length places = omega (arith, c.loop-i-test.true, c.loop-i.invariant.long) in
    let one : get_or (map value_view key) i null ≡ value_view mine =
    get_or-map value_view key i mine null c.loop-i-test.true ∙ ap value_view (sym c.index-key-i.is) in
    let two = key_value c.args.columns.now places c.args.row i c.index-columns-places.result inside (c.requires i 0 inside) c.index-columns-places.is ∙ sym c.value.ensures in
    let equal : value_view mine ≡ value_view other = sym one ∙ ap (λ k. get_or k i null) same ∙ two in
    let unlike : value_eq (value_view mine) (value_view other) ≡ false = sym (c.values_compare_as_their_views.ensures.equal mine other) ∙ not-true _ (sym c.ne.ensures ∙ c.if-ne.true) in
    true≢false (sym ((c.values_are_ordered.ensures.equal (value_view mine) (value_view other)).1 equal) ∙ unlike)

pub loop-i-preserved : goal.loop-i-preserved
loop-i-preserved c =
    let key = c.args.key.now in
    let places = c.args.places.now in
    let i = c.loop-i.i in
    let mine = c.index-key-i.result in
    let other = c.value.result in
    let inside : i < length places = omega (arith, c.loop-i-test.true, c.loop-i.invariant.long) in
    let one : get_or (map value_view key) i null ≡ value_view mine =
    get_or-map value_view key i mine null c.loop-i-test.true ∙ ap value_view (sym c.index-key-i.is) in
    let two = key_value c.args.columns.now places c.args.row i c.index-columns-places.result inside (c.requires i 0 inside) c.index-columns-places.is ∙ sym c.value.ensures in
    let like : value_eq (value_view mine) (value_view other) ≡ true = sym (c.values_compare_as_their_views.ensures.equal mine other) ∙ not-false _ (sym c.ne.ensures ∙ c.if-ne.false) in
    let equal = one ∙ (c.values_are_ordered.ensures.equal (value_view mine) (value_view other)).0 like ∙ sym two in record {
      long = c.loop-i.invariant.long;
      same = below_more (λ k. get_or (map value_view key) k null ≡ get_or (row_key places (typed_row c.args.row c.args.columns.now)) k null) i c.loop-i.invariant.same equal;
    }

pub returns-clause-yes : goal.returns-clause-yes
returns-clause-yes c _ =
    let key = c.args.key.now in
    let places = c.args.places.now in
    let of : ℕ → CellValue = λ place. get_or (typed_row c.args.row c.args.columns.now) place null in
    ext_get_or null (map value_view key) (row_key places (typed_row c.args.row c.args.columns.now))
    (length-map key value_view ∙ c.loop-i.invariant.long ∙ sym (length-map places of))
    (λ k within. c.loop-i.invariant.same k (omega (arith, within, c.loop-i-test.false, length-map key value_view)))
