use Rattle.std.proofs.Common.{◌≡◌, ◌<◌, ◌+◌, ◌++◌, ◌∷◌, [], ℕ, List, None, get_or, length, take, refl, sym, ap, subst, ◌∙◌, arith}
use Rattle.std.specs.Prelude.{IfSome, slice_set}
use Rattle.std.proofs.lemmas.List.{get_or_read, length-map, length-set, map_more, take_all}
use Rattle.std.proofs.lemmas.Slice.Zip.{all_zipped_more}
use Rattle.cell_types.specs.Value.{CellValue}
use Rattle.query_meaning.specs.Apply.{values_at}
use Rattle.row_columns.specs.Picked.{numbered}
use Rattle.row_codes.specs.Codes.{HaveKeyCodes}
use Rattle.aggregate_rows.specs.Gathered.{HasGroupMore, IsGroupOf}
use Rattle.aggregate_rows.specs.Parts.{AreGroupsOf}
use Rattle.aggregate_rows.proofs.BegunLemmas.{keep_groups, keeps_group, known_more}
use Rattle.row_codes.proofs.CodeLaws.{values-here}
use Rattle.aggregate_rows.proofs.JoinLemmas.{begun_more, none_more}
use Rattle.aggregate_rows.proofs.groups.Groups.groups_of.Goals as goal

pub index-requires : goal.index-requires
index-requires c =
    let rows = c.args.columns.now.rows in
    let numbers = c.args.numbers.now in
    let codes = c.in-Some.codes in
    let have : HaveKeyCodes c.args.grouping.places.now (numbered numbers rows) codes = rw c.in-Some.is at c.in_ok-codes.ensures in
    let inside : c.loop-i.i < length numbers = omega arith in
    omega (arith, inside, have.are.long, length-map numbers (λ n. get_or rows n []), codes.codes.ok.0)

pub group_of_row-requires-clause-known : goal.group_of_row-requires-clause-known
group_of_row-requires-clause-known c =
    let places = c.args.grouping.places.now in
    let rows = c.args.columns.now.rows in
    let numbers = c.args.numbers.now in
    let i = c.loop-i.i in
    let codes = c.in-Some.codes in
    let known = c.loop-i.known.items in
    let code = c.from-code.result in
    let have : HaveKeyCodes places (numbered numbers rows) codes = rw c.in-Some.is at c.in_ok-codes.ensures in
    let inside : i < length numbers = omega arith in
    let coded : i < length (numbered numbers rows) = omega (arith, inside, length-map numbers (λ n. get_or rows n [])) in
    let read : c.index.result.now ≡ get_or codes.codes.items i 0 = get_or_read codes.codes.items i c.index.result.now (omega (arith, coded, have.are.long)) c.index.ensures 0 in
    let code_is : code ≡ get_or codes.codes.items i 0 = omega (arith, read, c.from-code.ensures) in
    let here : values_at places (get_or rows (get_or numbers i 0) []) ≡ have.values_of code = values-here places numbers rows codes have i inside ∙ ap have.values_of (sym code_is) in
    let small : code < length known = omega (arith, have.are.below i coded, code_is, c.loop-i.invariant.long) in
    let there : c.index_mut.result.now ≡ get_or known code None = get_or_read known code c.index_mut.result.now small c.index_mut.ensures.value None in
    rw (c.at-number.ensures, there, here) (c.loop-i.invariant.known have code)

pub loop-i-init : goal.loop-i-init
loop-i-init c = record {
  long = c.in_ok-known.ensures.long;
  shape = refl;
  begun = λ before has. none_more c.values_are_ordered.ensures.equal c.args.grouping.places.now c.args.grouping.aggregates.now before c.args.self.now has;
  found = subst (AreGroupsOf c.args.self.now c.args.grouping.places.now []) (sym c.in_ok-groups.ensures.items) tt;
  known = λ have code. subst (λ o. IfSome o (IsGroupOf c.args.self.now (have.values_of code))) (sym (c.in_ok-known.ensures.none code)) tt;
}

pub loop-i-preserved : goal.loop-i-preserved
loop-i-preserved c =
    let places = c.args.grouping.places.now in
    let aggregates = c.args.grouping.aggregates.now in
    let rows = c.args.columns.now.rows in
    let numbers = c.args.numbers.now in
    let i = c.loop-i.i in
    let row : List CellValue = get_or rows (get_or numbers i 0) [] in
    let codes = c.in-Some.codes in
    let code = c.from-code.result in
    let equal = c.values_are_ordered.ensures.equal in
    let old = c.loop-i.self in
    let new = c.group_of_row.new.self in
    let g = c.in_ok-group.group in
    let found = c.loop-i.groups.items in
    let known = c.loop-i.known.items in
    let told = c.group_of_row.new.known in
    let inside : i < length numbers = omega arith in
    let next : numbered (take (i + 1) numbers) rows ≡ numbered (take i numbers) rows ++ row ∷ [] = map_more (λ n. get_or rows n []) numbers i 0 inside in
    let is : IsGroupOf new (values_at places row) g = rw c.at-number.ensures at c.in_ok-group.ensures.group in
    let has : HasGroupMore aggregates old new (values_at places row) = rw c.at-number.ensures at c.in_ok-group.ensures.more in
    record {
      long = length-set known code told ∙ c.loop-i.invariant.long;
      shape = has.shape ∙ c.loop-i.invariant.shape;
      begun = λ before held.
          rw next (begun_more equal places aggregates before (numbered (take i numbers) rows) row old new (c.loop-i.invariant.begun before held) has);
      found = rw (c.in_ok-push.ensures.items, next)
          (all_zipped_more (λ r h. IsGroupOf new (values_at places r) h) (numbered (take i numbers) rows) found row g
          (keep_groups old new (values_at places row) has.keys places (numbered (take i numbers) rows) found c.loop-i.invariant.found) is);
      known = λ have.
          let coded : i < length (numbered numbers rows) = omega (arith, inside, length-map numbers (λ n. get_or rows n [])) in
          let read : c.index.result.now ≡ get_or codes.codes.items i 0 = get_or_read codes.codes.items i c.index.result.now (omega (arith, coded, have.are.long)) c.index.ensures 0 in
          let code_is : code ≡ get_or codes.codes.items i 0 = omega (arith, read, c.from-code.ensures) in
          let here : values_at places row ≡ have.values_of code = values-here places numbers rows codes have i inside ∙ ap have.values_of (sym code_is) in
          subst (λ o. (k : ℕ) → IfSome (get_or (slice_set known code o) k None) (IsGroupOf new (have.values_of k))) (sym c.in_ok-group.ensures.known)
          (known_more old new have.values_of known code g (keeps_group old new (values_at places row) has.keys) (subst (λ vs. IsGroupOf new vs g) here is)
          (c.loop-i.invariant.known have));
    }

pub returns-clause-groups : goal.returns-clause-groups
returns-clause-groups c =
    rw (take_all c.loop-i.i c.args.numbers.now (omega (arith, c.loop-i-test.false, c.len-i-end.ensures))) at c.loop-i.invariant.found

pub returns-clause-begun : goal.returns-clause-begun
returns-clause-begun c =
    rw (take_all c.loop-i.i c.args.numbers.now (omega (arith, c.loop-i-test.false, c.len-i-end.ensures))) at c.loop-i.invariant.begun
