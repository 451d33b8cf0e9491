use Rattle.std.proofs.Common.{◌≡◌, ◌+◌, ◌++◌, length, map, replicate, refl, sym, ap, subst, ◌∙◌, arith}
use Rattle.std.proofs.lemmas.List.{length-append, length-map, length-replicate}
use Rattle.std.proofs.lemmas.Result.{IfOk-weaker}
use Rattle.value_rows.specs.ValueRows.{rows_of}
use Rattle.value_rows.proofs.RowLaws.{rows-long}
use Rattle.row_columns.specs.Columns.{ColumnsOf}
use Rattle.row_columns.specs.Kinds.{any}
use Rattle.row_columns.specs.Numbers.{numbers_from}
use Rattle.row_columns.specs.Picked.{kinds_at, numbered, values_at}
use Rattle.row_columns.proofs.NumberedLaws.{all_numbered, all_within}
use Rattle.aggregate_rows.specs.Gathered.{HaveShown, MakesRows}
use Rattle.aggregate_rows.specs.Inside.{count_of}
use Rattle.aggregate_rows.specs.Table.{GroupsOf}
use Rattle.aggregate_rows.proofs.InsideLemmas.{many, rows-picked, rows-whole, shown-within}
use Rattle.aggregate_rows.proofs.TableLemmas.{kinds-any, numbers-long, places-inside}
use Rattle.aggregate_rows.proofs.groups.Groups.into_rows.Goals as goal

pub of_values-requires : goal.of_values-requires
of_values-requires c =
    let count : c.len-count.result ≡ count_of c.self.inside = c.len-count.ensures ∙ sym (ap (λ (g : GroupsOf). length g.groups) c.self.view_is) ∙ many _ c.self.inside c.self.invariant in
    rw count c.self.invariant.values

pub returns-then-are_all-clause-rows : goal.returns-then-are_all-clause-rows
returns-then-are_all-clause-rows c =
    let g = c.self.inside in
    let count : c.len-count.result ≡ count_of g = c.len-count.ensures ∙ sym (ap (λ (g : GroupsOf). length g.groups) c.self.view_is) ∙ many _ g c.self.invariant in
    let shown = c.args.shown.now in
    rw (c.in_ok-columns.ensures, count) (subst (λ (s : GroupsOf). MakesRows s shown (rows_of g.width (count_of g) g.values)) c.self.view_is
    (rows-whole _ g c.self.invariant shown (c.are_all.ensures c.if-are_all.true)))

pub returns-then-are_all-clause-kinds : goal.returns-then-are_all-clause-kinds
returns-then-are_all-clause-kinds c =
    let g = c.self.inside in
    let all = (c.are_all.ensures c.if-are_all.true).0 in
    rw c.in_ok-columns.ensures (ap (λ n. replicate n any) (omega (arith, all, c.self.invariant.wide, ap (λ (s : GroupsOf). s.shape.key) c.self.view_is)))

pub shown_places-requires : goal.shown_places-requires
shown_places-requires c = λ i d h.
    let within = shown-within _ c.self.inside c.self.invariant c.args.shown.now (subst (λ (s : GroupsOf). HaveShown s c.args.shown.now) (sym c.self.view_is) c.requires) i d h in
    omega (arith, within, c.self.invariant.few)

pub picked-requires-clause-places : goal.picked-requires-clause-places
picked-requires-clause-places c =
    let g = c.self.inside in
    let within = shown-within _ g c.self.invariant c.args.shown.now (subst (λ (s : GroupsOf). HaveShown s c.args.shown.now) (sym c.self.view_is) c.requires) in
    rw (c.in_ok-columns.ensures, c.deref.ensures.value, c.in_ok-places.ensures) (rw length-replicate (places-inside g.key_width g.width c.args.shown.now c.self.invariant.wide within))

pub picked-requires-clause-within : goal.picked-requires-clause-within
picked-requires-clause-within c =
    let g = c.self.inside in
    rw (c.in_ok-columns.ensures, c.deref-2.ensures.value, c.in_ok-numbers.ensures, c.all.ensures, rows-long g.width c.len-count.result g.values) (all_within c.len-count.result)

pub returns-clause-kinds : goal.returns-clause-kinds
returns-clause-kinds c =
    let g = c.self.inside in
    let shown = c.args.shown.now in
    let places = numbers_from 0 g.key_width ++ map (λ place. g.key_width + place) shown in
    let are : c.deref.result.now ≡ places = c.deref.ensures.value ∙ c.in_ok-places.ensures in
    let key : g.key_width ≡ c.args.self.shape.key = ap (λ (s : GroupsOf). s.shape.key) c.self.view_is in
    let long : length places ≡ c.args.self.shape.key + length shown =
    omega (arith, key, length-append (numbers_from 0 g.key_width) (map (λ place. g.key_width + place) shown), numbers-long 0 g.key_width, length-map shown (λ place. g.key_width + place)) in
    IfOk-weaker c.picked.result (λ (made : ColumnsOf). made.kinds ≡ kinds_at c.deref.result.now c.in_ok-columns.columns.kinds) (λ (made : ColumnsOf). made.kinds ≡ replicate (c.args.self.shape.key + length shown) any)
    (λ made is. rw (is, are, c.in_ok-columns.ensures, kinds-any g.width places, long) refl) c.picked.ensures.kinds

pub returns-clause-rows : goal.returns-clause-rows
returns-clause-rows c =
    let g = c.self.inside in
    let shown = c.args.shown.now in
    let rows = rows_of g.width (count_of g) g.values in
    let places = numbers_from 0 g.key_width ++ map (λ place. g.key_width + place) shown in
    let count : c.len-count.result ≡ count_of g = c.len-count.ensures ∙ sym (ap (λ (g : GroupsOf). length g.groups) c.self.view_is) ∙ many _ g c.self.invariant in
    let are : c.deref.result.now ≡ places = c.deref.ensures.value ∙ c.in_ok-places.ensures in
    let held : c.in_ok-columns.columns.rows ≡ rows = ap (λ (of : ColumnsOf). of.rows) c.in_ok-columns.ensures ∙ ap (λ n. rows_of g.width n g.values) count in
    let all : c.deref-2.result.now ≡ numbers_from 0 (length rows) =
    c.deref-2.ensures.value ∙ c.in_ok-numbers.ensures ∙ c.all.ensures ∙ ap (numbers_from 0) (count ∙ sym (rows-long g.width (count_of g) g.values)) in
    let within = shown-within _ g c.self.invariant shown (subst (λ (s : GroupsOf). HaveShown s shown) (sym c.self.view_is) c.requires) in
    IfOk-weaker c.picked.result (λ (made : ColumnsOf). made.rows ≡ map (values_at c.deref.result.now) (numbered c.deref-2.result.now c.in_ok-columns.columns.rows)) (λ (made : ColumnsOf). MakesRows c.args.self shown made.rows)
    (λ made is. subst (λ (s : GroupsOf). MakesRows s shown made.rows) c.self.view_is (λ of aggregates some has.
    rw (is, are, all, held, all_numbered rows) (rows-picked _ g c.self.invariant shown within of aggregates some has))) c.picked.ensures.rows
