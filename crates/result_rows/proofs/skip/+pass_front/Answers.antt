use Rattle.std.proofs.Common.{◌≡◌, ◌∙◌, rules, ap, subst, sym}
use Rattle.std.specs.Prelude.{Box, IfSome}
use Rattle.std.specs.declared.alloc.Global.{Global}
use Rattle.sort_rows.specs.Runs.{first_of_two, row_at, stream_first, IsRunRow, IsStream}
use Rattle.sort_rows.specs.declared.streams.Stream.{Stream}
use Rattle.sort_rows.proofs.StreamLemmas.{first_is}
use Rattle.result_rows.specs.Fronts.{PassesFront}
use Rattle.result_rows.proofs.CutLemmas.{passes_run, slice_rises, two_pass_front}
use Rattle.result_rows.proofs.skip.+pass_front.Goals as goal

pub front_of-less-requires-clause-rising : goal.front_of-less-requires-clause-rising
front_of-less-requires-clause-rising t c =
    let columns = c.args.plain.now in
    let rows = c.args.columns.now.rows in
    let is = subst (IsStream columns rows) c.in-Run.is c.requires.streams in
    slice_rises columns rows c.in-Run.run'.items c.deref.result.now c.in-Run.taken c.deref.ensures.value is.rising

pub front_of-requires-clause-rising : goal.front_of-requires-clause-rising
front_of-requires-clause-rising t c =
    let columns = c.args.plain.now in
    let rows = c.args.columns.now.rows in
    let is = subst (IsStream columns rows) c.in-Run.is c.requires.streams in
    slice_rises columns rows c.in-Run.run'.items c.deref-in-Run.result.now _ c.deref-in-Run.ensures.value is.rising

pub returns-in-Run : goal.returns-in-Run
returns-in-Run t c =
    let columns = c.args.plain.now in
    let rows = c.args.columns.now.rows in
    passes_run c.values_are_ordered.ensures.total columns rows (row_at rows c.args.pivot) c.args.stream.now c.in-Run.run' c.in-Run.taken c.front_of-less.result c.front_of.result c.args.ties
    c.min-tied.result c.deref.result.now c.deref-in-Run.result.now c.in-Run.is c.deref.ensures.value c.deref-in-Run.ensures.value c.requires.streams c.front_of-less.ensures c.front_of.ensures
    (search rules)

pub first_of-requires-clause-earlier : goal.first_of-requires-clause-earlier
first_of-requires-clause-earlier t c =
    let columns = c.args.plain.now in
    let rows = c.args.columns.now.rows in
    subst (λ f. IfSome f (IsRunRow columns rows)) (sym (c.first.ensures ∙ ap stream_first c.deref-in-Two.ensures))
    (first_is columns rows c.pass_front-ties.new.stream c.pass_front-ties.ensures.stream)

pub first_of-requires-clause-later : goal.first_of-requires-clause-later
first_of-requires-clause-later t c =
    let columns = c.args.plain.now in
    let rows = c.args.columns.now.rows in
    subst (λ f. IfSome f (IsRunRow columns rows)) (sym (c.first-in-Two.ensures ∙ ap stream_first c.deref-in-Two-2.ensures))
    (first_is columns rows c.pass_front-ties-in-Two.new.stream c.pass_front-ties-in-Two.ensures.stream)

pub returns-in-Two : goal.returns-in-Two
returns-in-Two t c =
    let columns = c.args.plain.now in
    let rows = c.args.columns.now.rows in
    let pivot = row_at rows c.args.pivot in
    let two = c.in-Two in
    let left_earlier : Box Stream Global = record { ptr = two.earlier.ptr; alloc = two.earlier.alloc; value = c.pass_front-ties.new.stream } in
    let left_later : Box Stream Global = record { ptr = two.later.ptr; alloc = two.later.alloc; value = c.pass_front-ties-in-Two.new.stream } in
    let at : c.first_of.result ≡ first_of_two columns rows (stream_first left_earlier.value) (stream_first left_later.value) =
    c.first_of.ensures ∙ ap (λ x. first_of_two columns rows x c.first-in-Two.result) (c.first.ensures ∙ ap stream_first c.deref-in-Two.ensures)
    ∙ ap (first_of_two columns rows (stream_first left_earlier.value)) (c.first-in-Two.ensures ∙ ap stream_first c.deref-in-Two-2.ensures) in
    two_pass_front c.values_are_ordered.ensures.total columns rows pivot c.args.stream.now two.earlier two.later left_earlier left_later two.first c.first_of.result c.args.ties c.pass_front-ties.result
    c.pass_front-ties-in-Two.result two.field-3 two.is
    (subst (λ s. PassesFront columns rows pivot c.args.ties s left_earlier.value c.pass_front-ties.result) c.deref_mut.ensures.value c.pass_front-ties.ensures)
    (subst (λ s. PassesFront columns rows pivot c.pass_front-ties.result s left_later.value c.pass_front-ties-in-Two.result) c.deref_mut-in-Two.ensures.value c.pass_front-ties-in-Two.ensures) at
