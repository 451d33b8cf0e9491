use Rattle.std.proofs.Common.{◌≡◌, ◌-◌, ◌∙◌, [], ap, drop, get_or, refl, rules, sym}
use Rattle.std.proofs.lemmas.List.{drop-map}
use Rattle.row_columns.specs.Picked.{numbered}
use Rattle.query_exec.proofs.SliceLemmas.{slice_count, slice_pushed}
use Rattle.query_exec.proofs.slice.SliceSink.push.Goals as goal

pub returns : goal.returns
returns c =
    let old = c.args.self.now in
    let rows = c.args.block.now.rows in
    let found = c.args.found in
    let skip_is : c.saturating_sub-skip.result ≡ old.slice.skip - old.count = search rules in
    slice_pushed old _ rows found c.in_ok-rows.rows refl refl
    (slice_count old rows c.requires.before c.requires.passing found c.requires.are_found c.requires.pushed c.requires.few)
    (ap (λ ns. numbered ns rows) c.in_ok-rows.ensures ∙ sym (drop-map (λ n. get_or rows n []) c.saturating_sub-skip.result found.rows)
    ∙ ap (λ k. drop k (numbered found.rows rows)) skip_is)
    c.in_ok-take.ensures
