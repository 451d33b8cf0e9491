use Rattle.std.proofs.Common.{length, sym, ap, subst, ◌∙◌, refl}
use Rattle.query_meaning.specs.Fitting.{AreSummable}
use Rattle.row_codes.specs.Kept.{IsKeptAs}
use Rattle.aggregate_rows.specs.Sums.{sum_of}
use Rattle.aggregate_rows.proofs.KeptLemmas.{part_numbers, whole_numbers}
use Rattle.aggregate_rows.proofs.kept.sum_of_rows.Goals as goal

pub part_sum-requires : goal.part_sum-requires
part_sum-requires c =
    let rows = c.args.columns.now.rows in
    let column = c.in-Some.column.now in
    let kept : IsKeptAs c.args.kind c.args.place rows column = rw c.in-Some.is at c.kept_column.ensures in
    subst (λ ns. AreSummable ns (length c.args.numbers.now)) (part_numbers c.args.kind c.args.place rows column kept c.args.numbers.now) c.requires.fits

pub returns-then-are_all : goal.returns-then-are_all
returns-then-are_all c =
    let rows = c.args.columns.now.rows in
    let column = c.in-Some.column.now in
    let kept : IsKeptAs c.args.kind c.args.place rows column = rw c.in-Some.is at c.kept_column.ensures in
    rw (c.whole_sum.ensures c.args.kind kept.typed, c.are_all.ensures c.if-are_all.true rows (sym c.len.ensures), whole_numbers c.args.kind c.args.place rows column kept) refl

pub returns : goal.returns
returns c =
    let rows = c.args.columns.now.rows in
    let column = c.in-Some.column.now in
    let kept : IsKeptAs c.args.kind c.args.place rows column = rw c.in-Some.is at c.kept_column.ensures in
    c.part_sum.ensures ∙ ap sum_of (sym (part_numbers c.args.kind c.args.place rows column kept c.args.numbers.now))
