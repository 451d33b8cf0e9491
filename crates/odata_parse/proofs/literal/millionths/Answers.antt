use Rattle.std.proofs.Common.{length}
use Rattle.odata_parse.specs.Literal.{fraction_of}
use Rattle.odata_parse.proofs.DecimalLemmas.{parts_of, halves, some_half, scale_small, whole_fits, fraction_fits, joined_fits, joined_is}
use Rattle.odata_parse.proofs.literal.millionths.Goals as goal

pub unwrap-requires : goal.unwrap-requires
unwrap-requires c = some_half c.args.text.now c.split_once.result c.requires c.split_once.ensures.cases

pub overflow_sub-fraction : goal.overflow_sub-fraction
overflow_sub-fraction c =
    let h = halves c.args.text.now c.unwrap.result (rw c.unwrap.ensures at c.split_once.ensures.cases) in
    rw h.behind (parts_of c.args.text.now c.requires).fraction_short

pub number-requires : goal.number-requires
number-requires c =
    let h = halves c.args.text.now c.unwrap.result (rw c.unwrap.ensures at c.split_once.ensures.cases) in
    rw h.before (parts_of c.args.text.now c.requires).whole_number

pub number-requires-2 : goal.number-requires-2
number-requires-2 c =
    let h = halves c.args.text.now c.unwrap.result (rw c.unwrap.ensures at c.split_once.ensures.cases) in
    rw h.behind (parts_of c.args.text.now c.requires).fraction_number

pub overflow_mul-result : goal.overflow_mul-result
overflow_mul-result c =
    let h = halves c.args.text.now c.unwrap.result (rw c.unwrap.ensures at c.split_once.ensures.cases) in
    whole_fits _ _ (record { is = rw h.before at c.number.ensures; small = (parts_of c.args.text.now c.requires).whole_small })

pub overflow_mul-result-2 : goal.overflow_mul-result-2
overflow_mul-result-2 c =
    let h = halves c.args.text.now c.unwrap.result (rw c.unwrap.ensures at c.split_once.ensures.cases) in
    let p = parts_of c.args.text.now c.requires in
    fraction_fits _ c.pow-scale.result _ _ (record { is = rw h.behind at c.number-2.ensures; scale = c.from.ensures; small = p.fraction_small; scale_small = rw c.pow-scale.ensures (scale_small (length c.unwrap.result.1.now)) })

pub overflow_add-result : goal.overflow_add-result
overflow_add-result c =
    let h = halves c.args.text.now c.unwrap.result (rw c.unwrap.ensures at c.split_once.ensures.cases) in
    let p = parts_of c.args.text.now c.requires in
    joined_fits _ _ c.pow-scale.result _ _ _
    (record { is = rw h.before at c.number.ensures; small = p.whole_small })
    (record { is = rw h.behind at c.number-2.ensures; scale = c.from.ensures; small = p.fraction_small; scale_small = rw c.pow-scale.ensures (scale_small (length c.unwrap.result.1.now)) })

pub returns : goal.returns
returns c =
    let h = halves c.args.text.now c.unwrap.result (rw c.unwrap.ensures at c.split_once.ensures.cases) in
    let p = parts_of c.args.text.now c.requires in
    joined_is _ _ _ _ _ _
    (record { is = rw h.before at c.number.ensures; small = p.whole_small })
    (record { is = rw h.behind at c.number-2.ensures; scale = rw (c.pow-scale.ensures, h.behind) at c.from.ensures; small = p.fraction_small; scale_small = scale_small (length (fraction_of c.args.text.now)) })
