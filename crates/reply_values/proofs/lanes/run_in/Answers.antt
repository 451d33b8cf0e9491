use Rattle.std.proofs.Common.{◌≡◌, refl, true, false, drop, take, sym, subst}
use Rattle.std.specs.List.{position_or_len}
use Rattle.std.specs.Simd.Lanes.{chunk}
use Rattle.std.proofs.lemmas.Simd.{length-chunk, zip2_of_maps, zip2_splat}
use Rattle.reply_values.specs.Printed.{needs_more}
use Rattle.reply_values.proofs.LaneLemmas.{first_in_block, is_set}
use Rattle.reply_values.proofs.lanes.run_in.Goals as goal

pub returns-then-this-ne0 : goal.returns-then-this-ne0
returns-then-this-ne0 o c =
    let block = chunk c.args.at o.row.N c.args.text.now in
    let long = length-chunk c.args.at o.row.N c.args.text.now c.requires.room in
    subst (λ json. c.first_set.result ≡ position_or_len (needs_more json) (take o.row.N (drop c.args.at c.args.text.now))) (sym (is_set o.row.JSON c.if-this-ne0.true))
    (first_in_block (needs_more true) c.args.text.now c.args.at o.row.N _ _ _ c.requires.most c.requires.room c.type_inv.text
    (zip2_of_maps _ _ _ block (zip2_splat _ block o.row.N 34 long) (zip2_of_maps _ _ _ block (zip2_splat _ block o.row.N 92 long) (zip2_splat _ block o.row.N 32 long))) refl c.first_set.ensures)

pub returns-else-this-ne0 : goal.returns-else-this-ne0
returns-else-this-ne0 o c =
    let block = chunk c.args.at o.row.N c.args.text.now in
    let long = length-chunk c.args.at o.row.N c.args.text.now c.requires.room in
    rw c.if-this-ne0.false (first_in_block (needs_more false) c.args.text.now c.args.at o.row.N _ _ _ c.requires.most c.requires.room c.type_inv.text
    (zip2_of_maps _ _ _ block (zip2_splat _ block o.row.N 34 long)
    (zip2_of_maps _ _ _ block (zip2_splat _ block o.row.N 44 long) (zip2_of_maps _ _ _ block (zip2_splat _ block o.row.N 13 long) (zip2_splat _ block o.row.N 10 long)))) refl c.first_set-else-this-ne0.ensures)
