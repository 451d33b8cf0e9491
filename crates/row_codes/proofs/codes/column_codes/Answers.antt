use Rattle.std.proofs.Common.{length, subst, ap, arith}
use Rattle.std.proofs.lemmas.Slice.Zip.{AllZip-long}
use Rattle.row_columns.specs.Codes.{HaveCodes}
use Rattle.row_codes.specs.Codes.{HaveTextCodes}
use Rattle.row_codes.proofs.CodeLemmas.{number-codes-made, text-codes}
use Rattle.row_codes.proofs.codes.column_codes.Goals as goal

pub text_codes-requires : goal.text_codes-requires
text_codes-requires c =
    let have : HaveCodes c.in-Some.texts.items c.args.place c.args.columns.now.rows = rw c.in-Some.is at c.in_ok-texts.ensures in
    λ k d h. omega (arith, c.requires.within k d h, AllZip-long _ c.args.columns.now.rows c.in-Some.texts.items have.1, ap length c.deref.ensures.value)

pub returns-in-Some : goal.returns-in-Some
returns-in-Some c =
    let have : HaveCodes c.in-Some.texts.items c.args.place c.args.columns.now.rows = rw c.in-Some.is at c.in_ok-texts.ensures in
    text-codes c.args.place c.args.numbers.now c.args.columns.now.rows c.in-Some.texts.items c.in_ok-codes.codes c.requires.within have
    (subst (λ texts. HaveTextCodes texts c.args.numbers.now c.in_ok-codes.codes) c.deref.ensures.value c.in_ok-codes.ensures)

pub returns : goal.returns
returns c =
    let column = c.in-Some-packed.column.now in
    number-codes-made c.args.place c.args.numbers.now c.args.columns.now.rows column _ c.number_codes.result (record { column = c.in-Some-packed.ensures; typed = c.kind-kind.ensures }) c.number_codes.ensures
