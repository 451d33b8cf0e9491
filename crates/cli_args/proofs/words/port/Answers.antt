use Rattle.std.proofs.Common.{codes, Option, subst}
use Rattle.std.specs.Str.Parse.{ParsesUnsigned, ExplainsUnsignedError, HasUnsignedDigitsIfOk}
use Rattle.clap.specs.Words.{Text, found_of, one_text}
use Rattle.clap.proofs.WalkLemmas.{one_text-rows}
use Rattle.cli_args.specs.Words.{ReadsNumberOfBits}
use Rattle.cli_args.proofs.Numbers.{reads_number}
use Rattle.cli_args.proofs.words.port.Goals as goal

pub returns : goal.returns
returns c =
    let f = found_of c.args.matches.now in
    let Read : Option Text → Type 0 = λ o. ReadsNumberOfBits 16 o c.get_one.result in
    subst Read (one_text-rows f (codes "port")) (reads_number 16
    (λ bs r. ParsesUnsigned 16 10 bs r × ExplainsUnsignedError 10 bs r × HasUnsignedDigitsIfOk bs r)
    (λ bs r g. g.0) (one_text f (codes "port")) c.get_one.result c.get_one.ensures.none c.get_one.ensures.value)
