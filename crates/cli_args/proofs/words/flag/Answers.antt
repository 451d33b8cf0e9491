use Rattle.std.proofs.Common.{Option, subst}
use Rattle.clap.specs.Words.{Text, found_of, one_text}
use Rattle.clap.proofs.WalkLemmas.{one_text-rows}
use Rattle.cli_args.specs.Words.{HasFlag}
use Rattle.cli_args.proofs.FaultLemmas.{has_flag}
use Rattle.cli_args.proofs.words.flag.Goals as goal

pub returns : goal.returns
returns c =
    let f = found_of c.args.matches.now in
    let Has : Option Text → Type 0 = λ o. HasFlag o c.get_flag.result in
    subst Has (one_text-rows f c.args.id.now)
    (has_flag (one_text f c.args.id.now) c.get_flag.result c.get_flag.ensures.none c.get_flag.ensures.value c.get_flag.ensures.other)
