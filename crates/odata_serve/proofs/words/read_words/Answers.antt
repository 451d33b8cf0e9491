use Rattle.std.proofs.Common.{◌∙◌, subst, sym, List, Option}
use Rattle.clap.specs.Words.{Row, Text, app_of}
use Rattle.odata_serve.specs.Words.{SaysWords}
use Rattle.cli_args.specs.Words.{texts}
use Rattle.odata_serve.proofs.Readings.{fault_at, free_at, reading_at, simple_at, some_kind}
use Rattle.odata_serve.proofs.TakenWords.{taken_asks}
use Rattle.odata_serve.proofs.words.read_words.Goals as goal

pub returns-in-Some-clause-words : goal.returns-in-Some-clause-words
returns-in-Some-clause-words c =
    let e = c.in_ok-command.ensures.app in
    let whole = app_of c.in_ok-command.command in
    let line = texts c.args.words.now in
    let Read : Option (Text × List Row) → Type 0 = λ o. SaysWords c.in-Some.read o in (
      sym (fault_at whole line e) ∙ c.in-Ok.ensures.kinds (free_at whole e),
      subst Read ((c.in-Ok.ensures.matches (simple_at whole e)).1 ∙ reading_at whole line e) c.in-Some.ensures.some,
    )

pub returns-in-Ok-clause-usage : goal.returns-in-Ok-clause-usage
returns-in-Ok-clause-usage c = λ _ taken.
    let e = c.in_ok-command.ensures.app in
    let whole = app_of c.in_ok-command.command in
    let line = texts c.args.words.now in
    let asks = taken_asks line taken in
    let Read : Option (Text × List Row) → Type 0 = λ o. SaysWords asks.0 o in
    c.in-None.ensures.none asks.0 (subst Read (sym ((c.in-Ok.ensures.matches (simple_at whole e)).1 ∙ reading_at whole line e)) asks.1)

pub returns : goal.returns
returns c =
    let e = c.in_ok-command.ensures.app in
    let whole = app_of c.in_ok-command.command in
    let line = texts c.args.words.now in
    record {
      words = tt;
      usage = λ _ taken. some_kind c.kind.ensures c.in_default.not-OutOfMemory
          (c.in-Err.ensures.kinds (free_at whole e)) (fault_at whole line e ∙ taken);
    }
