use Rattle.std.proofs.Common.{Bool, rules, subst, sym}
use Rattle.std.proofs.Math.Bool.{not-not}
use Rattle.std.specs.Prelude.{codes}
use Rattle.clap.specs.Words.{found_of, one_of, rows_of}
use Rattle.cli_args.specs.Words.{HasFlag}
use Rattle.draft_args.proofs.words.draft_asked.Goals as goal

pub returns-in-Some-clause-words : goal.returns-in-Some-clause-words
returns-in-Some-clause-words c =
    let Has : Bool → Type 0 = λ b. HasFlag (one_of (codes "no-key") (rows_of (found_of c.args.matches.now))) b in record {
      folder_is = search rules;
      write_is = c.flag-write.ensures;
      keys_are = subst Has (sym (not-not c.flag-no_key.result)) c.flag-no_key.ensures;
      skip_is = c.flag-skip.ensures;
      add_is = c.flag-add.ensures;
    }
