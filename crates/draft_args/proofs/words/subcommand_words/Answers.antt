use Rattle.std.proofs.Common.{◌≡◌, ◌∙◌, Some, ap, false, refl, rules, sym, true}
use Rattle.std.specs.Prelude.{codes}
use Rattle.clap.specs.Words.{first_of, found_of, rows_of}
use Rattle.draft_args.proofs.WordLemmas.{are_present, not_alone}
use Rattle.draft_args.proofs.words.subcommand_words.Goals as goal

pub returns-then-args_present-clause-fault : goal.returns-then-args_present-clause-fault
returns-then-args_present-clause-fault c = (
  refl,
  not_alone (rows_of (found_of c.args.matches.now)) c.args.name.now (rows_of (found_of c.args.inner.now))
      (are_present (found_of c.args.matches.now) c.args_present.result true c.args_present.ensures c.if-args_present.true),
)

pub returns-in-show-clause-words : goal.returns-in-show-clause-words
returns-in-show-clause-words c = record {
  alone = are_present (found_of c.args.matches.now) c.args_present.result false c.args_present.ensures c.if-args_present.false;
  name_is = search rules;
  folder_is = search rules;
}

pub returns-in-explain-clause-words : goal.returns-in-explain-clause-words
returns-in-explain-clause-words c = record {
  alone = are_present (found_of c.args.matches.now) c.args_present.result false c.args_present.ensures c.if-args_present.false;
  name_is = search rules;
  folder_is = search rules;
}

pub returns-in-Some-conversion_of-clause-words : goal.returns-in-Some-conversion_of-clause-words
returns-in-Some-conversion_of-clause-words c =
    let asks = c.in-Some-conversion_of.ensures.some in
    let folder : first_of (codes "folder") (rows_of (found_of c.args.inner.now)) ≡ Some c.in-Some.folder.now = search rules in record {
      over = record {
        alone = are_present (found_of c.args.matches.now) c.args_present.result false c.args_present.ensures c.if-args_present.false;
        name_is = search rules;
        folder_is = folder ∙ ap Some (sym asks.0);
      };
      options = asks.1;
    }
