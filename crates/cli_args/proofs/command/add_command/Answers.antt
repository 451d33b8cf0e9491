use Rattle.std.proofs.Common.{◌≡◌, ◌∙◌, Result, ap, subst}
use Rattle.std.proofs.lemmas.Result.{IfOk-weaker}
use Rattle.std.specs.declared.alloc.AllocError.{AllocError}
use Rattle.clap.specs.Words.{App, app_of, with_subcommand}
use Rattle.clap.specs.declared.builder.command.Command.{Command}
use Rattle.clap.proofs.SimpleLemmas.{plain_fields}
use Rattle.cli_args.specs.Command.{MakesCommand}
use Rattle.cli_args.proofs.command.add_command.Goals as goal

pub returns : goal.returns
returns c = record {
  app = λ app sub made inside plain.
      let Made : App → Result Command AllocError → Type 0 = λ a r. MakesCommand r a in
      let before : app_of c.in_ok-command.field-0 ≡ app = subst (Made app) c.in_ok-command.was made in
      let inner : app_of c.in_ok-inner.field-0 ≡ sub = subst (Made sub) c.in_ok-inner.was inside in
      let local = (plain_fields c.in_ok-inner.field-0 (ap (λ (a : App). a.top.is_plain) inner ∙ plain)).globals in
      IfOk-weaker c.subcommand.result _ (λ x. app_of x ≡ with_subcommand app sub.top)
      (λ x h. h.shape local ∙ (ap (λ (a : App). with_subcommand a (app_of c.in_ok-inner.field-0).top) before
      ∙ ap (λ (a : App). with_subcommand app a.top) inner)) c.subcommand.ensures;
}
