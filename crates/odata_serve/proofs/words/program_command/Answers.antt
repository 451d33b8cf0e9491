use Rattle.std.proofs.Common.{codes, ap, ap₂, ◌∙◌, ◌≡◌, true}
use Rattle.std.proofs.lemmas.Result.{IfOk-weaker}
use Rattle.clap.specs.Words.{App, app_of, with_subcommand}
use Rattle.clap.specs.Simple.{app_of_fields}
use Rattle.odata_serve.specs.Words.{top_app, program_app, folder_and_app}
use Rattle.odata_serve.proofs.words.program_command.Goals as goal

pub returns : goal.returns
returns c =
    let top : App → App = λ a. record { top = record a.top { disable_help_subcommand = true }; subs = a.subs } in
    let e0 : app_of c.disable_help_subcommand-top.result ≡ top_app = ap app_of_fields c.disable_help_subcommand-top.ensures ∙ ap top c.new.ensures.app in
    let e1 = c.in_ok-one.ensures.shape c.in_ok-folder_command.ensures.local ∙ ap₂ with_subcommand e0 (ap (λ (a : App). a.top) c.in_ok-folder_command.ensures.app) in
    let e2 = c.in_ok-two.ensures.app ∙ ap (λ (a : App). with_subcommand a (folder_and_app (codes "query") (codes "target")).top) e1 in
    let e3 = c.in_ok-three.ensures.app ∙ ap (λ (a : App). with_subcommand a (folder_and_app (codes "answer") (codes "file")).top) e2 in
    let e4 = c.in_ok-four.ensures.app ∙ ap (λ (a : App). with_subcommand a (folder_and_app (codes "replay") (codes "script")).top) e3 in
    record { app = IfOk-weaker c.subcommand-2.result _ (λ x. app_of x ≡ program_app) (λ x h. h.shape c.in_ok-serve_command.ensures.local ∙ ap₂ with_subcommand e4 (ap (λ (a : App). a.top) c.in_ok-serve_command.ensures.app)) c.subcommand-2.ensures }
