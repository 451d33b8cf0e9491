-- What `clap` says of the program's command.
use Rattle.std.proofs.Common.{◌≡◌, refl, true}
use Rattle.clap.specs.Words.{is_simple_and_free}
use Rattle.clap.proofs.OnLiterals.{clap_on_literals}
use Rattle.listen_args.specs.ListenOptions.{listen_app}

pub is_free : is_simple_and_free listen_app ≡ true
unfolding clap_on_literals
is_free = refl
