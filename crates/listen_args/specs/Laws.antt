-- The numbers of the service's command line: what holds where an option is left out, and the most connections.
use Rattle.std.specs.Prelude.{◌≡◌, codes}
use Rattle.listen_args.specs.declared.words.TheConstants.{ADDRESS, HEAD_SECONDS, IDLE_SECONDS, MOST_PLACES, PLACES, QUERY_SECONDS, REPLY_SECONDS}

pub record ListenSizes : Type 0 where
  pub address : ADDRESS.now ≡ codes "127.0.0.1"
  pub places : PLACES ≡ 64
  pub most_places : MOST_PLACES ≡ 1_024
  pub head_seconds : HEAD_SECONDS ≡ 30
  pub idle_seconds : IDLE_SECONDS ≡ 60
  pub query_seconds : QUERY_SECONDS ≡ 30
  pub reply_seconds : REPLY_SECONDS ≡ 3_600
