-- Where the service listens, and what it says if it can't.
use Rattle.std.specs.Prelude.{◌≡◌, ℕ, true, false, List, Some, None, ◌++◌, codes}
use Rattle.std.specs.Fmt.{decimal}
use Rattle.std.specs.Net.Grammar.{IsIpText}
use Rattle.listen_args.specs.declared.listens.Listens.{Listens}
use Rattle.listen_args.specs.declared.listens.Listens.TheVariants.{Port, Unix, Stdin}
use Rattle.listen_args.specs.declared.listens.Obstacle.{Obstacle}
use Rattle.listen_args.specs.declared.listens.Obstacle.TheVariants.{Taken, Foreign, Forbidden, Other}
use Rattle.listen_args.specs.declared.words.ListenOptions.{ListenOptions}

-- the options ask to listen there, and nowhere else
abbrev pub AsksToListen : ListenOptions → Listens → Type 0
AsksToListen words (Port text address port) =
    (words.port ≡ Some port) × (words.unix ≡ None) × (words.socket_stdin ≡ false) × (text ≡ words.address) × IsIpText words.address.now address
AsksToListen words (Unix path) = (words.port ≡ None) × (words.unix ≡ Some path) × (words.socket_stdin ≡ false)
AsksToListen words Stdin = (words.port ≡ None) × (words.unix ≡ None) × (words.socket_stdin ≡ true)

-- the name of a place
abbrev pub listens_text : Listens → List ℕ
listens_text (Port text address port) = (codes "port " ++ decimal port ++ codes " of ") ++ text.now
listens_text (Unix path) = path.now
listens_text Stdin = codes "standard input"

-- why a place can't be taken
abbrev pub obstacle_text : Obstacle → List ℕ
obstacle_text Taken = codes "is taken"
obstacle_text Foreign = codes "is not of this machine"
obstacle_text Forbidden = codes "may not be taken"
obstacle_text Other = codes "can't be listened on"

abbrev pub unserved_text : Listens → Obstacle → List ℕ
unserved_text at obstacle = ((codes "not served: " ++ listens_text at) ++ codes " ") ++ obstacle_text obstacle
