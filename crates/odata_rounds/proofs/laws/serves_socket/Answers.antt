use Rattle.odata_rounds.proofs.LawLemmas.{serves_socket}
use Rattle.odata_rounds.proofs.laws.serves_socket.Goals as goal

pub returns : goal.returns
returns c = serves_socket c.gives_replies.ensures
