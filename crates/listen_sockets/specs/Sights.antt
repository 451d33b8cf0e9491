-- What rounds see of a server.
use Rattle.odata_rounds.specs.Sights.{SightOf, sight}
use Rattle.listen_sockets.specs.declared.server.Server.{Server}
use Rattle.listen_sockets.specs.Sockets.{wire_at}

abbrev pub sight_of : Server → SightOf
sight_of server = sight server.hub server.slots.items (wire_at server.sockets.wires.items)
