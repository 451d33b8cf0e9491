use Rattle.reply_text.proofs.PieceLemmas.{body_is_pieces}
use Rattle.reply_text.proofs.laws.pieces_are_bodies.Goals as goal

pub returns : goal.returns
returns c = body_is_pieces
