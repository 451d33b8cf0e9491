use Rattle.event_scripts.proofs.WordLemmas.{piece_bad}
use Rattle.event_scripts.proofs.command.read_piece.Goals as goal

pub returns-in_default : goal.returns-in_default
returns-in_default c = λ _ h. c.in_default.ensures h.0 h.2 h.4

pub returns-in-Err : goal.returns-in-Err
returns-in-Err c = piece_bad c.args.text.now c.in-Some.place c.in-Some.rest.now c.in-Some.ensures c.in-Err.fault c.in-Err.ensures
