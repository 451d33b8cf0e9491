use Rattle.std.proofs.Common.{◌≡◌, arith, length}
use Rattle.hub_scripts.proofs.TakeLemmas.{gives_line, refuses_line}
use Rattle.hub_scripts.proofs.answers.take_line.Goals as goal

pub returns-in-Ok : goal.returns-in-Ok
returns-in-Ok c =
    let all : length c.as_mut_slice-out.result.now ≡ c.args.room = omega (arith, c.in_ok-bytes.ensures.len) in
    gives_line c.args.place _ c.args.room _ _ c.split_at.result.0.now _ c.bytes_line.result all c.split_at.ensures.front c.in-Ok.ensures.step c.bytes_line.ensures

pub returns : goal.returns
returns c =
    let all : length c.as_mut_slice-out.result.now ≡ c.args.room = omega (arith, c.in_ok-bytes.ensures.len) in
    refuses_line c.args.place _ c.args.room _ _ c.in-Err.fault c.refused_line.result all c.in-Err.ensures.step c.refused_line.ensures
