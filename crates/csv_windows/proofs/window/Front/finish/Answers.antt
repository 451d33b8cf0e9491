use Rattle.std.proofs.Common.{◌≡◌, ◌+◌, ◌≤◌, length, arith}
use Rattle.csv_windows.proofs.PieceLemmas.{fault_follows, line_room, rest_follows}
use Rattle.csv_windows.proofs.window.Front.finish.Goals as goal

pub window_file-requires : goal.window_file-requires
window_file-requires c =
    let r = c.requires in
    omega (arith, line_room r.0 c.args.rest.now c.args.self.lines (rest_follows r.0 c.args.rest.now c.args.self r.1), c.line_width.ensures)

pub fault-requires : goal.fault-requires
fault-requires c =
    let r = c.requires in
    let f = rest_follows r.0 c.args.rest.now c.args.self r.1 in (
      r.0,
      c.args.rest.now,
      r.1.begins.size,
      fault_follows r.0 c.args.rest.now c.args.self.lines c.in-Err.fault c.in_ok-file.file.items c.line_width.result f c.in_ok-file.ensures c.line_width.ensures c.in-Err.ensures.fault,
    )
