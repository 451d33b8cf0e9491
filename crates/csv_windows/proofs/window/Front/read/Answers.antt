use Rattle.std.proofs.Common.{◌≡◌, ◌+◌, ◌++◌, ◌≤◌, length, take, drop, IfSome, ap, subst, arith}
use Rattle.std.proofs.lemmas.Result.{IfErr-weaker, IfOk-weaker}
use Rattle.csv_grammar.specs.Files.{IsFileFault}
use Rattle.csv_index.specs.Fault.{text_cause}
use Rattle.csv_windows.proofs.PieceLemmas.{cut_break, ends_in_feed, fault_follows, line_room, piece_follows, reads_joined, reads_lasting, table_follows, whole_file}
use Rattle.csv_windows.proofs.window.Front.read.Goals as goal

pub window_file-requires : goal.window_file-requires
window_file-requires c =
    let r = c.requires in
    let n = c.lines_len-cut.result in
    omega (arith, line_room r.0 (take n c.args.window.now) c.args.self.lines (piece_follows r.0 c.args.window.now n c.args.self r.1), c.line_width.ensures)

pub fault-requires : goal.fault-requires
fault-requires c =
    let r = c.requires in
    let n = c.lines_len-cut.result in
    let piece = take n c.args.window.now in
    let f = piece_follows r.0 c.args.window.now n c.args.self r.1 in (
      r.0,
      piece,
      r.1.begins.size,
      fault_follows r.0 piece c.args.self.lines c.in-Err.fault c.in_ok-file.file.items c.line_width.result f c.in_ok-file.ensures c.line_width.ensures c.in-Err.ensures.fault,
    )

pub returns-in-Ok-clause-reads : goal.returns-in-Ok-clause-reads
returns-in-Ok-clause-reads c = λ bytes at.
    let n = c.lines_len-cut.result in
    let window = c.args.window.now in
    let f = piece_follows bytes window n c.args.self at in
    let table =
    table_follows bytes (take n window) c.args.self.lines c.in-Ok.file c.in_ok-file.file.items c.line_width.result f c.in_ok-file.ensures c.line_width.ensures c.in-Ok.ensures.table in
    reads_joined bytes window n (c.args.self.len + n) c.args.self.lines c.joined.result c.lines_len-cut.ensures.within
    (cut_break window n c.lines_len-cut.ensures c.if-cut-eq0.false) (ap (λ k. k + n) at.begins.size) (c.joined.ensures bytes (take n window) table)

pub returns-else-is_open-clause-reads : goal.returns-else-is_open-clause-reads
returns-else-is_open-clause-reads c =
    let n = c.lines_len-cut.result in
    let window = c.args.window.now in
    IfOk-weaker c.faulty.result _ _
    (λ piece lasting bytes at.
    let f = piece_follows bytes window n c.args.self at in
    let bad =
    fault_follows bytes (take n window) c.args.self.lines c.in-Err.fault c.in_ok-file.file.items c.line_width.result f c.in_ok-file.ensures c.line_width.ensures c.in-Err.ensures.fault in
    reads_lasting bytes window n (c.args.self.len + n) c.args.self.lines piece c.lines_len-cut.ensures.within (cut_break window n c.lines_len-cut.ensures c.if-cut-eq0.false)
    (ap (λ k. k + n) at.begins.size)
    (lasting (bytes ++ take n window) (c.fault.ensures.is bytes (take n window) at.begins.size bad)
    (c.fault.ensures.lasts bytes (take n window) at.begins.size bad (c.is_open.ensures c.if-is_open.false))))
    c.faulty.ensures.piece

pub returns-else-is_open-clause-fault : goal.returns-else-is_open-clause-fault
returns-else-is_open-clause-fault c =
    let n = c.lines_len-cut.result in
    let window = c.args.window.now in
    IfErr-weaker c.faulty.result _ _
    (λ e refuses bytes more at.
    let f = piece_follows bytes window n c.args.self at in
    let bad =
    fault_follows bytes (take n window) c.args.self.lines c.in-Err.fault c.in_ok-file.file.items c.line_width.result f c.in_ok-file.ensures c.line_width.ensures c.in-Err.ensures.fault in
    subst (λ w. IfSome (text_cause e) (IsFileFault w)) (whole_file bytes window more n)
    (refuses (bytes ++ take n window) (drop n window ++ more) (c.fault.ensures.is bytes (take n window) at.begins.size bad)
    (ends_in_feed bytes window n c.lines_len-cut.ensures.within (cut_break window n c.lines_len-cut.ensures c.if-cut-eq0.false))))
    c.faulty.ensures.fault
