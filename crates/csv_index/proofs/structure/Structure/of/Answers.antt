-- The text is read whole, and may end where it ends.
use Rattle.std.proofs.Common.{◌≡◌, ◌+◌, ◌*◌, ◌<◌, ◌≤◌, ◌^◌, length, length-drop, take, drop, true, false, ap, ◌∙◌, subst, arith}
use Rattle.std.specs.Bool.{then_some}
use Rattle.std.specs.Vec.{vec_len}
use Rattle.std.proofs.lemmas.List.{take_all}
use Rattle.csv_grammar.specs.Records.{AreRecords}
use Rattle.csv_index.proofs.ReadingLemmas.{read_counts}
use Rattle.csv_index.proofs.StructureLemmas.{reads_as, reads_by, tells_end}
use Rattle.csv_index.proofs.structure.Structure.of.Goals.{then-unended, else-unended}
use Rattle.csv_index.proofs.structure.Structure.of.Goals as goal

pub end_record-requires-clause-start : goal.end_record-requires-clause-start
end_record-requires-clause-start c = (read_counts c.one_structure.ensures (drop c.args.mark c.args.file.now) _ _ _ _ _ c.requires.reads.read).start

pub end_record-requires-clause-at : goal.end_record-requires-clause-at
end_record-requires-clause-at c =
    let m = read_counts c.one_structure.ensures (drop c.args.mark c.args.file.now) _ _ _ _ _ c.requires.reads.read in
    omega (arith, m.places, length-drop c.args.mark c.args.file.now)

pub end_record-requires-clause-records : goal.end_record-requires-clause-records
end_record-requires-clause-records c =
    let m = read_counts c.one_structure.ensures (drop c.args.mark c.args.file.now) _ _ _ _ _ c.requires.reads.read in
    omega (arith, m.records, length-drop c.args.mark c.args.file.now)

pub returns-in_default-clause-fault : goal.returns-in_default-clause-fault
returns-in_default-clause-fault c =
    let text = drop c.args.mark c.args.file.now in
    let n = vec_len c.args.reading.blocks.masks in
    let all : length text ≤ 64 * n = omega (arith, c.requires.over) in
    let read = c.requires.reads.read in
    tells_end c.args.file.now c.args.mark n c.requires.within all (c.in_default.ensures (take (64 * n) text) read.carried read.viable)

pub returns-clause-records : goal.returns-clause-records
returns-clause-records c =
    let file = c.args.file.now in
    let text = drop c.args.mark file in
    let reading = c.args.reading in
    let n = vec_len reading.blocks.masks in
    let read = c.requires.reads.read in
    let all : length text ≤ 64 * n = omega (arith, c.requires.over) in
    let whole : take (64 * n) text ≡ text = take_all (64 * n) text all in
    let end = c.in-Ok.ensures (take (64 * n) text) read.carried read.viable in
    let room : c.args.mark + 64 * n + 64 < 2 ^ 64 = omega (arith, c.requires.reads.within, c.requires.within, length-drop c.args.mark file) in
    let end_as = reads_as c.one_structure.ensures file c.args.mark n reading.carry reading.blocks.masks.items reading.widths reading.unended c.requires.utf8 c.requires.within c.requires.boundary
    read all room (end.0, subst (λ t. AreRecords t end.0) whole end.1) in
    elim c.if-unended.branch [
      | then-unended w ↦ (
        end_as.0,
        reads_by file c.args.mark end_as.0 reading.blocks.masks.items c.then_some.result reading.widths c.if-unended.widths reading.unended true w.if-unended.true end_as.1
            (c.then_some.ensures ∙ ap (λ t. then_some t (length file)) w.if-unended.true) (w.widths-is ∙ w.end_record.ensures),
      )
      | else-unended w ↦ (
        end_as.0,
        reads_by file c.args.mark end_as.0 reading.blocks.masks.items c.then_some.result reading.widths c.if-unended.widths reading.unended false w.if-unended.false end_as.1
            (c.then_some.ensures ∙ ap (λ t. then_some t (length file)) w.if-unended.false) w.widths-is,
      )
    ]
