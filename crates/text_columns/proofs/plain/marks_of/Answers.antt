use Rattle.std.proofs.Common.{refl, arith, length-set}
use Rattle.text_columns.specs.contracts.plain.marks_of.{JSON-type}
use denote.Param.{number}
use Rattle.text_columns.proofs.PlainLemmas.{no_parts, part_marked, parts_more}
use Rattle.text_columns.proofs.plain.marks_of.Goals as goal
use Rattle.text_columns.proofs.plain.marks_of.Goals.{then-first-len, else-first-len}

pub loop-part-init : goal.loop-part-init
loop-part-init g c = record { long = refl; marked = no_parts (JSON-type (number g.row.JSON)) c.args.texts.now 64 }

pub loop-part-preserved : goal.loop-part-preserved
loop-part-preserved g c =
    let json = JSON-type (number g.row.JSON) in
    let cells = c.args.texts.now in
    let before = c.loop-part.invariant in
    elim c.if-first-len.branch [
      | then-first-len w ↦ rw w.marks-is (record {
        long = omega (arith, before.long, length-set c.loop-part.marks c.loop-part.part w.is_plain.result);
        marked = parts_more json cells c.loop-part.marks c.loop-part.part _ (omega (arith, before.long, c.loop-part-test.true)) before.marked
            (part_marked json cells w.bytes_of.result.now c.loop-part.part _ _ w.bytes_of.ensures (omega (arith, w.min-last.ensures, w.len-then-first-len.ensures, w.if-first-len.true, c.len.ensures)) w.is_plain.ensures);
      })
      | else-first-len w ↦ rw w.marks-is before
    ]
