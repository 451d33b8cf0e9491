use Rattle.std.proofs.Common.{length, ◌^◌, arith, sym, subst}
use Rattle.std.specs.Str.{IsCharBoundary}
use Rattle.std.proofs.lemmas.Result.{err_from_is_err_and}
use Rattle.csv_index.proofs.Mark.{mark_boundary}
use Rattle.csv_index.proofs.Tables.{index_of, text_fault, rise_wide}
use Rattle.csv_index.proofs.index.Index.of_reading.Goals as goal

pub of-requires-clause-boundary : goal.of-requires-clause-boundary
of-requires-clause-boundary c =
    subst (IsCharBoundary c.args.bytes.now) (sym c.mark_len-start.ensures.mark) (mark_boundary c.args.bytes.now c.requires.utf8)

pub returns-in_err-structure-clause-fault : goal.returns-in_err-structure-clause-fault
returns-in_err-structure-clause-fault c =
    let p = err_from_is_err_and c.from_residual.result c.from_residual.ensures.1 in
    rw (p.1, p.2) (text_fault c.args.bytes.now c.mark_len-start.result c.in_err-structure.field-0.0 c.requires.utf8
    c.mark_len-start.ensures.mark c.in_err-structure.ensures.fault)

pub invariant_of-result : goal.invariant_of-result
invariant_of-result c =
    let read = c.in_ok-structure.ensures.records.1 in record {
      ranked = c.in_ok-structure.ensures.ranked;
      room = read.room;
      rise = rise_wide _ (length c.args.bytes.now) (2 ^ 63) _ (omega arith) read.cuts.rise;
    }

pub returns-clause-table : goal.returns-clause-table
returns-clause-table c =
    index_of c.fields_stand_so.ensures c.args.bytes.now c.mark_len-start.result _ _ _ c.requires.utf8 c.mark_len-start.ensures.mark
    c.in_ok-structure.ensures.records c.in_default.is c.if-widths-eq0.false
