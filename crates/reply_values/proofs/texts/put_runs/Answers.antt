use Rattle.std.proofs.Common.{length, ap, arith}
use Rattle.std.specs.List.{flat_map}
use Rattle.std.proofs.lemmas.List.{nil_from_length}
use Rattle.reply_values.specs.Printed.{printed_byte}
use Rattle.reply_values.proofs.RunLemmas.{byte_counted, run_counted, write_last, write_more}
use Rattle.reply_values.specs.contracts.texts.put_runs.{JSON-type}
use denote.Param.{number}
use Rattle.reply_values.specs.Printed.{needs_more}
use Rattle.reply_values.proofs.BlockLemmas.{first_within}
use Rattle.reply_values.proofs.texts.put_runs.Goals as goal

pub split_at-requires : goal.split_at-requires
split_at-requires g c = omega (arith, c.run_len.ensures, first_within (needs_more (JSON-type (number g.row.JSON))) c.loop-byte.rest.now)

pub put_piece-end-requires : goal.put_piece-end-requires
put_piece-end-requires g c =
    let counted = run_counted (JSON-type (number g.row.JSON)) _ _ _ _ c.run_len.ensures c.split_at.ensures.front c.split_at.ensures.back in
    omega (arith, c.requires, c.loop-byte.invariant.0, c.loop-byte.invariant.1.1, counted)

pub returns-in_default : goal.returns-in_default
returns-in_default g c =
    let counted = run_counted (JSON-type (number g.row.JSON)) _ _ _ _ c.run_len.ensures c.split_at.ensures.front c.split_at.ensures.back in
    let none = ap (λ l. length (flat_map (printed_byte (JSON-type (number g.row.JSON))) l)) (nil_from_length c.split_at.result.1.now c.in_default.ensures.cases) in
    record {
      long = omega (arith, c.loop-byte.invariant.0, c.put_piece-end.ensures.long);
      bytes = write_last (JSON-type (number g.row.JSON)) _ _ _ _ _ _ _ c.run_len.ensures c.split_at.ensures.front c.split_at.ensures.back c.loop-byte.invariant.1.0 c.in_default.ensures.cases c.put_piece-end.ensures.bytes;
      end = omega (arith, c.put_piece-end.ensures.end, c.loop-byte.invariant.1.1, counted, none);
    }

pub put_escaped-end-requires : goal.put_escaped-end-requires
put_escaped-end-requires g c =
    let counted = byte_counted (JSON-type (number g.row.JSON)) _ _ _ _ _ _ c.run_len.ensures c.split_at.ensures.front c.split_at.ensures.back c.in-Some.ensures.cases.0 in
    omega (arith, c.requires, c.loop-byte.invariant.0, c.loop-byte.invariant.1.1, counted, c.put_piece-end.ensures.long, c.put_piece-end.ensures.end)

pub loop-byte-preserved : goal.loop-byte-preserved
loop-byte-preserved g c =
    let counted = byte_counted (JSON-type (number g.row.JSON)) _ _ _ _ _ _ c.run_len.ensures c.split_at.ensures.front c.split_at.ensures.back c.in-Some.ensures.cases.0 in (
      omega (arith, c.loop-byte.invariant.0, c.put_piece-end.ensures.long, c.put_escaped-end.ensures.long),
      (
        write_more (JSON-type (number g.row.JSON)) _ _ _ _ _ _ _ _ _ _ c.run_len.ensures c.split_at.ensures.front c.split_at.ensures.back c.loop-byte.invariant.1.0 c.in-Some.ensures.cases.0 c.put_piece-end.ensures.bytes c.put_escaped-end.ensures.bytes,
        omega (arith, c.loop-byte.invariant.1.1, counted, c.put_piece-end.ensures.end, c.put_escaped-end.ensures.end),
      ),
    )
