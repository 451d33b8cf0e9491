use Rattle.odata_http.proofs.ReplyLemmas.{five_written}
use Rattle.odata_http.proofs.reply.push_status_line.Goals as goal

pub returns : goal.returns
returns c =
    let number = rw c.from.ensures at c.in_ok-push_number.ensures.bytes in
    let phrase = rw (c.as_bytes.ensures.value, c.phrase_of.ensures) at c.in_ok-extend_from_slice-3.ensures.items in
    five_written _ _ _ _ _ _ _ _ _ _ _ _ c.in_ok-extend_from_slice.ensures.items number c.in_ok-extend_from_slice-2.ensures.items phrase c.extend_from_slice-4.ensures.items
