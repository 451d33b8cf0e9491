-- The reader's clauses, and the test of the length, are the cases of `document`.
use Rattle.std.proofs.Common.{refl}
use Rattle.std.proofs.lemmas.Bool.{false≢true}
use Rattle.csvw_meta.proofs.DocumentLemmas.{document-long, document-none, document-read}
use Rattle.csvw_meta.proofs.document.read_document.Goals as goal

pub returns-then-bytes-gt-MOST_METADATA_BYTES-clause-fault : goal.returns-then-bytes-gt-MOST_METADATA_BYTES-clause-fault
returns-then-bytes-gt-MOST_METADATA_BYTES-clause-fault c = (refl, document-long _ c.if-bytes-gt-MOST_METADATA_BYTES.true)

pub returns-in-Ok-clause-value : goal.returns-in-Ok-clause-value
returns-in-Ok-clause-value c =
    let ok = rw c.text.ensures at c.in-Ok.ensures.ok in
    document-read _ _ c.if-bytes-gt-MOST_METADATA_BYTES.false ok.0 ok.1

pub returns-else-is_memory-clause-fault : goal.returns-else-is_memory-clause-fault
returns-else-is_memory-clause-fault c =
    let err = rw c.text.ensures at (c.in-Err.ensures.err (λ m. false≢true (c.if-is_memory.ensures.1 m))) in
    (refl, document-none _ err)
