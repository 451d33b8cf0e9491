use Rattle.std.proofs.Common.{ℕ, List, ◌++◌, subst}
use Rattle.csv_records.specs.Lines.{FeedsText}
use Rattle.text_encodings.specs.Decoders.{AddsText, IsDecoded}
use Rattle.text_encodings.specs.Encodings.{IsTextIn}
use Rattle.file_convert.proofs.SourceLemmas.{read_end}
use Rattle.file_convert.proofs.source.FileText.end.Goals as goal

pub returns : goal.returns
returns c = λ encoding given gone read.
    let self = c.args.self in
    let made = c.end.new.out.items in
    let feeds = c.read.new.self in
    let held = c.read.new.out.items in
    let R : List ℕ → Type 0 =
    λ l. (given text : List ℕ) → IsDecoded self.decoder given text → AddsText l made (λ part. IsTextIn self.decoder.encoding given (text ++ part)) in
    let F : List ℕ → Type 0 = λ l. FeedsText self.feeds feeds l self.held.items held in (
      read.encoding_is,
      read_end encoding given gone made held c.end-2.new.out.items self feeds read (subst R c.new-text.ensures.items c.in_ok-end.ensures)
          (subst F c.as_slice.ensures.value c.in_ok-read.ensures) c.in_ok-returns.ensures,
    )
