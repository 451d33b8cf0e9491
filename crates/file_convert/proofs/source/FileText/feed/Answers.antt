use Rattle.std.proofs.Common.{ℕ, List, ◌++◌, subst}
use Rattle.csv_records.specs.Lines.{FeedsText}
use Rattle.text_encodings.specs.Decoders.{AddsText, IsDecoded}
use Rattle.file_convert.proofs.SourceLemmas.{read_more}
use Rattle.file_convert.proofs.source.FileText.feed.Goals as goal

pub returns : goal.returns
returns c = λ encoding given gone read.
    let self = c.args.self.now in
    let made = c.read.new.out.items in
    let feeds = c.read-2.new.self in
    let held = c.read-2.new.out in
    let R : List ℕ → Type 0 = λ l. (given text : List ℕ) → IsDecoded self.decoder given text
    → AddsText l made (λ part. IsDecoded c.read.new.self (given ++ c.args.piece.now) (text ++ part)) in
    let F : List ℕ → Type 0 = λ l. FeedsText self.feeds feeds l self.held.items held.items in
    read_more encoding given gone c.args.piece.now made self (record { decoder = c.read.new.self; feeds = feeds; held = held }) read c.in_ok-read.ensures.encoding
    (subst R c.new-text.ensures.items c.in_ok-read.ensures.text) (subst F c.as_slice.ensures.value c.in_ok-read-2.ensures)
