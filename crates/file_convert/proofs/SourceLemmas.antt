-- The text of a file that is read in pieces.
use Rattle.std.proofs.Common.{◌≡◌, ◌∙◌, ℕ, List, [], ◌++◌, take, drop, ap, ap₂, sym, subst, append_assoc, append-nil}
use Rattle.std.specs.Prelude.{false}
use Rattle.std.proofs.lemmas.List.{take-append-drop}
use Rattle.csv_records.specs.declared.feeds.LineFeeds.{LineFeeds}
use Rattle.csv_records.specs.Lines.{FeedsText, fed, with_feeds}
use Rattle.text_encodings.specs.declared.decoder.Decoder.{Decoder}
use Rattle.text_encodings.specs.declared.encoding.Encoding.{Encoding}
use Rattle.text_encodings.specs.Decoders.{AddsText, IsDecoded}
use Rattle.text_encodings.specs.Encodings.{IsTextIn}
use Rattle.file_convert.specs.declared.source.FileText.{FileText}
use Rattle.file_convert.specs.Conversion.{IsSource}
use Rattle.file_convert.specs.Pieces.{IsTextRead}

-- the bytes of a piece after others, and their text after a text
abbrev pub ReadsPiece : Decoder → Decoder → List ℕ → List ℕ → Type 0
ReadsPiece old new piece made =
    (given text : List ℕ) → IsDecoded old given text → AddsText [] made (λ part. IsDecoded new (given ++ piece) (text ++ part))

pub read_more : (encoding : Encoding) (given gone piece made : List ℕ) (old new : FileText) → IsTextRead encoding given gone old → new.decoder.encoding ≡ old.decoder.encoding
    → ReadsPiece old.decoder new.decoder piece made → FeedsText old.feeds new.feeds made old.held.items new.held.items → IsTextRead encoding (given ++ piece) gone new
read_more encoding given gone piece made old new read same decodes feeds =
    let adds = decodes given read.text read.decoded in
    let F : List ℕ → Type 0 = λ l. FeedsText old.feeds new.feeds l old.held.items new.held.items in
    let fed_part = subst F adds.1 feeds in
    record {
      encoding_is = same ∙ read.encoding_is;
      text = read.text ++ adds.0;
      decoded = adds.2;
      feeds = λ more. ap (with_feeds false) (append_assoc read.text adds.0 more) ∙ (read.feeds (adds.0 ++ more) ∙ ap (λ l. gone ++ l) (fed_part more));
    }

pub read_front : (encoding : Encoding) (given gone : List ℕ) (len : ℕ) (old new : FileText) → IsTextRead encoding given gone old → new.decoder ≡ old.decoder → new.feeds ≡ old.feeds
    → new.held.items ≡ drop len old.held.items → IsTextRead encoding given (gone ++ take len old.held.items) new
read_front encoding given gone len old new read decoder feeds held =
    let D : Decoder → Type 0 = λ d. IsDecoded d given read.text in
    let all = old.held.items in
    record {
      encoding_is = ap (λ (d : Decoder). d.encoding) decoder ∙ read.encoding_is;
      text = read.text;
      decoded = subst D (sym decoder) read.decoded;
      feeds = λ more. read.feeds more ∙ (ap (λ l. gone ++ (l ++ fed old.feeds more)) (sym (take-append-drop len all))
          ∙ (ap (λ l. gone ++ l) (append_assoc (take len all) (drop len all) (fed old.feeds more))
          ∙ (sym (append_assoc gone (take len all) (drop len all ++ fed old.feeds more))
          ∙ ap₂ (λ l (f : LineFeeds). (gone ++ take len all) ++ (l ++ fed f more)) (sym held) (sym feeds))));
    }

pub read_end : (encoding : Encoding) (given gone made held after : List ℕ) (old : FileText) (new : LineFeeds) → IsTextRead encoding given gone old
    → ((given text : List ℕ) → IsDecoded old.decoder given text → AddsText [] made (λ part. IsTextIn old.decoder.encoding given (text ++ part)))
    → FeedsText old.feeds new made old.held.items held → after ≡ held ++ fed new [] → IsSource given encoding (gone ++ after)
read_end encoding given gone made held after old new read decodes feeds end =
    let adds = decodes given read.text read.decoded in
    let F : List ℕ → Type 0 = λ l. FeedsText old.feeds new l old.held.items held in
    let fed_part = subst F adds.1 feeds in
    let E : Encoding → Type 0 = λ e. IsTextIn e given (read.text ++ adds.0) in
    record {
      text = read.text ++ adds.0;
      decoded = subst E read.encoding_is adds.2;
      is_fed = ap (λ l. gone ++ l) (end ∙ sym (ap (λ l. old.held.items ++ fed old.feeds l) (sym (append-nil adds.0)) ∙ fed_part [])) ∙ sym (read.feeds adds.0);
    }
