use Rattle.std.proofs.Common.{◌++◌}
use Rattle.file_convert.specs.declared.conversion.FileConversion.{FileConversion}
use Rattle.file_convert.specs.Pieces.{IsConverting}
use Rattle.file_convert.proofs.StageLemmas.{adds_none}
use Rattle.file_convert.proofs.conversion.FileConversion.feed.Goals as goal

pub returns-then-len-self : goal.returns-then-len-self
returns-then-len-self c = λ asks given made is.
    let self = c.args.self.now in
    let fed : FileConversion = record { source = c.feed.new.self; table = self.table; kept = self.kept; counts = self.counts } in
    adds_none (λ m. IsConverting asks (given ++ c.args.piece.now) m fed) made c.args.out.now.items (record {
      skip = is.skip;
      pads = is.pads;
      encoding = is.encoding;
      gone = is.gone;
      read = c.in_ok-feed.ensures is.encoding given is.gone is.read;
      table = is.table;
    })

pub returns : goal.returns
returns c = λ asks given made is.
    let adds = c.in_ok-put_held.ensures asks (given ++ c.args.piece.now) made (record {
      skip = is.skip;
      pads = is.pads;
      encoding = is.encoding;
      gone = is.gone;
      read = c.in_ok-feed.ensures is.encoding given is.gone is.read;
      table = is.table;
    }) in (
      adds.0,
      adds.1,
      record { skip = adds.2.skip; pads = adds.2.pads; encoding = adds.2.encoding; gone = adds.2.gone; read = adds.2.read; table = adds.2.table },
    )
