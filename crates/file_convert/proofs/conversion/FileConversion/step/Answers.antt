use Rattle.std.proofs.Common.{◌∙◌, ◌++◌, ℕ, List, subst, take}
use Rattle.file_convert.specs.Pieces.{IsTableSo}
use Rattle.file_convert.proofs.conversion.FileConversion.step.Goals as goal

pub returns : goal.returns
returns c = λ asks given made is.
    let step = c.in_ok-len.ensures.step in
    let held = c.args.self.now.source.held.items in
    let adds = step.goes is.gone made is.table in
    let T : List ℕ → Type 0 = λ l. IsTableSo c.step.new.self (is.gone ++ take c.in_ok-len.len l) (made ++ adds.0) in (
      adds.0,
      adds.1,
      record {
        skip = step.skip ∙ is.skip;
        pads = step.pads ∙ is.pads;
        encoding = is.encoding;
        gone = is.gone ++ take c.in_ok-len.len held;
        read = c.in_ok-drop_front.ensures is.encoding given is.gone is.read;
        table = subst T c.as_slice.ensures.value adds.2;
      },
    )
