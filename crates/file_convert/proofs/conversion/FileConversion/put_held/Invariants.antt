use Rattle.std.proofs.Common.{◌++◌, ℕ, List}
use Rattle.text_encodings.specs.Decoders.{AddsText}
use Rattle.file_convert.specs.declared.asks.ConvertOptions.{ConvertOptions}
use Rattle.file_convert.specs.Pieces.{IsConverting}
use Rattle.file_convert.proofs.conversion.FileConversion.put_held.Given as goal

-- what the steps so far write is appended
abbrev pub invariant-loop-stage : goal.invariant-loop-stage
invariant-loop-stage l = (asks : ConvertOptions) (given made : List ℕ) → IsConverting asks given made l.initial.self
    → AddsText l.initial.out.items l.out.items (λ part. IsConverting asks given (made ++ part) l.self)
