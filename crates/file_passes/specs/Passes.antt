-- What a pass over a file makes of it.
use Rattle.std.specs.Prelude.{ℕ, Bool, true, false, List, [], ◌++◌}
use Rattle.std.specs.Prelude.{Vec}
use Rattle.std.specs.Global.{Global}
use Rattle.csvw_meta.specs.Schema.{SchemaOf}
use Rattle.folder_checks.specs.Checks.{IsChecking}
use Rattle.folder_checks.specs.declared.file_check.FileCheck.{FileCheck}
use Rattle.file_convert.specs.declared.asks.ConvertOptions.{ConvertOptions}
use Rattle.file_convert.specs.declared.report.Converted.{Converted}
use Rattle.file_convert.specs.Conversion.{IsConversion}
use Rattle.file_convert.specs.Pieces.{IsConverting}
use Rattle.file_passes.specs.declared.passes.Pass.{Pass}

-- bytes of some file were read, and these are made of them
abbrev pub IsMaking : ConvertOptions → List ℕ → Pass → Type 0
IsMaking asks made pass = (given : List ℕ) × IsConverting asks given made pass.conversion

-- nothing is made yet
abbrev pub HasBegun : ConvertOptions → Pass → Type 0
HasBegun asks pass = IsMaking asks [] pass

-- more bytes are made, or nothing has changed
abbrev pub MakesMore : Pass → Pass → Bool → Type 0
MakesMore old new true = (asks : ConvertOptions) (made : List ℕ) → IsMaking asks made old → IsMaking asks (made ++ new.out.items) new
MakesMore old new false = (asks : ConvertOptions) (made : List ℕ) → IsMaking asks made old → IsMaking asks made new

-- with the last ones the whole is the conversion of some file
abbrev pub EndsPass : Pass → Converted × Vec ℕ Global → Type 0
EndsPass pass end =
    (asks : ConvertOptions) (made : List ℕ) → IsMaking asks made pass → (file : List ℕ) × IsConversion asks file (made ++ end.1.items) end.0

-- the bytes that were checked are the conversion of some file
abbrev pub IsCheckedAs : ConvertOptions → SchemaOf → FileCheck → Type 0
IsCheckedAs asks schema check = (file : List ℕ) × (made : List ℕ) × (converted : Converted) × IsConversion asks file made converted × IsChecking schema made check
