-- Folders whose files were converted, and checked as they were written.
use Rattle.std.specs.Prelude.{ℕ, List, [], ◌∷◌, Some}
use Rattle.csvw_meta.specs.Schema.{SchemaOf}
use Rattle.file_convert.specs.Conversion.{IsConversion}
use Rattle.file_convert.specs.declared.asks.ConvertOptions.{ConvertOptions}
use Rattle.file_convert.specs.declared.report.Converted.{Converted}
use Rattle.file_passes.specs.Passes.{IsCheckedAs}
use Rattle.folder_checks.specs.FolderChecks.{with_last, IsCheckingFolder, IsServedBy}
use Rattle.folder_checks.specs.declared.file_check.FileCheck.{FileCheck}
use Rattle.folder_checks.specs.declared.folder_check.FolderCheck.{FolderCheck}
use Rattle.table_store.specs.File.{FileOf}

-- the bytes are the conversion of some file
abbrev pub IsSomeConversion : List ℕ → Type 0
IsSomeConversion bytes = (asks : ConvertOptions) × (file : List ℕ) × (converted : Converted) × IsConversion asks file bytes converted

-- so are those of each file
abbrev pub AreConversions : List FileOf → Type 0
AreConversions [] = Unit {0}
AreConversions (file ∷ files) = IsSomeConversion file.bytes × AreConversions files

-- the folder of such files with that metadata is served
abbrev pub IsServedConversion : List ℕ → Type 0
IsServedConversion meta = (files : List FileOf) × AreConversions files × IsServedBy meta files

-- the bytes that were checked are the conversion of some file
abbrev pub IsCheckedConversion : SchemaOf → FileCheck → Type 0
IsCheckedConversion schema check = (asks : ConvertOptions) × IsCheckedAs asks schema check

-- the file of the next table is a conversion, and the folder was checked with it
abbrev pub ChecksConversion : FolderCheck → FolderCheck → Type 0
ChecksConversion check new = (bytes : List ℕ) × IsSomeConversion bytes
    × ((meta : List ℕ) (files : List FileOf) → IsCheckingFolder meta files check → IsCheckingFolder meta (with_last check files (Some bytes)) new)
