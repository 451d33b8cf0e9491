-- One file more.
use Rattle.std.proofs.Common.{ℕ, List, [], ◌∷◌, ◌++◌, Option, None, Some}
use Rattle.csvw_meta.specs.Schema.{SchemaOf}
use Rattle.folder_checks.specs.FolderChecks.{with_file}
use Rattle.table_store.specs.File.{FileOf}
use Rattle.convert_folders.specs.Conversions.{AreConversions, IsSomeConversion}

one_more : (files : List FileOf) (file : FileOf) → AreConversions files → IsSomeConversion file.bytes → AreConversions (files ++ file ∷ [])
one_more [] file are is = (is, tt)
one_more (first ∷ files) file are is = (are.0, one_more files file are.1 is)

pub with_made : (schema : Option SchemaOf) (files : List FileOf) (made : List ℕ) → AreConversions files → IsSomeConversion made → AreConversions (with_file schema files (Some made))
with_made None files made are is = are
with_made (Some schema) files made are is = one_more files (record { name = schema.url; bytes = made }) are is
