-- The files of a folder.
use Rattle.std.specs.Prelude.{◌≡◌, ◌<◌, ◌++◌, ℕ, List, length, Option, None, Some, option_map, string_bytes, map}
use Rattle.std.specs.List.{find}
use Rattle.std.specs.Str.{bytes_eq}
use Rattle.table_store.specs.declared.file.NamedFile.{NamedFile}
use Rattle.table_store.specs.declared.file.FileStart.{FileStart}
use Rattle.table_store.specs.declared.file.FileStart.TheVariants.{Missing, TooLarge, Begins}

-- a file's name and bytes
pub record FileOf : Type 0 where
  pub name : List ℕ
  pub bytes : List ℕ

abbrev pub file_view : NamedFile → FileOf
file_view file = record { name = string_bytes file.name; bytes = file.bytes.items }

abbrev pub files_view : List NamedFile → List FileOf
files_view files = map file_view files

-- the bytes of the first file of that name
abbrev pub file_named : List ℕ → List FileOf → Option (List ℕ)
file_named name files = option_map (λ (file : FileOf). file.bytes) (find (λ (file : FileOf). bytes_eq file.name name) files)

-- the file with more bytes, where there is one
abbrev pub with_more : List ℕ → Option (List ℕ) → Option (List ℕ)
with_more bytes file = option_map (λ given. given ++ bytes) file

-- a file is such: there is none, or one above the limit, or it has these bytes
abbrev pub IsSuchFile : ℕ → FileStart → Option (List ℕ) → Type 0
IsSuchFile limit Missing file = file ≡ None
IsSuchFile limit TooLarge file = (bytes : List ℕ) × (file ≡ Some bytes) × (limit < length bytes)
IsSuchFile limit (Begins bytes) file = file ≡ Some bytes.items

-- and its bytes are all there
abbrev pub IsFileTaken : Option (List ℕ) → FileStart → Type 0
IsFileTaken file Missing = file ≡ None
IsFileTaken file TooLarge = ⊥
IsFileTaken file (Begins bytes) = file ≡ Some bytes.items
