-- What is taken of a folder on a disk.
use Rattle.std.specs.Prelude.{◌≡◌, ◌≤◌, ◌+◌, ◌⊎◌, ℕ, Bool, false, List, ◌++◌, length, take, Option, IfSome}
use Rattle.std.specs.Io.KnownBytes.{Consumes, IsAtEnd}
use Rattle.csvw_meta.specs.declared.limits.TheConstants.{MOST_FILE_BYTES}
use Rattle.served_folders.specs.Names.{file_names}

-- the bytes are those that a file has left, at most one above the limit of a file, where it tells what it has
abbrev pub IsFrontOfFile : Option (List ℕ) → List ℕ → Type 0
IsFrontOfFile told bytes = IfSome told (λ all. bytes ≡ take (MOST_FILE_BYTES + 1) all)

-- A file was read on in, which had these bytes left and has those: they follow the bytes that were read. If there is no more, it is at its end, or the limit of a file is
-- passed.
pub record HasReadOn (old_left new_left : Option (List ℕ)) (old new : List ℕ) (more : Bool) : Type 0 where
  pub piece : List ℕ
  pub appended : new ≡ old ++ piece
  pub consumed : Consumes old_left new_left piece
  pub over : more ≡ false → IsAtEnd new_left ⊎ (MOST_FILE_BYTES + 1 ≤ length new)

-- the bytes are such a front of some file of this kind
pub record IsFrontOfSome {F : Type 0} (told : F → Option (List ℕ)) (bytes : List ℕ) : Type 0 where
  pub file : F
  pub front : IsFrontOfFile (told file) bytes

-- the names of the files that some metadata names, of at most one byte above the limit of a file
pub record AreFileNames (names : List (List ℕ)) : Type 0 where
  pub meta : List ℕ
  pub most : length meta ≤ MOST_FILE_BYTES + 1
  pub names_are : names ≡ file_names meta
