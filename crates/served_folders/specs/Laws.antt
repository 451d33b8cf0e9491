-- The bytes of the folder that is built in.
use Rattle.std.specs.Prelude.{◌≡◌, codes}
use Rattle.served_folders.specs.declared.folders.TheConstants.{NOTES, NOTES_METADATA, NOTES_FILE, NOTES_BYTES}

-- Its name, its metadata, and its one file: a header and two rows, the second of which has a field with a comma. Each line ends with LF, the last one too.
pub record HasNotes : Type 0 where
  pub name : NOTES.now ≡ codes "notes"
  pub metadata : NOTES_METADATA.now ≡ codes "{\"url\":\"notes.csv\",\"tableSchema\":{\"columns\":[{\"name\":\"Id\"},{\"name\":\"Text\"}]}}\n"
  pub file : NOTES_FILE.now ≡ codes "notes.csv"
  pub bytes : NOTES_BYTES.now ≡ codes "Id,Text\n1,hello\n2,\"a, b\"\n"
