-- A file that was looked at: a table of not too many columns, or why it has no schema.
use Rattle.std.specs.Prelude.{◌≡◌, ◌<◌, ◌≤◌, ℕ, List, ◌++◌, length, string_bytes, Some, Result, Ok, Err}
use Rattle.csv_grammar.specs.Files.{FileCause, IsFileFault, IsTable}
use Rattle.csv_grammar.specs.Records.{Field}
use Rattle.csv_index.specs.Fault.{text_cause}
use Rattle.csv_index.specs.declared.fault.TextFault.{TextFault}
use Rattle.csvw_meta.specs.Forms.{table_name}
use Rattle.csvw_meta.specs.declared.limits.Limits.{Limits}
use Rattle.csvw_meta.specs.declared.schema.Schema.{Schema}
use Rattle.folder_checks.specs.Windows.{IsGivenTo}
use Rattle.schema_inference.specs.declared.fault.LeftOutCause.{LeftOutCause}
use Rattle.schema_inference.specs.declared.fault.LeftOutCause.TheVariants.{ManyColumns, NoTable, TooLarge}
use Rattle.schema_inference.specs.declared.file_guess.FileGuess.{FileGuess}
use Rattle.schema_inference.specs.declared.sight.TableGuess.{TableGuess}

-- the bytes are a table of that many columns
pub record IsTableOfWidth (columns : ℕ) (bytes : List ℕ) : Type 0 where
  pub header : List Field
  pub rows : List (List Field)
  pub table : IsTable bytes header rows
  pub width : length header ≡ columns

-- the bytes are no table, for that fault
pub record IsNoTable (fault : TextFault) (bytes : List ℕ) : Type 0 where
  pub cause : FileCause
  pub is : text_cause fault ≡ Some cause
  pub wrong : IsFileFault bytes cause

-- why bytes have no schema
abbrev pub HasBytesCause : Limits → List ℕ → LeftOutCause → Type 0
HasBytesCause limits bytes TooLarge = limits.file < length bytes
HasBytesCause limits bytes (NoTable fault) = IsNoTable fault bytes
HasBytesCause limits bytes (ManyColumns columns) = IsTableOfWidth columns bytes × (limits.columns < columns)
HasBytesCause limits bytes cause = ⊥

-- a schema is that of a table with a url, as far as it is no guess
pub record IsNamed (url : List ℕ) (schema : Schema) : Type 0 where
  pub url_is : string_bytes schema.url ≡ url
  pub name_is : string_bytes schema.name ≡ table_name url

-- these bytes of a file were given
abbrev pub IsLooking : List ℕ → FileGuess → Type 0
IsLooking given look = IsGivenTo given look.windows

-- so they were, or have no schema, whatever follows them
abbrev pub GivesTo : Limits → List ℕ → Result FileGuess LeftOutCause → Type 0
GivesTo limits given (Ok look) = IsLooking given look
GivesTo limits given (Err cause) = (more : List ℕ) → HasBytesCause limits (given ++ more) cause

-- the bytes are a table of not too many columns, or have no schema
abbrev pub IsLookedAt : Limits → List ℕ → Result TableGuess LeftOutCause → Type 0
IsLookedAt limits bytes (Ok table) = (columns : ℕ) × IsTableOfWidth columns bytes × (columns ≤ limits.columns)
IsLookedAt limits bytes (Err cause) = HasBytesCause limits bytes cause
