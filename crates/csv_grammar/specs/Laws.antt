-- What holds of every text and every file.
use Rattle.std.specs.Prelude.{◌≡◌, ◌↔◌, ℕ, List, [], ◌∷◌, ◌++◌, length, take, ◌⊎◌, IsTrue, Some, slice_get}
use Rattle.csv_grammar.specs.Bytes.{comma, line_feed}
use Rattle.csv_grammar.specs.Records.{Field, CsvText, print_text, IsText, AreRecords}
use Rattle.csv_grammar.specs.Faults.{Cause, unfinished, IsViable, cause_at, HasFault}
use Rattle.csv_grammar.specs.Structure.{Role, separator, record_end, text_roles, AreRoles}
use Rattle.csv_grammar.specs.Following.{carry_of, may_follow, may_end, following_role}
use Rattle.csv_grammar.specs.Files.{FileCause, IsFileFault, IsTable}

-- a text has at most one list of records
abbrev pub OneListOfRecords : Type 0
OneListOfRecords = (bytes : List ℕ) (records others : List (List Field)) → AreRecords bytes records → AreRecords bytes others → records ≡ others

-- a text has records or a fault, and not both
pub record RecordsOrFault : Type 0 where
  pub one : (bytes : List ℕ) → ((records : List (List Field)) × AreRecords bytes records) ⊎ ((place : ℕ) × (cause : Cause) × HasFault bytes place cause)
  pub only : (bytes : List ℕ) (records : List (List Field)) (place : ℕ) (cause : Cause) → AreRecords bytes records → ¬ (HasFault bytes place cause)

-- a text has at most one fault
abbrev pub OneFault : Type 0
OneFault = (bytes : List ℕ) (p q : ℕ) (c d : Cause) → HasFault bytes p c → HasFault bytes q d → (p ≡ q) × (c ≡ d)

-- a file is at most one table
abbrev pub OneTable : Type 0
OneTable = (bytes : List ℕ) (header other : List Field) (rows others : List (List Field)) → IsTable bytes header rows → IsTable bytes other others → (header ≡ other) × (rows ≡ others)

-- one thing at most is the first that is wrong with a file, and nothing is wrong with a table
pub record OneFileFault : Type 0 where
  pub one : (bytes : List ℕ) (f g : FileCause) → IsFileFault bytes f → IsFileFault bytes g → f ≡ g
  pub none : (bytes : List ℕ) (header : List Field) (rows : List (List Field)) (f : FileCause) → IsTable bytes header rows → ¬ (IsFileFault bytes f)

-- the structural places of a text that some continuation brings into the grammar
pub record OneStructure : Type 0 where
  -- all continuations agree on them
  pub one : (bytes : List ℕ) (roles others : List Role) → AreRoles bytes roles → AreRoles bytes others → roles ≡ others
  pub some : (bytes : List ℕ) → IsViable bytes → (roles : List Role) × AreRoles bytes roles
  pub viable : (bytes : List ℕ) (roles : List Role) → AreRoles bytes roles → IsViable bytes
  -- each byte has one role, and a front of the bytes has a front of the roles
  pub count : (bytes : List ℕ) (roles : List Role) → AreRoles bytes roles → length roles ≡ length bytes
  pub front : (bytes more : List ℕ) (roles : List Role) → AreRoles (bytes ++ more) roles → AreRoles bytes (take (length bytes) roles)
  -- those of a text in the grammar are its tree's
  pub whole : (text : CsvText) → IsText text → AreRoles (print_text text) (text_roles text)
  -- a separator is a comma, and an LF ends a record
  pub separators : (bytes : List ℕ) (roles : List Role) (place : ℕ) → AreRoles bytes roles
      → slice_get roles place ≡ Some separator → slice_get bytes place ≡ Some comma
  pub record_ends : (bytes : List ℕ) (roles : List Role) (place : ℕ) → AreRoles bytes roles
      → slice_get roles place ≡ Some record_end → slice_get bytes place ≡ Some line_feed

-- what may follow a viable text depends on the parity of its double quotes and on its last byte
pub record WhatFollows : Type 0 where
  pub empty : IsViable []
  pub front : (text more : List ℕ) → IsViable (text ++ more) → IsViable text
  -- whether a byte may, and its role there
  pub byte : (text : List ℕ) (b : ℕ) → IsViable text → IsTrue (may_follow (carry_of text) b) ↔ IsViable (text ++ b ∷ [])
  pub role : (text : List ℕ) (roles : List Role) (b : ℕ) → AreRoles text roles → IsViable (text ++ b ∷ [])
      → AreRoles (text ++ b ∷ []) (roles ++ following_role (carry_of text) b ∷ [])
  -- where it may not, there the fault is, whatever comes after it
  pub fault : (text : List ℕ) (b : ℕ) (more : List ℕ) → IsViable text → ¬ (IsViable (text ++ b ∷ []))
      → HasFault (text ++ b ∷ more) (length text) (cause_at (text ++ b ∷ more) (length text))
  -- where the text may end it has records, and where not it is unfinished
  pub end : (text : List ℕ) → IsViable text → IsTrue (may_end (carry_of text)) → (records : List (List Field)) × AreRecords text records
  pub no_end : (text : List ℕ) → IsViable text → ¬ (IsTrue (may_end (carry_of text))) → HasFault text (length text) unfinished

-- a file is a table, or something is wrong with it
abbrev pub TableOrFault : Type 0
TableOrFault = (bytes : List ℕ) → ((header : List Field) × (rows : List (List Field)) × IsTable bytes header rows) ⊎ ((f : FileCause) × IsFileFault bytes f)
