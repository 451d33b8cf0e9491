-- The files that metadata names.
use Rattle.std.specs.Prelude.{List, ℕ, [], map, Result, Ok, Err}
use Rattle.csvw_meta.specs.Document.{schemas_of}
use Rattle.csvw_meta.specs.Fault.{MetaCause}
use Rattle.csvw_meta.specs.Schema.{SchemaOf}
use Rattle.served_folders.specs.Folders.{greatest_limits}

-- the urls of schemas, in order
abbrev pub urls : List SchemaOf → List (List ℕ)
urls schemas = map (λ schema. schema.url) schemas

-- the urls of the schemas that metadata has; there is none where it is refused
abbrev pub urls_in : Result (List SchemaOf) MetaCause → List (List ℕ)
urls_in (Ok schemas) = urls schemas
urls_in (Err cause) = []

-- the names of the files that metadata names
abbrev pub file_names : List ℕ → List (List ℕ)
file_names meta = urls_in (schemas_of greatest_limits meta)
