-- Metadata texts with what they say, and what they are refused for, worked out by hand (Metadata Vocabulary for Tabular Data, sections 5.3 to 5.7 and
-- 5.11).
use Rattle.std.specs.Prelude.{◌≡◌, ℕ, true, false, List, [], ◌∷◌, codes, map, Result, Ok, Err}
use Rattle.cell_types.specs.declared.datatype.BooleanForm.TheVariants.{Standard}
use Rattle.cell_types.specs.declared.datatype.DateForm.TheVariants.{YearMonthDay, Dotted}
use Rattle.cell_types.specs.Column.{ColumnOf}
use Rattle.cell_types.specs.Datatype as datatype
use Rattle.cell_types.specs.Datatype.{DatatypeOf, boolean_view}
use Rattle.csvw_meta.specs.Document.{schemas_of}
use Rattle.csvw_meta.specs.Fault.{MetaCause}
use Rattle.csvw_meta.specs.Limits.{LimitsOf}
use Rattle.csvw_meta.specs.Schema.{SchemaOf}

-- two tables at most, of two columns at most
abbrev pub limits : LimitsOf
limits = record { file = 1_073_741_824; tables = 2; columns = 2; transformations = 8 }

-- what a metadata text says
abbrev pub said : List ℕ → Result (List SchemaOf) MetaCause
said text = schemas_of limits text

-- each of the texts is refused for the cause beside it
abbrev pub AreRefused : List (List ℕ × List ℕ) → Type 0
AreRefused cases = map (λ case. said case.0) cases ≡ map (λ case. Err case.1) cases

-- a column of which a name alone is said
abbrev pub column_named : List ℕ → ColumnOf
column_named name = record { name = name; titles = []; datatype = datatype.text; nulls = codes "" ∷ []; default = []; required = false }

abbrev pub typed : List ℕ → DatatypeOf → ColumnOf
typed name type = record (column_named name) { datatype = type }

abbrev pub column_with_null : List ℕ → ColumnOf
column_with_null text = record (column_named (codes "C")) { nulls = text ∷ [] }

-- the table `a`, without a key
abbrev pub table : List ColumnOf → SchemaOf
table columns = record { url = codes "a.csv"; name = codes "a"; columns = columns; key = [] }

-- the text says the table `a` alone, of these columns
abbrev pub SaysColumns : List ℕ → List ColumnOf → Type 0
SaysColumns text columns = said text ≡ Ok (table columns ∷ [])

pub record WorkedMetadata : Type 0 where
  -- what is not said: a string, of which the empty text is null, without a default, and none is required
  pub plain : SaysColumns (codes "{\"url\":\"a.csv\",\"tableSchema\":{\"columns\":[{\"name\":\"C\"}]}}") (column_named (codes "C") ∷ [])
  -- a member that is null counts as absent, one that is not known is ignored, and of a repeated one the last counts
  pub absent : SaysColumns (codes "{\"url\":\"b.csv\",\"dialect\":null,\"lang\":\"en\",\"url\":\"a.csv\",\"tableSchema\":{\"columns\":[{\"name\":\"C\",\"virtual\":null,\"datatype\":null,\"notes\":[1]}]}}") (column_named (codes "C") ∷ [])
  -- datatypes by a name, and by an object with a base and a format
  pub numbers : SaysColumns (codes "{\"url\":\"a.csv\",\"tableSchema\":{\"columns\":[{\"name\":\"A\",\"datatype\":\"integer\"},{\"name\":\"B\",\"datatype\":{\"base\":\"decimal\"}}]}}")
      (typed (codes "A") datatype.integer ∷ typed (codes "B") datatype.decimal ∷ [])
  pub booleans : SaysColumns (codes "{\"url\":\"a.csv\",\"tableSchema\":{\"columns\":[{\"name\":\"A\",\"datatype\":\"boolean\"},{\"name\":\"B\",\"datatype\":{\"base\":\"boolean\",\"format\":\"Y|N\"}}]}}")
      (typed (codes "A") (boolean_view Standard) ∷ typed (codes "B") (datatype.boolean (codes "Y" ∷ []) (codes "N" ∷ [])) ∷ [])
  pub dates : SaysColumns (codes "{\"url\":\"a.csv\",\"tableSchema\":{\"columns\":[{\"name\":\"A\",\"datatype\":\"date\"},{\"name\":\"B\",\"datatype\":{\"base\":\"date\",\"format\":\"dd.MM.yyyy\"}}]}}")
      (typed (codes "A") (datatype.date YearMonthDay) ∷ typed (codes "B") (datatype.date Dotted) ∷ [])
  pub strings : SaysColumns (codes "{\"url\":\"a.csv\",\"tableSchema\":{\"columns\":[{\"name\":\"A\",\"datatype\":\"string\"},{\"name\":\"B\",\"datatype\":{}}]}}") (column_named (codes "A") ∷ column_named (codes "B") ∷ [])
  -- `null`, `default` and `required`
  pub cells : SaysColumns (codes "{\"url\":\"a.csv\",\"tableSchema\":{\"columns\":[{\"name\":\"A\",\"null\":[\"NA\",\"-\"],\"default\":\"x\",\"required\":true},{\"name\":\"B\",\"virtual\":false,\"null\":[]}]}}")
      (record { name = codes "A"; titles = []; datatype = datatype.text; nulls = codes "NA" ∷ codes "-" ∷ []; default = codes "x"; required = true }
      ∷ record (column_named (codes "B")) { nulls = [] }
      ∷ [])
  -- titles: a text, an array of texts, and a language map of both
  pub title : SaysColumns (codes "{\"url\":\"a.csv\",\"tableSchema\":{\"columns\":[{\"name\":\"C\",\"titles\":\"City\"}]}}") (record (column_named (codes "C")) { titles = codes "City" ∷ [] } ∷ [])
  pub titles : SaysColumns (codes "{\"url\":\"a.csv\",\"tableSchema\":{\"columns\":[{\"name\":\"A\",\"titles\":[\"City\",\"Town\"]},{\"name\":\"B\",\"titles\":{\"de\":[\"Ort\",\"Stadt\"],\"en\":\"City\",\"fr\":null}}]}}")
      (record (column_named (codes "A")) { titles = codes "City" ∷ codes "Town" ∷ [] } ∷ record (column_named (codes "B")) { titles = codes "Ort" ∷ codes "Stadt" ∷ codes "City" ∷ [] } ∷ [])
  -- what a column does not say, the schema says, else the table, else the group; the group's schema is that of a table without one
  pub column_and_schema : SaysColumns (codes "{\"null\":\"G\",\"tables\":[{\"url\":\"a.csv\",\"null\":\"T\",\"tableSchema\":{\"null\":\"S\",\"columns\":[{\"name\":\"C\",\"null\":\"C\"},{\"name\":\"D\"}]}}]}")
      (column_with_null (codes "C") ∷ record (column_named (codes "D")) { nulls = codes "S" ∷ [] } ∷ [])
  pub table_level : SaysColumns (codes "{\"null\":\"G\",\"tables\":[{\"url\":\"a.csv\",\"null\":\"T\",\"tableSchema\":{\"columns\":[{\"name\":\"C\"}]}}]}") (column_with_null (codes "T") ∷ [])
  pub group_level : SaysColumns (codes "{\"null\":\"G\",\"tables\":[{\"url\":\"a.csv\",\"tableSchema\":{\"columns\":[{\"name\":\"C\"}]}}]}") (column_with_null (codes "G") ∷ [])
  pub group_schema : SaysColumns (codes "{\"tableSchema\":{\"null\":\"S\",\"columns\":[{\"name\":\"C\"}]},\"tables\":[{\"url\":\"a.csv\",\"null\":\"T\"}]}") (column_with_null (codes "S") ∷ [])
  -- keys: a name, and names in their own order
  pub key : said (codes "{\"url\":\"a.csv\",\"tableSchema\":{\"columns\":[{\"name\":\"A\"},{\"name\":\"B\"}],\"primaryKey\":\"B\"}}")
      ≡ Ok (record (table (column_named (codes "A") ∷ column_named (codes "B") ∷ [])) { key = 1 ∷ [] } ∷ [])
  pub keys : said (codes "{\"url\":\"a.csv\",\"tableSchema\":{\"columns\":[{\"name\":\"A\"},{\"name\":\"B\"}],\"primaryKey\":[\"B\",\"A\"]}}")
      ≡ Ok (record (table (column_named (codes "A") ∷ column_named (codes "B") ∷ [])) { key = 1 ∷ 0 ∷ [] } ∷ [])
  -- The walk goes from the whole to its parts. Each text below has two faults or more, of which the first is the cause.
  pub documents : AreRefused
      ((codes "{\"tables\":[}", codes "NotJson")
      ∷ (codes "[1]", codes "NotObject")
      ∷ (codes "{\"dialect\":{}}", codes "NoTables")
      ∷ (codes "{\"tables\":{},\"dialect\":{}}", codes "NoTables")
      ∷ (codes "{\"tables\":[],\"dialect\":{}}", codes "NoTables")
      ∷ (codes "{\"tables\":[1,1,1],\"dialect\":{}}", codes "TooManyTables")
      ∷ [])
  pub groups : AreRefused
      ((codes "{\"tables\":[1],\"separator\":\",\",\"transformations\":[],\"dialect\":{}}", codes "Unsupported dialect")
      ∷ (codes "{\"tables\":[1],\"separator\":\",\",\"transformations\":[]}", codes "Unsupported transformations")
      ∷ (codes "{\"tables\":[1],\"datatype\":5,\"separator\":\",\"}", codes "Unsupported separator")
      ∷ (codes "{\"tables\":[1],\"datatype\":5}", codes "BadDatatype")
      ∷ (codes "{\"tables\":[{\"url\":\"a.csv\"},1]}", codes "NoColumns")
      ∷ (codes "{\"tables\":[1,{\"url\":\"a.csv\"}]}", codes "NotObject")
      ∷ [])
  pub tables : AreRefused
      ((codes "{\"url\":\"a b.csv\",\"dialect\":{}}", codes "BadUrl")
      ∷ (codes "{\"url\":\"a.tsv\",\"dialect\":{}}", codes "BadUrl")
      ∷ (codes "{\"tableSchema\":{\"columns\":[{\"name\":\"C\"}]},\"tables\":[{\"url\":\"a.csv\"},{\"url\":\"a.csv\",\"dialect\":{}}]}", codes "DuplicateUrl")
      ∷ (codes "{\"url\":\"a.csv\",\"separator\":\",\",\"transformations\":[],\"dialect\":{}}", codes "Unsupported dialect")
      ∷ (codes "{\"url\":\"a.csv\",\"separator\":\",\",\"transformations\":[]}", codes "Unsupported transformations")
      ∷ (codes "{\"url\":\"a.csv\",\"required\":1,\"separator\":\",\"}", codes "Unsupported separator")
      ∷ (codes "{\"url\":\"a.csv\",\"required\":1}", codes "BadRequired")
      ∷ (codes "{\"url\":\"a.csv\"}", codes "NoColumns")
      ∷ [])
  pub schemas : AreRefused
      ((codes "{\"url\":\"a.csv\",\"tableSchema\":\"s.json\"}", codes "Unsupported tableSchema")
      ∷ (codes "{\"url\":\"a.csv\",\"tableSchema\":[]}", codes "NoColumns")
      ∷ (codes "{\"url\":\"a.csv\",\"tableSchema\":{\"null\":1,\"separator\":\",\"}}", codes "Unsupported separator")
      ∷ (codes "{\"url\":\"a.csv\",\"tableSchema\":{\"null\":1}}", codes "BadNull")
      ∷ (codes "{\"url\":\"a.csv\",\"tableSchema\":{\"columns\":[],\"primaryKey\":1}}", codes "NoColumns")
      ∷ (codes "{\"url\":\"a.csv\",\"tableSchema\":{\"columns\":[1,1,1],\"primaryKey\":1}}", codes "TooManyColumns")
      ∷ (codes "{\"url\":\"a.csv\",\"tableSchema\":{\"columns\":[1],\"primaryKey\":1}}", codes "NotObject")
      ∷ (codes "{\"url\":\"a.csv\",\"tableSchema\":{\"columns\":[{\"name\":\"C\"}],\"primaryKey\":\"D\"}}", codes "BadKey")
      ∷ (codes "{\"url\":\"a.csv\",\"tableSchema\":{\"columns\":[{\"name\":\"C\"}],\"primaryKey\":[\"C\",\"C\"]}}", codes "BadKey")
      ∷ (codes "{\"url\":\"a.csv\",\"tableSchema\":{\"columns\":[{\"name\":\"C\"}],\"primaryKey\":[]}}", codes "BadKey")
      ∷ [])
  pub columns : AreRefused
      ((codes "{\"url\":\"a.csv\",\"tableSchema\":{\"columns\":[{\"separator\":\",\",\"virtual\":true}]}}", codes "Unsupported virtual")
      ∷ (codes "{\"url\":\"a.csv\",\"tableSchema\":{\"columns\":[{\"separator\":\",\"}]}}", codes "Unsupported separator")
      ∷ (codes "{\"url\":\"a.csv\",\"tableSchema\":{\"columns\":[{\"titles\":1}]}}", codes "Unsupported name")
      ∷ (codes "{\"url\":\"a.csv\",\"tableSchema\":{\"columns\":[{\"name\":\"1st\",\"titles\":1}]}}", codes "BadName")
      ∷ (codes "{\"url\":\"a.csv\",\"tableSchema\":{\"columns\":[{\"name\":\"C\"},{\"name\":\"C\",\"titles\":1}]}}", codes "DuplicateName")
      ∷ (codes "{\"url\":\"a.csv\",\"tableSchema\":{\"columns\":[{\"name\":\"C\",\"titles\":1,\"datatype\":1}]}}", codes "BadTitles")
      ∷ (codes "{\"url\":\"a.csv\",\"tableSchema\":{\"columns\":[{\"name\":\"C\",\"datatype\":1},1]}}", codes "BadDatatype")
      ∷ [])
  pub datatypes : AreRefused
      ((codes "{\"url\":\"a.csv\",\"datatype\":{\"base\":1,\"length\":1},\"null\":1}", codes "BadDatatype")
      ∷ (codes "{\"url\":\"a.csv\",\"datatype\":{\"base\":\"double\",\"length\":1},\"null\":1}", codes "Unsupported double")
      ∷ (codes "{\"url\":\"a.csv\",\"datatype\":{\"maxLength\":1,\"minLength\":1,\"length\":1,\"format\":1}}", codes "Unsupported length")
      ∷ (codes "{\"url\":\"a.csv\",\"datatype\":{\"maxExclusive\":1,\"minExclusive\":1,\"format\":1}}", codes "Unsupported minExclusive")
      ∷ (codes "{\"url\":\"a.csv\",\"datatype\":{\"format\":1},\"null\":1}", codes "Unsupported format")
      ∷ (codes "{\"url\":\"a.csv\",\"datatype\":{\"base\":\"integer\",\"format\":\"#\"}}", codes "Unsupported format")
      ∷ (codes "{\"url\":\"a.csv\",\"datatype\":{\"base\":\"date\",\"format\":\"d.M.yyyy\"},\"null\":1}", codes "BadFormat")
      ∷ (codes "{\"url\":\"a.csv\",\"datatype\":{\"base\":\"boolean\",\"format\":\"Y|Y\"},\"null\":1}", codes "BadFormat")
      ∷ (codes "{\"url\":\"a.csv\",\"datatype\":{\"base\":\"boolean\",\"format\":\"Y|N|\"},\"null\":1}", codes "BadFormat")
      ∷ [])
  pub inherited : AreRefused
      ((codes "{\"url\":\"a.csv\",\"required\":1,\"default\":1,\"null\":1}", codes "BadNull")
      ∷ (codes "{\"url\":\"a.csv\",\"required\":1,\"default\":1,\"null\":[1]}", codes "BadNull")
      ∷ (codes "{\"url\":\"a.csv\",\"required\":1,\"default\":1}", codes "BadDefault")
      ∷ (codes "{\"url\":\"a.csv\",\"required\":\"true\"}", codes "BadRequired")
      -- what a nearer level overrides is of its form too
      ∷ (codes "{\"url\":\"a.csv\",\"null\":1,\"tableSchema\":{\"null\":\"NA\",\"columns\":[{\"name\":\"C\"}]}}", codes "BadNull")
      ∷ [])
