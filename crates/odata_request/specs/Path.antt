-- Paths as they are written (OData 4.01 Part 2, URL Conventions, sections 4.1, 4.3.1 and 4.8).
use Rattle.std.specs.Prelude.{◌≡◌, ◌<◌, ℕ, false, List, [], ◌∷◌, ◌++◌, Result, Ok, codes, length, ⊤}
use Rattle.table_store.specs.Table.{TableOf}
use Rattle.odata_url.specs.OptionName.{begins_with, dollar_sign}
use Rattle.odata_errors.specs.declared.code.Code.{Code}
use Rattle.odata_request.specs.Resource.{ResourceOf, count, has_parenthesis, in_table, key, path_resource, rows, service, table_number}

-- the root of the service; an entity set by its name, or its `$count`; or the entity of a set whose key a text is
pub data PathOf : Type 0 where
  root : PathOf
  entity_set : List ℕ → PathOf
  set_count : List ℕ → PathOf
  entity : List ℕ → List ℕ → PathOf

-- the segments of a path
abbrev pub path_segments : PathOf → List (List ℕ)
path_segments root = [] ∷ []
path_segments (entity_set name) = name ∷ []
path_segments (set_count name) = name ∷ codes "$count" ∷ []
path_segments (entity name text) = (name ++ (codes "(" ++ (text ++ codes ")"))) ∷ []

-- a name that begins with no `$`, and has no `(`
pub record IsSetName (name : List ℕ) : Type 0 where
  pub unreserved : begins_with dollar_sign name ≡ false
  pub plain : has_parenthesis name ≡ false

-- a path whose set has such a name
abbrev pub IsPath : PathOf → Type 0
IsPath root = ⊤
IsPath (entity_set name) = (0 < length name) × IsSetName name
IsPath (set_count name) = IsSetName name
IsPath (entity name text) = IsSetName name

-- what a path leads to
abbrev pub path_end : List TableOf → PathOf → Result ResourceOf Code
path_end tables root = Ok service
path_end tables (entity_set name) = in_table rows (table_number tables name)
path_end tables (set_count name) = in_table count (table_number tables name)
path_end tables (entity name text) = in_table (λ number. key number text) (table_number tables name)

-- the segments of a path lead where the path does
abbrev pub PathsLead : Type 0
PathsLead = (tables : List TableOf) (path : PathOf) → IsPath path → path_resource tables (path_segments path) ≡ path_end tables path
