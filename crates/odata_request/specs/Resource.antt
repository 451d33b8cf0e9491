-- What a path leads to (OData 4.01 Part 2, URL Conventions, section 4).
use Rattle.std.specs.Prelude.{ℕ, ◌-◌, ◌<◌, ⊤, Bool, ◌&&◌, not, ◌==◌, nat_eq, List, [], ◌∷◌, length, codes, if◌then◌else◌, Option, None, Some, IfSome, Result, Ok, Err, position, take}
use Rattle.std.specs.List.{after_first, before_first, ends_with, list_any}
use Rattle.std.specs.Str.{bytes_eq}
use Rattle.table_store.specs.Table.{TableOf}
use Rattle.odata_url.specs.OptionName.{begins_with, dollar_sign}
use Rattle.odata_errors.specs.declared.code.Code.{Code}
use Rattle.odata_errors.specs.declared.code.Code.TheVariants.{NotServed, NotFound, UnknownSet}
use Rattle.odata_request.specs.declared.resource.Resource.{Resource}
use Rattle.odata_request.specs.declared.resource.Resource.TheVariants.{Service, Rows, Count, Key}

-- the service document; or of the table of a number, from 0: its rows, how many they are, or the row whose key a text is
pub data ResourceOf : Type 0 where
  service : ResourceOf
  rows : ℕ → ResourceOf
  count : ℕ → ResourceOf
  key : ℕ → List ℕ → ResourceOf

abbrev pub resource_view : Resource → ResourceOf
resource_view Service = service
resource_view (Rows number) = rows number
resource_view (Count number) = count number
resource_view (Key number text) = key number text.now

-- seen so, where there is one
abbrev pub path_view : Result Resource Code → Result ResourceOf Code
path_view (Ok resource) = Ok (resource_view resource)
path_view (Err code) = Err code

abbrev pub known_number : Option ℕ → Result ℕ Code
known_number None = Err UnknownSet
known_number (Some number) = Ok number

-- the number of the table of that name, from 0
abbrev pub table_number : List TableOf → List ℕ → Result ℕ Code
table_number tables name = known_number (position (λ table. bytes_eq table.schema.name name) tables)

-- what leads into a table
abbrev pub in_table : (ℕ → ResourceOf) → Result ℕ Code → Result ResourceOf Code
in_table leads (Ok number) = Ok (leads number)
in_table leads (Err code) = Err code

-- `(`, with which a key begins (section 4.3.1)
abbrev pub is_parenthesis : ℕ → Bool
is_parenthesis b = b == 40

abbrev pub has_parenthesis : List ℕ → Bool
has_parenthesis segment = list_any is_parenthesis segment

-- what stands before a `)` at the end
abbrev pub without_end : List ℕ → Option (List ℕ)
without_end text = if ends_with nat_eq text (codes ")") then Some (take (length text - 1) text) else None

-- a table's name with a key after it, where that ended
abbrev pub key_resource : List TableOf → List ℕ → Option (List ℕ) → Result ResourceOf Code
key_resource tables name None = Err NotFound
key_resource tables name (Some text) = in_table (λ number. key number text) (table_number tables name)

-- a segment: a table's name, perhaps with a key after the first `(` and before a `)` at the end
abbrev pub segment_resource : List TableOf → List ℕ → Result ResourceOf Code
segment_resource tables segment =
    if has_parenthesis segment
    then key_resource tables (before_first is_parenthesis segment) (without_end (after_first is_parenthesis segment))
    else in_table rows (table_number tables segment)

-- one segment: an empty one is the service document, and one that begins with `$` is reserved
abbrev pub one_resource : List TableOf → List ℕ → Result ResourceOf Code
one_resource tables segment =
    if length segment == 0 then Ok service
    else (if begins_with dollar_sign segment then Err NotServed else segment_resource tables segment)

-- any other path
abbrev pub other_resource : List (List ℕ) → Result ResourceOf Code
other_resource segments = Err (if list_any (begins_with dollar_sign) segments then NotServed else NotFound)

-- a table's number of rows: a segment without a key, and `$count` after it (section 4.8)
abbrev pub is_count_path : List ℕ → List ℕ → Bool
is_count_path segment behind = not (begins_with dollar_sign segment) && not (has_parenthesis segment) && bytes_eq behind (codes "$count")

abbrev pub two_resource : List TableOf → List ℕ → List ℕ → Result ResourceOf Code
two_resource tables segment behind =
    if is_count_path segment behind then in_table count (table_number tables segment) else other_resource (segment ∷ behind ∷ [])

-- what a path leads to, or the code under which it is refused
abbrev pub path_resource : List TableOf → List (List ℕ) → Result ResourceOf Code
path_resource tables (segment ∷ []) = one_resource tables segment
path_resource tables (segment ∷ behind ∷ []) = two_resource tables segment behind
path_resource tables segments = other_resource segments

-- the table that a resource is of
abbrev pub resource_table : ResourceOf → Option ℕ
resource_table service = None
resource_table (rows number) = Some number
resource_table (count number) = Some number
resource_table (key number text) = Some number

-- the table that a path leads into is one of these
abbrev pub IsOfTables : List TableOf → ResourceOf → Type 0
IsOfTables tables resource = IfSome (resource_table resource) (λ number. number < length tables)

abbrev pub LeadsInside : List TableOf → Result ResourceOf Code → Type 0
LeadsInside tables (Ok resource) = IsOfTables tables resource
LeadsInside tables (Err code) = ⊤
