-- The number of the table that a path leads into is that of one.
use Rattle.std.proofs.Common.{◌≡◌, ◌<◌, ℕ, Bool, true, false, refl, List, [], ◌∷◌, length, Option, Some, None, Result, Ok, Err, if◌then◌else◌}
use Rattle.std.specs.Prelude.{◌==◌, position}
use Rattle.std.specs.List.{after_first, before_first}
use Rattle.std.specs.Str.{bytes_eq}
use Rattle.std.proofs.lemmas.List.Quantifiers.{position-Some}
use Rattle.table_store.specs.Table.{TableOf}
use Rattle.odata_url.specs.OptionName.{begins_with, dollar_sign}
use Rattle.odata_errors.specs.declared.code.Code.{Code}
use Rattle.odata_errors.specs.declared.code.Code.TheVariants.{NotServed}
use Rattle.odata_request.specs.Resource.{ResourceOf, LeadsInside, count, has_parenthesis, in_table, is_count_path, is_parenthesis, key, key_resource, known_number, one_resource, other_resource, path_resource, rows, segment_resource, service, resource_table, table_number, without_end}

number_inside : (tables : List TableOf) (name : List ℕ) (n : ℕ) → position (λ t. bytes_eq t.schema.name name) tables ≡ Some n → n < length tables
number_inside [] name n e = let bad : None ≡ Some n = e in absurd (cc bad)
number_inside (table ∷ tables) name n e = (position-Some (λ t. bytes_eq t.schema.name name) (table ∷ tables) n table e).0

table_inside : (tables : List TableOf) (leads : ℕ → ResourceOf) → ((n : ℕ) → resource_table (leads n) ≡ Some n) → (o : Option ℕ)
    → ((n : ℕ) → o ≡ Some n → n < length tables) → LeadsInside tables (in_table leads (known_number o))
table_inside tables leads at None h = tt
table_inside tables leads at (Some n) h = rw at (h n refl)

either_inside : (tables : List TableOf) (b : Bool) (x y : Result ResourceOf Code) → LeadsInside tables x → LeadsInside tables y
    → LeadsInside tables (if b then x else y)
either_inside tables true x y h k = h
either_inside tables false x y h k = k

named_inside : (tables : List TableOf) (leads : ℕ → ResourceOf) → ((n : ℕ) → resource_table (leads n) ≡ Some n) → (name : List ℕ)
    → LeadsInside tables (in_table leads (table_number tables name))
named_inside tables leads at name = table_inside tables leads at (position (λ t. bytes_eq t.schema.name name) tables) (number_inside tables name)

key_inside : (tables : List TableOf) (name : List ℕ) (text : Option (List ℕ)) → LeadsInside tables (key_resource tables name text)
key_inside tables name None = tt
key_inside tables name (Some text) = named_inside tables (λ n. key n text) (λ n. refl) name

segment_inside : (tables : List TableOf) (segment : List ℕ) → LeadsInside tables (segment_resource tables segment)
segment_inside tables segment =
    either_inside tables (has_parenthesis segment) (key_resource tables (before_first is_parenthesis segment) (without_end (after_first is_parenthesis segment)))
    (in_table rows (table_number tables segment))
    (key_inside tables (before_first is_parenthesis segment) (without_end (after_first is_parenthesis segment)))
    (named_inside tables rows (λ n. refl) segment)

one_inside : (tables : List TableOf) (segment : List ℕ) → LeadsInside tables (one_resource tables segment)
one_inside tables segment =
    either_inside tables (length segment == 0) (Ok service)
    (if begins_with dollar_sign segment then Err NotServed else segment_resource tables segment) tt
    (either_inside tables (begins_with dollar_sign segment) (Err NotServed) (segment_resource tables segment) tt
    (segment_inside tables segment))

pub path_inside : (tables : List TableOf) (segments : List (List ℕ)) → LeadsInside tables (path_resource tables segments)
path_inside tables [] = tt
path_inside tables (segment ∷ []) = one_inside tables segment
path_inside tables (segment ∷ behind ∷ []) =
    either_inside tables (is_count_path segment behind) (in_table count (table_number tables segment)) (other_resource (segment ∷ behind ∷ []))
    (named_inside tables count (λ n. refl) segment) tt
path_inside tables (segment ∷ behind ∷ other ∷ segments) = tt
