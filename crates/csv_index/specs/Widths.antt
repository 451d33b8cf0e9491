-- How many fields the records have, counted role by role.
use Rattle.std.specs.Prelude.{◌≡◌, ℕ, zero, suc, ◌+◌, ◌-◌, List, [], ◌∷◌, length, if◌then◌else◌, ◌==◌, ◌||◌, Option, None, Some, is_some}
use Rattle.std.specs.List.{AllByRecursion}
use Rattle.std.specs.Int.{bit_at}
use Rattle.csv_grammar.specs.Records.{Field}
use Rattle.csv_grammar.specs.Files.{HasWidth, IsFirstOther}
use Rattle.csv_grammar.specs.Structure.{Role, separator, record_end, inner}
use Rattle.csv_index.specs.declared.widths.Widths.{Widths}

-- before the first byte
abbrev pub uncounted : Widths
uncounted = record { places = 0; start = 0; records = 0; width = 0; uneven = None }

-- the first record's width, if one more record of `fields` fields ends
abbrev pub width_with : Widths → ℕ → ℕ
width_with w fields = if w.records == 0 then fields else w.width

-- the first row of another width, likewise
abbrev pub uneven_with : Widths → ℕ → Option ℕ
uneven_with w fields = if is_some w.uneven || fields == width_with w fields then w.uneven else Some (w.records - 1)

-- the record under way ends at the structural place of that number, the first of which is 0: each of its fields ends at one
abbrev pub record_ended : Widths → ℕ → Widths
record_ended w at = record w {
  start = at + 1;
  records = w.records + 1;
  width = width_with w (at + 1 - w.start);
  uneven = uneven_with w (at + 1 - w.start);
}

-- `n` structural places more, none of which ends a record
abbrev pub with_places : Widths → ℕ → Widths
with_places w n = record w { places = w.places + n }

-- after one more byte of that role
abbrev pub role_counted : Widths → Role → Widths
role_counted w separator = record w { places = w.places + 1 }
role_counted w record_end = record (record_ended w w.places) { places = w.places + 1 }
role_counted w inner = w

abbrev pub roles_counted : Widths → List Role → Widths
roles_counted w [] = w
roles_counted w (role ∷ roles) = roles_counted (role_counted w role) roles

-- the role that the masks of a block give to a byte; where the first has the ends of records too, they are these
abbrev pub mask_role : ℕ → ℕ → ℕ → Role
mask_role sep eol i = if bit_at eol i == 1 then record_end else (if bit_at sep i == 1 then separator else inner)

-- the roles that they give to n bytes from byte i on
unfoldable pub mask_roles : ℕ → ℕ → ℕ → ℕ → List Role
mask_roles sep eol i zero = []
mask_roles sep eol i (suc n) = mask_role sep eol i ∷ mask_roles sep eol (i + 1) n

-- the first is the width of these records' first, and the second the first row of another width
abbrev pub CountsWidths : ℕ → Option ℕ → List (List Field) → Type 0
CountsWidths width uneven [] = uneven ≡ None
CountsWidths width None (header ∷ rows) = (width ≡ length header) × AllByRecursion (HasWidth (length header)) rows
CountsWidths width (Some row) (header ∷ rows) = (width ≡ length header) × IsFirstOther header rows row
