-- The first file of a name, where bytes are moved out of a file.
use Rattle.std.proofs.Common.{◌≡◌, ℕ, Bool, true, false, cond, List, [], ◌∷◌, map, Option, Some, option_map, None, get_or, slice_get, slice_set, length, ◌≤◌, nat_lt, string_bytes, refl, ap, sym, ◌∙◌, arith}
use Rattle.std.specs.List.{find, position, position_or_len}
use Rattle.std.proofs.lemmas.Bool.Decides.{nat_tests}
use Rattle.std.proofs.lemmas.Option.{slice_get_past}
use Rattle.std.proofs.lemmas.List.Folds.{find_at, find_past}
use Rattle.std.proofs.lemmas.List.Sums.{position_or_len_is}
use Rattle.std.proofs.lemmas.List.Quantifiers.{position-Some}
use Rattle.std.proofs.lemmas.Slice.Eq.{bytes_eq-Decides}
use Rattle.std.specs.Str.{bytes_eq}
use Rattle.cell_types.proofs.CaseLaws.{cond_none}
use Rattle.table_store.specs.declared.file.NamedFile.{NamedFile}
use Rattle.table_store.specs.File.{FileOf, file_view, file_named}
use Rattle.file_cells.proofs.PlaceLemmas.{slice_get-from_read}

named-first : (b : Bool) (file : NamedFile) (rest : Option NamedFile) (more : Option FileOf) → option_map (λ (f : FileOf). f.bytes) more ≡ option_map (λ f. f.bytes.items) rest
    → option_map (λ (f : FileOf). f.bytes) (cond b (Some (file_view file)) more) ≡ option_map (λ f. f.bytes.items) (cond b (Some file) rest)
named-first true file rest more e = refl
named-first false file rest more e = e

pub file_named-find : (name : List ℕ) (files : List NamedFile)
    → file_named name (map file_view files) ≡ option_map (λ f. f.bytes.items) (find (λ f. bytes_eq (string_bytes f.name) name) files)
file_named-find name [] = refl
file_named-find name (file ∷ files) =
    named-first (bytes_eq (string_bytes file.name) name) file (find (λ f. bytes_eq (string_bytes f.name) name) files) (find (λ (f : FileOf). bytes_eq f.name name) (map file_view files)) (file_named-find name files)

-- what the first place holds
pub find-at_place : {X : Type 0} (p : X → Bool) (xs : List X) (i : ℕ) (x : X) → position p xs ≡ Some i → x ≡ get_or xs i x → find p xs ≡ Some x
find-at_place p xs i x e h =
    let first = position-Some p xs i x e in
    let at : position_or_len p xs ≡ i = position_or_len_is p xs i x (omega (arith, first.0)) first.2 (λ _. first.1) in
    find_at p xs ∙ ap (slice_get xs) at ∙ slice_get-from_read xs i x first.0 h

not_below : (i n : ℕ) → nat_lt i n ≡ false → n ≤ i
not_below i n e = grind (arith, nat_tests)

-- there is none where there is no place
pub find-none : {X : Type 0} (p : X → Bool) (xs : List X) → position p xs ≡ None → find p xs ≡ None
find-none p xs e =
    let past : nat_lt (position_or_len p xs) (length xs) ≡ false = cond_none (nat_lt (position_or_len p xs) (length xs)) (position_or_len p xs) e in
    find_at p xs ∙ slice_get_past xs (position_or_len p xs) (not_below (position_or_len p xs) (length xs) past)

-- the bytes of the first file of a name
pub file_named-at : (name : List ℕ) (files : List NamedFile) (place : ℕ) (file : NamedFile)
    → position (λ f. bytes_eq (string_bytes f.name) name) files ≡ Some place → file ≡ get_or files place file → file_named name (map file_view files) ≡ Some file.bytes.items
file_named-at name files place file e at =
    file_named-find name files ∙ ap (option_map (λ f. f.bytes.items)) (find-at_place (λ f. bytes_eq (string_bytes f.name) name) files place file e at)

pub file_named-none : (name : List ℕ) (files : List NamedFile) → position (λ f. bytes_eq (string_bytes f.name) name) files ≡ None → file_named name (map file_view files) ≡ None
file_named-none name files e = file_named-find name files ∙ ap (option_map (λ f. f.bytes.items)) (find-none (λ f. bytes_eq (string_bytes f.name) name) files e)

same_name : (a b c : List ℕ) → bytes_eq a b ≡ true → bytes_eq b c ≡ false → bytes_eq a c ≡ false
same_name a b c e other = let same : a ≡ b = (bytes_eq-Decides a b).0 e in rw same other

-- where bytes are moved out of that file, the files of other names are as they were
pub file_named-other : (name : List ℕ) (files : List NamedFile) (place : ℕ) (file new : NamedFile)
    → position (λ f. bytes_eq (string_bytes f.name) name) files ≡ Some place → file ≡ get_or files place file → string_bytes new.name ≡ string_bytes file.name
    → (other : List ℕ) → bytes_eq name other ≡ false
    → file_named other (map file_view (slice_set files place new)) ≡ file_named other (map file_view files)
file_named-other name files place file new e at same other differs =
    let first = position-Some (λ f. bytes_eq (string_bytes f.name) name) files place file e in
    let named : bytes_eq (string_bytes file.name) name ≡ true = ap (λ f. bytes_eq (string_bytes f.name) name) at ∙ first.1 in
    let not_it : bytes_eq (string_bytes file.name) other ≡ false = same_name (string_bytes file.name) name other named differs in
    let was : bytes_eq (string_bytes (get_or files place file).name) other ≡ false = ap (λ f. bytes_eq (string_bytes f.name) other) (sym at) ∙ not_it in
    let is : bytes_eq (string_bytes new.name) other ≡ false = ap (λ n. bytes_eq n other) same ∙ not_it in
    file_named-find other (slice_set files place new)
    ∙ ap (option_map (λ f. f.bytes.items)) (find_past (λ f. bytes_eq (string_bytes f.name) other) files place new file was is)
    ∙ sym (file_named-find other files)
