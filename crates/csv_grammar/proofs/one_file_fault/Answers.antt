-- Two things wrong with one file are one: by its bytes, its one fault, its one list of records and the first other row.
use Rattle.std.proofs.Common.{◌≡◌, ℕ, zero, suc, ◌+◌, ◌<◌, List, [], ◌∷◌, ◌⊎◌, inl, inr, refl, sym, ap, ap₂, ◌∙◌, length, Some, option_map, slice_get}
use Rattle.std.specs.List.{AllByRecursion}
use Rattle.std.proofs.lemmas.Bool.{cases_order}
use Rattle.std.proofs.lemmas.Option.{same_Some, none-some}
use Rattle.csv_grammar.specs.Records.{Field}
use Rattle.csv_grammar.specs.Faults.{Cause}
use Rattle.csv_grammar.specs.Files.{mark_len, text_of, HasWidth, IsTable, FileCause, not_utf8, malformed, no_header, wrong_width, IsFirstOther, IsMalformed, IsUneven, IsFileFault}
use Rattle.csv_grammar.proofs.Viable.{records_unique, fault_unique}
use Rattle.csv_grammar.proofs.one_file_fault.Goals as goal

-- a list with a first item is not empty
none_first : {X : Type 0} (x : X) (xs : List X) → [] ≡ x ∷ xs → ⊥
none_first x xs e = cc

-- no row is the first other one before another is
not_before : (header : List Field) (rows : List (List Field)) (p q : ℕ) → IsFirstOther header rows p → IsFirstOther header rows q → p < q → ⊥
not_before header rows p q one two less =
    one.other (same_Some one.width (length header) (sym one.found ∙ two.earlier p less))

-- one row at most is the first other one
first_other : (header : List Field) (rows : List (List Field)) (p q : ℕ) → IsFirstOther header rows p → IsFirstOther header rows q → p ≡ q
first_other header rows p q one two = on (cases_order p q)
  where
    on : (p ≡ q) ⊎ ((p < q) ⊎ (q < p)) → p ≡ q
    on (inl same) = same
    on (inr (inl less)) = absurd (not_before header rows p q one two less)
    on (inr (inr more)) = absurd (not_before header rows q p two one more)

-- where each row has the header's width, none is another
none_other : (header : List Field) (rows : List (List Field)) (row : ℕ) → AllByRecursion (HasWidth (length header)) rows → ¬ (IsFirstOther header rows row)
none_other header rows row all first = first.other (width_at rows row all first.width first.found)
  where
    width_at : (rows : List (List Field)) (row : ℕ) → AllByRecursion (HasWidth (length header)) rows → (width : ℕ)
        → option_map length (slice_get rows row) ≡ Some width → width ≡ length header
    width_at [] row all width found = absurd (none-some width found)
    width_at (r ∷ rows) zero all width found = sym (same_Some (length r) width found) ∙ all.0
    width_at (r ∷ rows) (suc row) all width found = width_at rows row all.1 width found

-- two uneven texts of one file have one first other row
same_row : (bytes : List ℕ) (p q : ℕ) → IsUneven bytes p → IsUneven bytes q → p ≡ q
same_row bytes p q one two =
    let same = records_unique (text_of bytes) (one.header ∷ one.rows) (two.header ∷ two.rows) one.are two.are in
    let header : one.header ≡ two.header = cc in
    let rows : one.rows ≡ two.rows = cc in
    first_other two.header two.rows p q (rw (header, rows) at one.first) two.first

same_malformed : (bytes : List ℕ) (c d : Cause) (p q : ℕ) → IsMalformed bytes c p → IsMalformed bytes d q → malformed c p ≡ malformed d q
same_malformed bytes c d p q one two =
    let same = fault_unique (text_of bytes) one.in_text two.in_text c d one.fault two.fault in
    ap₂ malformed same.1 (one.counted ∙ (ap (λ n. mark_len bytes + n) same.0 ∙ sym two.counted))

same_fault : (bytes : List ℕ) (f g : FileCause) → IsFileFault bytes f → IsFileFault bytes g → f ≡ g
same_fault bytes (not_utf8 p) (not_utf8 q) one two = ap not_utf8 (one.1 ∙ sym two.1)
same_fault bytes (not_utf8 p) (malformed d q) one two = absurd (one.0 two.utf8)
same_fault bytes (not_utf8 p) no_header one two = absurd (one.0 two.0)
same_fault bytes (not_utf8 p) (wrong_width q) one two = absurd (one.0 two.utf8)
same_fault bytes (malformed c p) (not_utf8 q) one two = absurd (two.0 one.utf8)
same_fault bytes (malformed c p) (malformed d q) one two = same_malformed bytes c d p q one two
same_fault bytes (malformed c p) no_header one two = absurd (one.fault.outside [] two.1)
same_fault bytes (malformed c p) (wrong_width q) one two = absurd (one.fault.outside (two.header ∷ two.rows) two.are)
same_fault bytes no_header (not_utf8 q) one two = absurd (two.0 one.0)
same_fault bytes no_header (malformed d q) one two = absurd (two.fault.outside [] one.1)
same_fault bytes no_header no_header one two = refl
same_fault bytes no_header (wrong_width q) one two =
    absurd (none_first two.header two.rows (records_unique (text_of bytes) [] (two.header ∷ two.rows) one.1 two.are))
same_fault bytes (wrong_width p) (not_utf8 q) one two = absurd (two.0 one.utf8)
same_fault bytes (wrong_width p) (malformed d q) one two = absurd (two.fault.outside (one.header ∷ one.rows) one.are)
same_fault bytes (wrong_width p) no_header one two =
    absurd (none_first one.header one.rows (records_unique (text_of bytes) [] (one.header ∷ one.rows) two.1 one.are))
same_fault bytes (wrong_width p) (wrong_width q) one two = ap wrong_width (same_row bytes p q one two)

-- nothing is wrong with a table
no_fault : (bytes : List ℕ) (header : List Field) (rows : List (List Field)) (f : FileCause) → IsTable bytes header rows → ¬ (IsFileFault bytes f)
no_fault bytes header rows (not_utf8 p) table fault = fault.0 table.utf8
no_fault bytes header rows (malformed c p) table fault = fault.fault.outside (header ∷ rows) table.are
no_fault bytes header rows no_header table fault =
    none_first header rows (records_unique (text_of bytes) [] (header ∷ rows) fault.1 table.are)
no_fault bytes header rows (wrong_width p) table fault =
    let same = records_unique (text_of bytes) (fault.header ∷ fault.rows) (header ∷ rows) fault.are table.are in
    let the_header : fault.header ≡ header = cc in
    let the_rows : fault.rows ≡ rows = cc in
    none_other header rows p table.widths (rw (the_header, the_rows) at fault.first)

pub returns : goal.returns
returns c = record { one = same_fault; none = no_fault }
