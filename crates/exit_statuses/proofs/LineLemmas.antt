-- Texts in which no control character stands.
use Rattle.std.proofs.Common.{◌≡◌, ◌≤◌, ◌<◌, ◌++◌, ◌-◌, ◌&&◌, ◌==◌, ◌/◌, ◌%◌, ◌+◌, ℕ, zero, suc, Bool, cond, true, false, if◌then◌else◌, List, [], ◌∷◌, length, nat_lt, codes, Option, None, Some, Ok, refl, sym, ap, subst, inl, inr, arith, length-append}
use Rattle.std.specs.Prelude.{⊤, IfSome, is_none, nat_le, option_map}
use Rattle.std.specs.Char.{is_ascii_alphabetic}
use Rattle.std.specs.Fmt.{decimal, digit_glyph, digits, digits_onto}
use Rattle.std.specs.List.{All, list_all}
use Rattle.std.specs.Str.{NoCharPasses}
use Rattle.std.proofs.lemmas.Bool.{and_parts}
use Rattle.std.proofs.lemmas.Bool.Decides.{nat_tests}
use Rattle.std.proofs.lemmas.Option.{same_Some}
use Rattle.std.proofs.lemmas.Str.{NoCharPasses-append, encode_ascii}
use Rattle.std.proofs.Math.Seq.{take-append_seam}
use Rattle.text_escapes.specs.Escapes.{is_control}
use Rattle.csv_index.specs.declared.fault.TextFault.{TextFault}
use Rattle.csv_index.specs.declared.fault.TextFault.TheVariants as text
use Rattle.csv_index.specs.Fault.{text_cause, text_fault_text}
use Rattle.cell_types.specs.declared.fault.CellFault.{CellFault}
use Rattle.cell_types.specs.declared.fault.CellFault.TheVariants as cell
use Rattle.cell_types.specs.Fault.{cell_fault_name}
use Rattle.csvw_meta.specs.declared.fault.MetaFault.{MetaFault}
use Rattle.csvw_meta.specs.Document.{schemas_of}
use Rattle.csvw_meta.specs.Fault.{meta_fault_text}
use Rattle.csvw_meta.specs.Forms.{has_url_end, is_table_url, is_url_byte, is_word_of, table_name, url_end}
use Rattle.csvw_meta.specs.Laws.{AcceptedSchemas, IsAccepted}
use Rattle.csvw_meta.specs.Limits.{LimitsOf}
use Rattle.csvw_meta.specs.Schema.{SchemaOf}
use Rattle.table_store.specs.declared.fault.LoadFault.{LoadFault}
use Rattle.table_store.specs.declared.fault.LoadFault.TheVariants as load
use Rattle.table_store.specs.Catalog.{FolderOf, IsFirstBadTable, IsRefused}
use Rattle.table_store.specs.Fault.{TableCause, LoadCause, no_metadata, bad_cell, bad_meta, bad_table, bad_text, cell_cause, file_text, load_cause, load_fault_text}
use Rattle.table_store.specs.File.{FileOf}
use Rattle.served_folders.specs.declared.folders.FolderFault.TheVariants as folder
use Rattle.served_folders.specs.Folders.{RefusesTaken, greatest_limits}
use Rattle.exit_statuses.specs.declared.fault.ProgramFault.{ProgramFault}
use Rattle.exit_statuses.specs.declared.fault.ProgramFault.TheVariants.{Folder, Run, Script, Device, NoMemory}
use Rattle.exit_statuses.specs.Laws.{IsMet, is_printable}
use Rattle.exit_statuses.specs.Text.{fault_text}

abbrev pub IsPlain : List ℕ → Type 0
IsPlain text = NoCharPasses is_control text

pub plain_append : (xs ys : List ℕ) → IsPlain xs → IsPlain ys → IsPlain (xs ++ ys)
plain_append xs ys a b = NoCharPasses-append is_control xs ys a b

-- ---- bytes

plain_byte : (b : ℕ) → 32 ≤ b → b < 127 → is_control b ≡ false
plain_byte b low high = grind (arith, nat_tests)

one_more : (b : ℕ) (text : List ℕ) → 32 ≤ b → b < 127 → IsPlain text → IsPlain (b ∷ text)
one_more b text low high h =
    plain_append (b ∷ []) text (b ∷ [], ap (λ (e : List ℕ). e ++ []) (encode_ascii b (omega arith)), (plain_byte b low high, tt)) h

printable_low : (b : ℕ) → is_printable b ≡ true → (32 ≤ b) × (b < 127)
printable_low b h = (grind (arith, nat_tests), grind (arith, nat_tests))

pub printable_plain : (bs : List ℕ) → list_all is_printable bs ≡ true → IsPlain bs
printable_plain [] h = ([], refl, tt)
printable_plain (b ∷ bs) h =
    let parts = and_parts (is_printable b) (list_all is_printable bs) h in
    let low = printable_low b parts.0 in
    one_more b bs low.0 low.1 (printable_plain bs parts.1)

-- ---- numbers

glyph_low : (d : ℕ) → d < 10 → (32 ≤ digit_glyph false d) × (digit_glyph false d < 127)
glyph_low d h = by (nat_lt d 10)
  where
    by : (a : Bool) → (32 ≤ cond a (48 + d) (87 + d)) × (cond a (48 + d) (87 + d) < 127)
    by true = (omega arith, omega arith)
    by false = (omega arith, omega arith)

onto_plain : (k n : ℕ) (acc : List ℕ) → IsPlain acc → IsPlain (digits_onto k 10 false n acc)
onto_plain zero n acc h = h
onto_plain (suc k) n acc h =
    let low = glyph_low (n % 10) (omega arith) in
    let more = one_more (digit_glyph false (n % 10)) acc low.0 low.1 h in
    either (n / 10 == 0) _ _ more (onto_plain k (n / 10) _ more)
  where
    either : (b : Bool) (xs ys : List ℕ) → IsPlain xs → IsPlain ys → IsPlain (cond b xs ys)
    either true xs ys p q = p
    either false xs ys p q = q

pub plain_decimal : (n : ℕ) → IsPlain (decimal n)
unfolding digits
plain_decimal n = onto_plain 64 n [] ([], refl, tt)

-- ---- names of files

letter_low : (b : ℕ) → is_ascii_alphabetic b ≡ true → (32 ≤ b) × (b < 127)
letter_low b h = (grind (arith, nat_tests), grind (arith, nat_tests))

url_byte_low : (b : ℕ) → is_url_byte b ≡ true → (32 ≤ b) × (b < 127)
url_byte_low b h = (grind (arith, nat_tests), grind (arith, nat_tests))

url_bytes_plain : (bs : List ℕ) → list_all is_url_byte bs ≡ true → IsPlain bs
url_bytes_plain [] h = ([], refl, tt)
url_bytes_plain (b ∷ bs) h =
    let parts = and_parts (is_url_byte b) (list_all is_url_byte bs) h in
    let low = url_byte_low b parts.0 in
    one_more b bs low.0 low.1 (url_bytes_plain bs parts.1)

word_plain : (name : List ℕ) → is_word_of is_url_byte name ≡ true → IsPlain name
word_plain [] h = ([], refl, tt)
word_plain (b ∷ bs) h =
    let parts = and_parts (nat_lt 0 (length (b ∷ bs)) && is_ascii_alphabetic b) (list_all is_url_byte bs) h in
    let low = letter_low b (and_parts (nat_lt 0 (length (b ∷ bs))) (is_ascii_alphabetic b) parts.0).1 in
    one_more b bs low.0 low.1 (url_bytes_plain bs parts.1)

table_name_is : (url name : List ℕ) → url ≡ name ++ url_end → has_url_end url ≡ true → table_name url ≡ name
table_name_is url name e ends =
    let n : length url - length url_end ≡ length name = omega (arith, ap length e, length-append name url_end) in
    rw (ends, n, e) (take-append_seam name url_end)

-- a url of its form
url_plain : (url name : List ℕ) → is_table_url url ≡ true → url ≡ name ++ url_end → IsPlain url
url_plain url name form e =
    let short = nat_le (length url) 132 in
    let parts = and_parts (short && has_url_end url) (is_word_of is_url_byte (table_name url)) form in
    let ends = (and_parts short (has_url_end url) parts.0).1 in
    let word : is_word_of is_url_byte name ≡ true = subst (λ (n : List ℕ). is_word_of is_url_byte n ≡ true) (table_name_is url name e ends) parts.1 in
    subst IsPlain (sym e) (plain_append name url_end (word_plain name word) (printable_plain url_end refl))

-- the file of a table that is refused
first_plain : (limits : LimitsOf) (most : ℕ) (files : List FileOf) (schemas : List SchemaOf) (url : List ℕ) (cause : TableCause)
    → All (IsAccepted limits) schemas → IsFirstBadTable most files schemas url cause → IsPlain url
first_plain limits most files [] url cause accepted bad = absurd bad
first_plain limits most files (schema ∷ schemas) url cause accepted (inl bad) =
    let form = accepted 0 schema (omega arith) in subst IsPlain bad.0 (url_plain schema.url schema.name form.url form.name)
first_plain limits most files (schema ∷ schemas) url cause accepted (inr bad) =
    first_plain limits most files schemas url cause (λ k d within. accepted (suc k) d (omega arith)) bad.2

read_meta : (limits : LimitsOf) (meta : Option (List ℕ)) (schemas : List SchemaOf) → option_map (schemas_of limits) meta ≡ Some (Ok schemas)
    → (bytes : List ℕ) × (schemas_of limits bytes ≡ Ok schemas)
read_meta limits None schemas e = let bad : None ≡ Some (Ok schemas) = e in absurd (cc bad)
read_meta limits (Some bytes) schemas e = (bytes, same_Some _ _ e)

-- ---- texts of faults

-- the file that a cause names
abbrev HasPlainFile : LoadCause → Type 0
HasPlainFile no_metadata = ⊤
HasPlainFile (bad_meta cause) = ⊤
HasPlainFile (bad_table url cause) = IsPlain url

refused_plain : AcceptedSchemas → (folder : FolderOf) (cause : LoadCause) → folder.limits ≡ greatest_limits → IsRefused folder cause → HasPlainFile cause
refused_plain accepted folder no_metadata limits refused = tt
refused_plain accepted folder (bad_meta cause) limits refused = tt
refused_plain accepted folder (bad_table url cause) limits refused =
    let some : 1 ≤ folder.limits.tables = subst (λ (l : LimitsOf). 1 ≤ l.tables) (sym limits) (omega arith) in
    let meta = read_meta folder.limits folder.meta refused.0 refused.1 in
    first_plain folder.limits folder.limits.file folder.files refused.0 url cause (accepted folder.limits meta.0 refused.0 some meta.1).each refused.2

file_plain : (file cause : List ℕ) → IsPlain file → IsPlain cause → IsPlain (file_text file cause)
file_plain file cause f h = plain_append (file ++ codes ": ") cause (plain_append file (codes ": ") f (printable_plain (codes ": ") refl)) h

text_plain : (fault : TextFault) → IsPlain (text_fault_text fault)
text_plain (text.NotUtf8 at) = plain_append (codes "NotUtf8 at ") (decimal at) (printable_plain _ refl) (plain_decimal at)
text_plain (text.BareCr at) = plain_append (codes "BareCr at ") (decimal at) (printable_plain _ refl) (plain_decimal at)
text_plain (text.StrayQuote at) = plain_append (codes "StrayQuote at ") (decimal at) (printable_plain _ refl) (plain_decimal at)
text_plain (text.AfterQuote at) = plain_append (codes "AfterQuote at ") (decimal at) (printable_plain _ refl) (plain_decimal at)
text_plain (text.Unfinished at) = plain_append (codes "Unfinished at ") (decimal at) (printable_plain _ refl) (plain_decimal at)
text_plain text.NoHeader = printable_plain _ refl
text_plain (text.Width row) = plain_append (codes "Width row ") (decimal row) (printable_plain _ refl) (plain_decimal row)
text_plain text.NoMemory = printable_plain _ refl

cell_plain : (fault : CellFault) → IsPlain (cell_fault_name fault)
cell_plain cell.NotInteger = printable_plain _ refl
cell_plain cell.OutOfRange = printable_plain _ refl
cell_plain cell.NotBoolean = printable_plain _ refl
cell_plain cell.NotDate = printable_plain _ refl
cell_plain cell.Missing = printable_plain _ refl
cell_plain cell.NotDecimal = printable_plain _ refl
cell_plain cell.TooFine = printable_plain _ refl
cell_plain cell.NoMemory = printable_plain _ refl

cell_text_plain : (row col : ℕ) (fault : CellFault)
    → IsPlain (codes "Cell row " ++ decimal row ++ codes " col " ++ decimal col ++ codes " " ++ cell_fault_name fault)
cell_text_plain row col fault =
    plain_append _ (cell_fault_name fault)
    (plain_append _ (codes " ")
    (plain_append _ (decimal col)
    (plain_append _ (codes " col ")
    (plain_append (codes "Cell row ") (decimal row) (printable_plain (codes "Cell row ") refl) (plain_decimal row))
    (printable_plain (codes " col ") refl))
    (plain_decimal col))
    (printable_plain (codes " ") refl))
    (cell_plain fault)

at_plain : (cause : List ℕ) (n : ℕ) → IsPlain cause → IsPlain (cause ++ decimal n)
at_plain cause n h = plain_append cause (decimal n) h (plain_decimal n)

same_file : {url : List ℕ} {what : TableCause} {cause : LoadCause} → Some (bad_table url what) ≡ Some cause → HasPlainFile cause → IsPlain url
same_file e h = subst HasPlainFile (sym (same_Some _ _ e)) h

some_file : {F : Type 0} (url : List ℕ) (o : Option F) (what : F → TableCause) (cause : LoadCause) → option_map (λ f. bad_table url (what f)) o ≡ Some cause
    → HasPlainFile cause → IsPlain url
some_file url None what cause e h = let bad : None ≡ Some cause = e in absurd (cc bad)
some_file url (Some f) what cause e h = same_file e h

-- the text of a fault whose cause names such a file
load_plain : ((fault : MetaFault) → IsPlain (meta_fault_text fault)) → (fault : LoadFault) (cause : LoadCause) → load_cause fault ≡ Some cause
    → HasPlainFile cause → IsPlain (load_fault_text fault)
load_plain metas (load.Meta fault) cause e h = file_plain (codes "csv-metadata.json") (meta_fault_text fault) (printable_plain _ refl) (metas fault)
load_plain metas (load.FileMissing table) cause e h = file_plain _ _ (same_file e h) (printable_plain (codes "FileMissing") refl)
load_plain metas (load.FileTooLarge table) cause e h = file_plain _ _ (same_file e h) (printable_plain (codes "FileTooLarge") refl)
load_plain metas (load.Text table fault) cause e h = file_plain _ _ (some_file _ (text_cause fault) bad_text cause e h) (text_plain fault)
load_plain metas (load.Header table col) cause e h = file_plain _ _ (same_file e h) (at_plain (codes "Header col ") col (printable_plain _ refl))
load_plain metas (load.Cell table row col fault) cause e h = file_plain _ _ (some_file _ (cell_cause fault) (bad_cell row col) cause e h) (cell_text_plain row col fault)
load_plain metas (load.KeyNull table row) cause e h = file_plain _ _ (same_file e h) (at_plain (codes "KeyNull row ") row (printable_plain _ refl))
load_plain metas (load.KeyTwice table row) cause e h = file_plain _ _ (same_file e h) (at_plain (codes "KeyTwice row ") row (printable_plain _ refl))
load_plain metas load.NoMemory cause e h = let bad : None ≡ Some cause = e in absurd (cc bad)

module _ (accepted : AcceptedSchemas) (metas : (fault : MetaFault) → IsPlain (meta_fault_text fault)) (taken : Option FolderOf) where
  refusal_plain : (fault : LoadFault) (o : Option LoadCause) → load_cause fault ≡ o → IfSome o (RefusesTaken taken)
      → IsPlain (if is_none o then [] else codes "refused: " ++ load_fault_text fault)
  refusal_plain fault None e h = ([], refl, tt)
  refusal_plain fault (Some cause) e h =
      plain_append (codes "refused: ") (load_fault_text fault) (printable_plain (codes "refused: ") refl)
      (load_plain metas fault cause e (refused_plain accepted h.folder cause h.limits h.refused))

  pub fault_plain : (fault : ProgramFault) → IsMet taken fault → IsPlain (fault_text fault)
  fault_plain (Folder folder.NoMetadata) h = printable_plain (codes "refused: csv-metadata.json: NoMetadata") refl
  fault_plain (Folder (folder.Load fault)) h = refusal_plain fault (load_cause fault) refl h
  fault_plain (Folder folder.Device) h = ([], refl, tt)
  fault_plain (Folder folder.NoMemory) h = ([], refl, tt)
  fault_plain (Run fault) h = ([], refl, tt)
  fault_plain (Script line) h =
      plain_append (codes "line " ++ decimal line) (codes ": bad command")
      (plain_append (codes "line ") (decimal line) (printable_plain (codes "line ") refl) (plain_decimal line))
      (printable_plain (codes ": bad command") refl)
  fault_plain Device h = ([], refl, tt)
  fault_plain NoMemory h = ([], refl, tt)
