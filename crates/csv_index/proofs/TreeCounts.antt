-- What the roles of a tree's bytes count, and whether they end after a record.
use Rattle.std.proofs.Common.{◌≡◌, ℕ, zero, suc, ◌+◌, ◌-◌, ◌<◌, List, [], ◌∷◌, ◌++◌, length, append_assoc, append-nil, map, Bool, true, false, cond, Option, Some, None, refl, sym, ap, ◌∙◌, subst, arith}
use Rattle.std.specs.Prelude.{option_to_list, IfSome, is_some}
use Rattle.std.specs.List.{AllByRecursion, flat_map}
use Rattle.std.proofs.lemmas.List.{length_push}
use Rattle.csv_grammar.specs.Records.{Field, print_field, IsRecord, IsLast, LineBreak, crlf, lf, Line, CsvText, IsText, records_of}
use Rattle.csv_grammar.specs.Structure.{Role, separator, record_end, inner, field_roles, record_roles, break_roles, line_roles, last_roles, text_roles}
use Rattle.csv_index.specs.Widths.{CountsWidths, uncounted, record_ended, with_places, role_counted, roles_counted}
use Rattle.csv_index.specs.Reading.{role_open, open_after}
use Rattle.csv_index.specs.declared.widths.Widths.{Widths}
use Rattle.csv_index.proofs.Counting.{counts_push}
use Rattle.csv_index.proofs.Trees.{length-record_roles}

-- ---- whether bytes stand after the end of a record

pub open_after-append : (was : Bool) (xs ys : List Role) → open_after was (xs ++ ys) ≡ open_after (open_after was xs) ys
open_after-append was [] ys = refl
open_after-append was (x ∷ xs) ys = open_after-append (role_open x) xs ys

abbrev pub AreOpen : List Role → Type 0
AreOpen roles = AllByRecursion (λ role. role_open role ≡ true) roles

open_true : (roles : List Role) → AreOpen roles → open_after true roles ≡ true
open_true [] all = refl
open_true (role ∷ roles) all = ap (λ t. open_after t roles) all.0 ∙ open_true roles all.1

open_some : (was : Bool) (roles : List Role) → AreOpen roles → 0 < length roles → open_after was roles ≡ true
open_some was [] all some = absurd (omega arith)
open_some was (role ∷ roles) all some = ap (λ t. open_after t roles) all.0 ∙ open_true roles all.1

inner_open : (bytes : List ℕ) (roles : List Role) → AreOpen roles → AreOpen (map (λ _. inner) bytes ++ roles)
inner_open [] roles all = all
inner_open (b ∷ bytes) roles all = (refl, inner_open bytes roles all)

record_open : (fields : List Field) → AreOpen (record_roles fields)
record_open [] = tt
record_open (field ∷ []) = subst AreOpen (append-nil (field_roles field)) (inner_open (print_field field) [] tt)
record_open (field ∷ next ∷ fields) = inner_open (print_field field) (separator ∷ record_roles (next ∷ fields)) (refl, record_open (next ∷ fields))

line_closed : (was : Bool) (line : Line) → open_after was (line_roles line) ≡ false
line_closed was line = open_after-append was (record_roles line.fields) (break_roles line.end) ∙ on (open_after was (record_roles line.fields)) line.end
  where
    on : (b : Bool) (end : LineBreak) → open_after b (break_roles end) ≡ false
    on b crlf = refl
    on b lf = refl

lines_closed : (lines : List Line) (roles : List Role) → open_after false (flat_map line_roles lines ++ roles) ≡ open_after false roles
lines_closed [] roles = refl
lines_closed (line ∷ lines) roles =
    ap (open_after false) (append_assoc (line_roles line) (flat_map line_roles lines) roles)
    ∙ open_after-append false (line_roles line) (flat_map line_roles lines ++ roles)
    ∙ ap (λ t. open_after t (flat_map line_roles lines ++ roles)) (line_closed false line)
    ∙ lines_closed lines roles

last_open : (last : Option (List Field)) → IfSome last IsLast → open_after false (last_roles last) ≡ is_some last
last_open None valid = refl
last_open (Some fields) valid = open_some false (record_roles fields) (record_open fields) (omega (arith, length-record_roles fields, valid.1))

pub tree_open : (tree : CsvText) → IsText tree → open_after false (text_roles tree) ≡ is_some tree.last
tree_open tree valid = lines_closed tree.lines (last_roles tree.last) ∙ last_open tree.last valid.last

-- ---- the widths

inner_counts : (w : Widths) (bytes : List ℕ) (more : List Role) → roles_counted w (map (λ _. inner) bytes ++ more) ≡ roles_counted w more
inner_counts w [] more = refl
inner_counts w (b ∷ bytes) more = inner_counts w bytes more

record_counts : (w : Widths) (fields : List Field) (more : List Role) (n : ℕ) → length fields ≡ n + 1
    → roles_counted w (record_roles fields ++ more) ≡ roles_counted (with_places w n) more
record_counts w [] more n e = absurd (omega arith)
record_counts w (field ∷ []) more n e =
    let none : w.places + n ≡ w.places = omega arith in
    inner_counts w (print_field field) more ∙ ap (λ k. roles_counted (record w { places = k }) more) (sym none)
record_counts w (field ∷ next ∷ fields) more zero e = absurd (omega arith)
record_counts w (field ∷ next ∷ fields) more (suc n) e =
    let sum : w.places + 1 + n ≡ w.places + suc n = omega arith in
    ap (roles_counted w) (append_assoc (field_roles field) (separator ∷ record_roles (next ∷ fields)) more)
    ∙ inner_counts w (print_field field) (separator ∷ record_roles (next ∷ fields) ++ more)
    ∙ record_counts (with_places w 1) (next ∷ fields) more n (omega arith)
    ∙ ap (λ k. roles_counted (record w { places = k }) more) sum

line_counts : (w : Widths) (line : Line) (more : List Role) (n : ℕ) → length line.fields ≡ n + 1
    → roles_counted w (line_roles line ++ more) ≡ roles_counted (role_counted (with_places w n) record_end) more
line_counts w line more n e =
    ap (roles_counted w) (append_assoc (record_roles line.fields) (break_roles line.end) more)
    ∙ record_counts w line.fields (break_roles line.end ++ more) n e
    ∙ on line.end
  where
    on : (end : LineBreak) → roles_counted (with_places w n) (break_roles end ++ more) ≡ roles_counted (role_counted (with_places w n) record_end) more
    on crlf = refl
    on lf = refl

-- what is counted of whole records
pub record AreCounted (records : List (List Field)) (w : Widths) : Type 0 where
  pub count : w.records ≡ length records
  pub widths : CountsWidths w.width w.uneven records

counted_more : (records : List (List Field)) (fields : List Field) (w : Widths) (n : ℕ) → length fields ≡ n + 1 → w.start ≡ w.places → AreCounted records w
    → AreCounted (records ++ fields ∷ []) (record_ended (with_places w n) (w.places + n))
counted_more records fields w n e none counted = record {
  count = omega (arith, length_push records fields, counted.count);
  widths = counts_push (with_places w n) (w.places + n + 1 - w.start) records fields counted.count (omega arith) counted.widths;
}

-- after lines
pub record CountsOn (records : List (List Field)) (w : Widths) (roles more : List Role) : Type 0 where
  pub behind : Widths
  pub counted : AreCounted records behind
  pub none : behind.start ≡ behind.places
  pub is : roles_counted w roles ≡ roles_counted behind more

lines_counted : (records : List (List Field)) (lines : List Line) (w : Widths) (more : List Role) → AllByRecursion (λ line. IsRecord line.fields) lines
    → w.start ≡ w.places → AreCounted records w → CountsOn (records ++ map (λ line. line.fields) lines) w (flat_map line_roles lines ++ more) more
lines_counted records [] w more valid none counted = record {
  behind = w;
  counted = subst (λ rs. AreCounted rs w) (sym (append-nil records)) counted;
  none = none;
  is = refl;
}
lines_counted records (line ∷ lines) w more valid none counted =
    let n : ℕ = length line.fields - 1 in
    let e : length line.fields ≡ n + 1 = omega (arith, valid.0.0) in
    let these = counted_more records line.fields w n e none counted in
    let next = lines_counted (records ++ line.fields ∷ []) lines (role_counted (with_places w n) record_end) more valid.1 refl (record { count = these.count; widths = these.widths }) in record {
      behind = next.behind;
      counted = subst (λ rs. AreCounted rs next.behind) (append_assoc records (line.fields ∷ []) (map (λ (l : Line). l.fields) lines)) next.counted;
      none = next.none;
      is = ap (roles_counted w) (append_assoc (line_roles line) (flat_map line_roles lines) more) ∙ line_counts w line (flat_map line_roles lines ++ more) n e ∙ next.is;
    }

none_counted : AreCounted [] uncounted
none_counted = record { count = refl; widths = refl }

-- the records of lines
abbrev pub line_records : List Line → List (List Field)
line_records lines = map (λ line. line.fields) lines

-- with the last record, where it has no line break
abbrev pub counted_if : Bool → Widths → Widths
counted_if was w = cond was (record_ended w w.places) w

pub tree_counted : (tree : CsvText) → IsText tree → AreCounted (records_of tree) (counted_if (is_some tree.last) (roles_counted uncounted (text_roles tree)))
tree_counted tree valid = on tree.last valid.last
  where
    on : (last : Option (List Field)) → IfSome last IsLast
        → AreCounted (line_records tree.lines ++ option_to_list last) (counted_if (is_some last) (roles_counted uncounted (flat_map line_roles tree.lines ++ last_roles last)))
    on None ends =
        let c = lines_counted [] tree.lines uncounted [] valid.lines refl none_counted in
        subst (λ w. AreCounted (line_records tree.lines ++ []) w) (sym c.is) (subst (λ rs. AreCounted rs c.behind) (sym (append-nil (line_records tree.lines))) c.counted)
    on (Some fields) ends =
        let n : ℕ = length fields - 1 in
        let e : length fields ≡ n + 1 = omega (arith, ends.0.0) in
        let c = lines_counted [] tree.lines uncounted (record_roles fields) valid.lines refl none_counted in
        let whole : roles_counted uncounted (flat_map line_roles tree.lines ++ record_roles fields) ≡ with_places c.behind n =
        c.is ∙ ap (roles_counted c.behind) (sym (append-nil (record_roles fields))) ∙ record_counts c.behind fields [] n e in
        subst (λ w. AreCounted (line_records tree.lines ++ fields ∷ []) (record_ended w w.places)) (sym whole) (counted_more (line_records tree.lines) fields c.behind n e c.none c.counted)
