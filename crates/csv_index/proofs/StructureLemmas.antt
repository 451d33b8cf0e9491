-- What is known of a text that is read whole.
use Rattle.std.proofs.Common.{◌≡◌, ℕ, ◌+◌, ◌*◌, ◌^◌, ◌<◌, ◌≤◌, List, ◌++◌, length, length-drop, take, drop, Bool, false, cond, Option, Some, None, refl, sym, ap, ◌∙◌, subst, arith, inr}
use Rattle.std.specs.Prelude.{IsUtf8, option_to_list, is_some}
use Rattle.std.specs.Str.{IsCharBoundary}
use Rattle.std.proofs.lemmas.List.{take_all}
use Rattle.std.proofs.lemmas.Str.{IsUtf8-drop}
use Rattle.csv_grammar.specs.Records.{Field, CsvText, records_of, AreRecords}
use Rattle.csv_grammar.specs.Faults.{unfinished, cause_at, HasFault}
use Rattle.csv_grammar.specs.Files.{malformed}
use Rattle.csv_grammar.specs.Structure.{text_roles, AreRoles}
use Rattle.csv_grammar.specs.Following.{TextCarry}
use Rattle.csv_grammar.specs.Laws.{OneStructure}
use Rattle.csv_index.specs.Widths.{CountsWidths, uncounted, roles_counted}
use Rattle.csv_index.specs.Structure.{all_fields, Cuts, ends_of, ReadsAsRecords, HasTextFault}
use Rattle.csv_index.specs.Fault.{text_cause}
use Rattle.csv_index.specs.declared.fault.TextFault.{TextFault}
use Rattle.csv_index.specs.declared.fault.TextFault.TheVariants.{Unfinished}
use Rattle.csv_index.specs.declared.widths.Widths.{Widths}
use Rattle.csv_index.specs.Reading.{role_places, open_after, HasReadText}
use Rattle.csv_index.proofs.Trees.{last_end, tree_pieces, tree_texts}
use Rattle.csv_index.proofs.TreeCounts.{tree_open, counted_if, tree_counted}

-- the end of a last record that is unended
abbrev pub end_if : Bool → ℕ → Option ℕ
end_if was size = cond was (Some size) None

last_end-is : (size : ℕ) (last : Option (List Field)) → end_if (is_some last) size ≡ last_end size last
last_end-is size None = refl
last_end-is size (Some fields) = refl

pub reads_as : (laws : OneStructure) (file : List ℕ) (mark n : ℕ) (carry : TextCarry) (blocks : List ℕ) (widths : Widths) (was : Bool) → IsUtf8 file → mark ≤ length file
    → IsCharBoundary file mark → HasReadText (drop mark file) n carry blocks widths was → length (drop mark file) ≤ 64 * n → mark + 64 * n + 64 < 2 ^ 64
    → (records : List (List Field)) × AreRecords (drop mark file) records
    → (records : List (List Field)) × ReadsAsRecords file mark records blocks (end_if was (length file)) (counted_if was widths)
reads_as laws file mark n carry blocks widths was utf8 within boundary read all room (records, are) =
    let tree : CsvText = are.tree in
    let text : List ℕ = drop mark file in
    let whole : take (64 * n) text ≡ text = take_all (64 * n) text all in
    let mine : AreRoles text read.roles = subst (λ t. AreRoles t read.roles) whole read.are in
    let same : read.roles ≡ text_roles tree = laws.one text read.roles (text_roles tree) mine (subst (λ t. AreRoles t (text_roles tree)) (sym are.printed) (laws.whole tree are.valid)) in
    let unended : was ≡ is_some tree.last = read.state ∙ ap (open_after false) same ∙ tree_open tree are.valid in
    let pieces = tree_pieces file mark tree are.valid within are.printed in
    let ends : ends_of mark blocks (end_if was (length file)) ≡ role_places mark (text_roles tree) ++ option_to_list (last_end (length file) tree.last) =
    ap (λ l. l ++ option_to_list (end_if was (length file))) (read.places mark ∙ ap (role_places mark) same)
    ∙ ap (λ o. role_places mark (text_roles tree) ++ option_to_list o) (ap (λ t. end_if t (length file)) unended ∙ last_end-is (length file) tree.last) in
    let counts : counted_if was widths ≡ counted_if (is_some tree.last) (roles_counted uncounted (text_roles tree)) =
    ap (λ t. counted_if t widths) unended ∙ ap (counted_if (is_some tree.last)) (read.counted ∙ ap (roles_counted uncounted) same) in
    let c = tree_counted tree are.valid in (
      records_of tree,
      record {
        are = record { tree = tree; valid = are.valid; printed = are.printed; are = refl };
        cuts = subst (λ l. Cuts file mark l (all_fields (records_of tree))) (sym ends) (record {
          raws = pieces.are;
          rise = pieces.rise;
          text = tree_texts tree (subst IsUtf8 are.printed (IsUtf8-drop file mark utf8 boundary));
          boundary = boundary;
          ascii = pieces.ascii;
        });
        count = ap (λ (w : Widths). w.records) counts ∙ c.count;
        widths = subst (λ (w : Widths). CountsWidths w.width w.uneven (records_of tree)) (sym counts) c.widths;
        room = omega (arith, read.count, room);
      },
    )

pub tells : (file t : List ℕ) (mark place : ℕ) (e : TextFault) → t ≡ drop mark file → HasFault (drop mark file) place (cause_at (drop mark file) place)
    → text_cause e ≡ Some (malformed (cause_at t place) (mark + place)) → HasTextFault e file mark
tells file t mark place e is fault cause = inr (place, cause_at (drop mark file) place, fault, cause ∙ ap (λ x. Some (malformed (cause_at x place) (mark + place))) is)

-- the whole text is a front that is not finished
pub tells_end : (file : List ℕ) (mark n : ℕ) → mark ≤ length file → length (drop mark file) ≤ 64 * n
    → HasFault (take (64 * n) (drop mark file)) (length (take (64 * n) (drop mark file))) unfinished → HasTextFault (Unfinished (length file)) file mark
tells_end file mark n within all fault =
    let text : List ℕ = drop mark file in
    let whole : take (64 * n) text ≡ text = take_all (64 * n) text all in
    let place : length file ≡ mark + length text = omega (arith, length-drop mark file) in
    inr (length text, unfinished, subst (λ t. HasFault t (length t) unfinished) whole fault, ap (λ k. Some (malformed unfinished k)) place)

-- the same, by the values that the code computed
pub reads_by : (file : List ℕ) (mark : ℕ) (records : List (List Field)) (blocks : List ℕ) (last : Option ℕ) (widths counted : Widths) (was is : Bool) → was ≡ is
    → ReadsAsRecords file mark records blocks (end_if was (length file)) (counted_if was widths) → last ≡ end_if is (length file) → counted ≡ counted_if is widths
    → ReadsAsRecords file mark records blocks last counted
reads_by file mark records blocks last widths counted was is same r l c =
    subst (λ w. ReadsAsRecords file mark records blocks last w) (ap (λ t. counted_if t widths) same ∙ sym c)
    (subst (λ o. ReadsAsRecords file mark records blocks o (counted_if was widths)) (ap (λ t. end_if t (length file)) same ∙ sym l) r)
