-- Fields and records byte by byte.
use Rattle.std.proofs.Common.{◌≡◌, ◌∙◌, ℕ, List, [], ◌∷◌, ◌++◌, map, ap, refl, sym, append_assoc, append-nil, length-append, arith}
use Rattle.std.specs.List.{flat_map, AllByRecursion}
use Rattle.std.proofs.lemmas.List.{map-append}
use Rattle.csv_grammar.specs.Bytes.{comma, double_quote}
use Rattle.csv_grammar.specs.Records.{Field, unquoted, quoted, IsField, doubled, print_field, print_record}
use Rattle.csv_records.specs.Exchange.{EndsRecord, IsFirstField, IsFirstRecord, IsPlainFront, exchanged, exchanged_content}
use Rattle.csv_records.proofs.DoubledLemmas.{doubled-append}

pub exchanged_twice : (separator byte : ℕ) → exchanged separator (exchanged separator byte) ≡ byte
exchanged_twice separator byte = grind (arith, refl {A = ℕ})

all_twice : (separator : ℕ) (bytes : List ℕ) → map (exchanged separator) (map (exchanged separator) bytes) ≡ bytes
all_twice separator [] = refl
all_twice separator (byte ∷ bytes) =
    ap (λ (b : ℕ). b ∷ map (exchanged separator) (map (exchanged separator) bytes)) (exchanged_twice separator byte)
    ∙ ap (λ (l : List ℕ). byte ∷ l) (all_twice separator bytes)

pub quoted_field : (separator : ℕ) (text inside cell rest : List ℕ) → text ≡ double_quote ∷ inside → inside ≡ doubled (map (exchanged separator) cell) ++ double_quote ∷ rest
    → IsFirstField separator text cell rest
quoted_field separator text inside cell rest e f = record {
  field = quoted (map (exchanged separator) cell);
  is = tt;
  cell_is = sym (all_twice separator cell);
  printed = e ∙ ap (λ (l : List ℕ). double_quote ∷ l) (f ∙ sym (append_assoc (doubled (map (exchanged separator) cell)) (double_quote ∷ []) rest));
}

pub plain_field : (separator : ℕ) (text cell rest : List ℕ) → IsPlainFront separator text cell rest → IsFirstField separator text cell rest
plain_field separator text cell rest front = record {
  field = unquoted (map (exchanged separator) cell);
  is = front.plain;
  cell_is = sym (all_twice separator cell);
  printed = front.printed;
}

pub inside_more : (separator byte : ℕ) (cell text left rest : List ℕ) → text ≡ doubled (map (exchanged separator) cell) ++ left → left ≡ doubled (byte ∷ []) ++ rest
    → text ≡ doubled (map (exchanged separator) (cell ++ exchanged separator byte ∷ [])) ++ rest
inside_more separator byte cell text left rest e f =
    let one : map (exchanged separator) (cell ++ exchanged separator byte ∷ []) ≡ map (exchanged separator) cell ++ byte ∷ [] =
    map-append (exchanged separator) cell (exchanged separator byte ∷ [])
    ∙ ap (λ (b : ℕ). map (exchanged separator) cell ++ b ∷ []) (exchanged_twice separator byte) in
    let two : doubled (map (exchanged separator) (cell ++ exchanged separator byte ∷ [])) ≡ doubled (map (exchanged separator) cell) ++ doubled (byte ∷ []) =
    ap doubled one ∙ doubled-append (map (exchanged separator) cell) (byte ∷ []) in
    e ∙ ap (λ (l : List ℕ). doubled (map (exchanged separator) cell) ++ l) f
    ∙ sym (append_assoc (doubled (map (exchanged separator) cell)) (doubled (byte ∷ [])) rest)
    ∙ ap (λ (l : List ℕ). l ++ rest) (sym two)

pub all_push : {X : Type 0} (P : X → Type 0) (xs : List X) (x : X) → AllByRecursion P xs → P x → AllByRecursion P (xs ++ x ∷ [])
all_push P [] x each here = (here, tt)
all_push P (y ∷ xs) x each here = (each.0, all_push P xs x each.1 here)

-- a field with the comma after it
abbrev pub with_comma : Field → List ℕ
with_comma field = print_field field ++ comma ∷ []

-- fields so far, each with a comma after it
pub record AreClosed (separator : ℕ) (text left : List ℕ) (cells : List (List ℕ)) : Type 0 where
  pub fields : List Field
  pub each : AllByRecursion IsField fields
  pub printed : text ≡ flat_map with_comma fields ++ left
  pub cells_are : cells ≡ map (exchanged_content separator) fields

pub record_push : (fields : List Field) (last : Field) → print_record (fields ++ last ∷ []) ≡ flat_map with_comma fields ++ print_field last
record_push [] last = refl
record_push (field ∷ []) last = regroup (print_field field) (print_field last)
  where
    regroup : (a b : List ℕ) → a ++ comma ∷ b ≡ ((a ++ comma ∷ []) ++ []) ++ b
    regroup a b = simp (append_assoc, append-nil)
record_push (field ∷ next ∷ fields) last =
    ap (λ bytes. print_field field ++ comma ∷ bytes) (record_push (next ∷ fields) last) ∙ regroup (print_field field) (flat_map with_comma (next ∷ fields)) (print_field last)
  where
    regroup : (a b c : List ℕ) → a ++ comma ∷ (b ++ c) ≡ ((a ++ comma ∷ []) ++ b) ++ c
    regroup a b c = simp append_assoc

flat_push : (fields : List Field) (last : Field) → flat_map with_comma (fields ++ last ∷ []) ≡ flat_map with_comma fields ++ with_comma last
flat_push [] last = append-nil (with_comma last)
flat_push (field ∷ fields) last = ap (λ bytes. with_comma field ++ bytes) (flat_push fields last) ∙ sym (append_assoc (with_comma field) (flat_map with_comma fields) (with_comma last))

pub closed_none : (separator : ℕ) (text : List ℕ) → AreClosed separator text text []
closed_none separator text = record { fields = []; each = tt; printed = refl; cells_are = refl }

pub closed_more : (separator : ℕ) (text left cell rest next : List ℕ) (cells : List (List ℕ)) → AreClosed separator text left cells → IsFirstField separator left cell rest
    → rest ≡ comma ∷ next → AreClosed separator text next (cells ++ cell ∷ [])
closed_more separator text left cell rest next cells so first e = record {
  fields = so.fields ++ first.field ∷ [];
  each = all_push IsField so.fields first.field so.each first.is;
  printed = so.printed ∙ ap (λ (l : List ℕ). flat_map with_comma so.fields ++ l) (first.printed ∙ ap (λ (l : List ℕ). print_field first.field ++ l) e)
      ∙ regroup (flat_map with_comma so.fields) (print_field first.field) next ∙ ap (λ (l : List ℕ). l ++ next) (sym (flat_push so.fields first.field));
  cells_are = ap (λ (l : List (List ℕ)). l ++ cell ∷ []) so.cells_are ∙ ap (λ (l : List ℕ). map (exchanged_content separator) so.fields ++ l ∷ []) first.cell_is
      ∙ sym (map-append (exchanged_content separator) so.fields (first.field ∷ []));
}
  where
    regroup : (a b c : List ℕ) → a ++ (b ++ comma ∷ c) ≡ (a ++ (b ++ comma ∷ [])) ++ c
    regroup a b c = simp append_assoc

pub record_read : (separator : ℕ) (text left cell rest after : List ℕ) (cells : List (List ℕ)) → AreClosed separator text left cells → IsFirstField separator left cell rest
    → EndsRecord rest after → IsFirstRecord separator text (cells ++ cell ∷ []) after
record_read separator text left cell rest after cells so first ends = record {
  fields = so.fields ++ first.field ∷ [];
  is = (omega (arith, length-append so.fields (first.field ∷ [])), all_push IsField so.fields first.field so.each first.is);
  cells_are = ap (λ (l : List (List ℕ)). l ++ cell ∷ []) so.cells_are ∙ ap (λ (l : List ℕ). map (exchanged_content separator) so.fields ++ l ∷ []) first.cell_is
      ∙ sym (map-append (exchanged_content separator) so.fields (first.field ∷ []));
  after = rest;
  printed = so.printed ∙ ap (λ (l : List ℕ). flat_map with_comma so.fields ++ l) first.printed
      ∙ sym (append_assoc (flat_map with_comma so.fields) (print_field first.field) rest) ∙ ap (λ (l : List ℕ). l ++ rest) (sym (record_push so.fields first.field));
  ends = ends;
}
