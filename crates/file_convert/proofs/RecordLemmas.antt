-- The records of a text, one after another.
use Rattle.std.proofs.Common.{◌≡◌, ◌∙◌, ℕ, ◌+◌, ◌<◌, List, [], ◌∷◌, ◌++◌, length, map, ap, refl, sym, subst, append_assoc, append-nil, length-append, arith, inl, inr}
use Rattle.std.specs.Prelude.{Option, None, Some, option_to_list, IfSome}
use Rattle.std.specs.List.{flat_map}
use Rattle.csv_grammar.specs.Records.{Field, IsLast, Line, LineBreak, crlf, lf, AreRecords, print_break, print_last, print_line, print_record}
use Rattle.csv_records.specs.Exchange.{EndsRecord, IsFirstRecord}

pub no_records : AreRecords [] []
no_records = record { tree = record { lines = []; last = None }; valid = record { lines = tt; last = tt }; printed = refl; are = refl }

line_is_long : (line : Line) → 0 < length (print_line line)
line_is_long line = omega (arith, length-append (print_record line.fields) (print_break line.end), on line.end)
  where
    on : (end : LineBreak) → 0 < length (print_break end)
    on crlf = omega arith
    on lf = omega arith

nothing_printed : (lines : List Line) (last : Option (List Field)) → IfSome last IsLast → flat_map print_line lines ++ print_last last ≡ []
    → map (λ line. line.fields) lines ++ option_to_list last ≡ []
nothing_printed [] None valid e = refl
nothing_printed [] (Some fields) valid e = absurd (omega (arith, valid.1, ap length e))
nothing_printed (line ∷ lines) last valid e =
    absurd (omega (
      arith,
      line_is_long line,
      ap length e,
      length-append (print_line line ++ flat_map print_line lines) (print_last last),
      length-append (print_line line) (flat_map print_line lines),
    ))

empty_text : (records : List (List Field)) → AreRecords [] records → records ≡ []
empty_text records are = are.are ∙ nothing_printed are.tree.lines are.tree.last are.valid.last (sym are.printed)

pub first_more : (separator : ℕ) (text : List ℕ) (cells : List (List ℕ)) (rest : List ℕ) (first : IsFirstRecord separator text cells rest) → 0 < length text
    → (more : List (List Field)) → AreRecords rest more → AreRecords text (first.fields ∷ more)
first_more separator text cells rest first long more are = on first.ends
  where
    on : EndsRecord first.after rest → AreRecords text (first.fields ∷ more)
    on (inl (end, e)) = record {
      tree = record { lines = record { fields = first.fields; end = end } ∷ are.tree.lines; last = are.tree.last };
      valid = record { lines = (first.is, are.valid.lines); last = are.valid.last };
      printed = first.printed ∙ ap (λ (l : List ℕ). print_record first.fields ++ l) (e ∙ ap (λ (l : List ℕ). print_break end ++ l) are.printed)
          ∙ regroup (print_record first.fields) (print_break end) (flat_map print_line are.tree.lines) (print_last are.tree.last);
      are = ap (λ (l : List (List Field)). first.fields ∷ l) are.are;
    }
      where
        regroup : (a b c d : List ℕ) → a ++ (b ++ (c ++ d)) ≡ ((a ++ b) ++ c) ++ d
        regroup a b c d = simp append_assoc
    on (inr (e, none)) =
        let whole : text ≡ print_record first.fields = first.printed ∙ ap (λ (l : List ℕ). print_record first.fields ++ l) e ∙ append-nil (print_record first.fields) in
        let nothing : more ≡ [] = empty_text more (subst (λ (l : List ℕ). AreRecords l more) none are) in
        record {
          tree = record { lines = []; last = Some first.fields };
          valid = record { lines = tt; last = (first.is, subst (λ (l : List ℕ). 0 < length l) whole long) };
          printed = whole;
          are = ap (λ (l : List (List Field)). first.fields ∷ l) nothing;
        }

pub shorter : (separator : ℕ) (text : List ℕ) (cells : List (List ℕ)) (rest : List ℕ) → IsFirstRecord separator text cells rest → 0 < length text → length rest < length text
shorter separator text cells rest first long = on first.ends
  where
    parts : length text ≡ length (print_record first.fields) + length first.after
    parts = ap length first.printed ∙ length-append (print_record first.fields) first.after

    long_break : (end : LineBreak) → 0 < length (print_break end)
    long_break crlf = omega arith
    long_break lf = omega arith

    on : EndsRecord first.after rest → length rest < length text
    on (inl (end, e)) = omega (arith, parts, long_break end, ap length e, length-append (print_break end) rest)
    on (inr (e, none)) = omega (arith, long, ap length none)
