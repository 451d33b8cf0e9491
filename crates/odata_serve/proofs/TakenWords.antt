-- Words that `clap` takes ask for something.
use Rattle.std.proofs.Common.{◌≡◌, ◌∙◌, ◌<◌, ◌^◌, ℕ, Bool, cond, true, false, refl, sym, ap, ap₂, subst, List, [], Option, Some, None, inl, inr, codes, arith}
use Rattle.std.specs.Prelude.{option_and_then, option_map, pos, slice_get}
use Rattle.std.specs.Option.{option_map_or}
use Rattle.std.specs.Borrow.{Bor}
use Rattle.clap.specs.Facts.{parser_of_value, unwrap_or_range}
use Rattle.clap.specs.Lexer.{without_minus}
use Rattle.clap.specs.Values.{read_as, reading_of}
use Rattle.clap.specs.ValueTests.{accepts}
use Rattle.clap.specs.Faults.{entered_fault, fault_of, level_fault}
use Rattle.clap.specs.Walk.{Row, Rule, Text, action_of, answers_to, arg_by_id, first_of, nothing_held, one_of, row_text, rows_after, stop_after}
use Rattle.clap.specs.Simple.{Shape, argument_words, built, built_leaf, entered, inherited, label_of, marked_built, names_of, on_top, rows_at, subcommand_of, with_leaf_noted}
use Rattle.clap.specs.declared.builder.action.ArgAction.TheVariants.{Help, Set}
use Rattle.clap.specs.declared.builder.value_parser.Reading.{Reading}
use Rattle.clap.specs.declared.builder.value_parser.ValueParser.{ValueParser}
use Rattle.clap.specs.declared.builder.value_parser.ValueParser.TheVariants as parser
use Rattle.clap.proofs.OnLiterals.{clap_on_literals}
use Rattle.clap.proofs.ValueTestLemmas.{accepts-Accepts}
use Rattle.cli_args.specs.Words.{IsNumberOfBits}
use Rattle.odata_serve.specs.Words.{SaysWords, folder_and_app, folder_app, program_app, serve_app}
use Rattle.odata_serve.specs.declared.words.Words.{Words}
use Rattle.odata_serve.specs.declared.words.Words.TheVariants.{Nothing, Check, Query, Answer, Replay, Serve}
use Rattle.odata_serve.proofs.Numbers.{number_taken}
use Rattle.odata_serve.proofs.PlainRules.{ArePlain, IsPlainRule, both_none}
use Rattle.odata_serve.proofs.WalkRows.{HasOne, required_rows}

-- a subcommand as the built command has it
abbrev leaf : Shape → Shape
leaf s = built_leaf (inherited (on_top with_leaf_noted (on_top marked_built program_app)).top s)

abbrev check : Shape
check = leaf (folder_app (codes "check")).top

abbrev query : Shape
query = leaf (folder_and_app (codes "query") (codes "target")).top

abbrev answer : Shape
answer = leaf (folder_and_app (codes "answer") (codes "file")).top

abbrev replay : Shape
replay = leaf (folder_and_app (codes "replay") (codes "script")).top

abbrev serve : Shape
serve = leaf serve_app.top

one : {c : List Rule} {a : Rule} → arg_by_id c a.id ≡ Some a → action_of a ≡ Set
    → unwrap_or_range a.range ≡ record { start_inclusive = 1; end_inclusive = 1 } → a.defaults ≡ [] → IsPlainRule c a
one own set range bare = record { own = own; kind = inl (record { action = set; range = range }); bare = bare }

help : {c : List Rule} {a : Rule} → arg_by_id c a.id ≡ Some a → action_of a ≡ Help → a.defaults ≡ [] → IsPlainRule c a
help own asks bare = record { own = own; kind = inr asks; bare = bare }

check_plain : ArePlain check.rules check.rules
unfolding clap_on_literals
check_plain = (one refl refl refl refl, (help refl refl refl, tt))

query_plain : ArePlain query.rules query.rules
unfolding clap_on_literals
query_plain = (one refl refl refl refl, (one refl refl refl refl, (help refl refl refl, tt)))

answer_plain : ArePlain answer.rules answer.rules
unfolding clap_on_literals
answer_plain = (one refl refl refl refl, (one refl refl refl refl, (help refl refl refl, tt)))

replay_plain : ArePlain replay.rules replay.rules
unfolding clap_on_literals
replay_plain = (one refl refl refl refl, (one refl refl refl refl, (help refl refl refl, tt)))

serve_plain : ArePlain serve.rules serve.rules
unfolding clap_on_literals
serve_plain = (one refl refl refl refl, (one refl refl refl refl, (one refl refl refl refl, (help refl refl refl, tt))))

-- the text of an argument that has one
text_read : (a : Rule) (rows : List Row) → HasOne a rows → (v : Text) × (first_of a.id rows ≡ Some v)
text_read a rows h = (
  h.2.value,
  ap (option_and_then (λ (r : Row). slice_get r.values 0)) h.1 ∙ ap (λ (vs : List Text). slice_get vs 0) h.2.values,
)

-- and its number
number_read : (a : Rule) (rows : List Row) (bits high : ℕ) → a.parser ≡ Some (parser.Signed (pos 0) (pos high)) → high < 2 ^ bits → HasOne a rows
    → (n : ℕ) × IsNumberOfBits bits (one_of a.id rows) n
number_read a rows bits high is fits h =
    let v = h.2.value in
    let accepted = subst (λ (p : Option ValueParser). accepts a.ignore_case (parser_of_value p) v ≡ true) is h.2.accepted in
    let inside = accepts-Accepts a.ignore_case (parser.Signed (pos 0) (pos high)) v accepted in
    let how = h.2.reading ∙ ap (λ (p : Option ValueParser). reading_of (parser_of_value p)) is in
    let text : one_of a.id rows ≡ Some (without_minus v) =
    ap (option_and_then row_text) h.1
    ∙ ap₂ (λ (r : Reading) (vs : List Text). option_map (read_as r) (slice_get vs 0)) how h.2.values in
    let number = number_taken bits high v fits inside in
    (number.0, subst (λ (o : Option Text). IsNumberOfBits bits o number.0) (sym text) number.1)

-- a reference to a text
abbrev to : Text → Bor Text
to text = record { ref_ptr = (0, 0); now = text }

check_asks : (words : List Text) → level_fault check [] nothing_held words false [] ≡ [] → (w : Words) × SaysWords w (Some (rows_at check words))
check_asks words e =
    let rows = rows_after check.rules [] words in
    let given = required_rows check words check_plain refl refl e in
    let folder = text_read _ rows (given.0 refl) in
    (Check (to folder.0), (refl, folder.1))

query_asks : (words : List Text) → level_fault query [] nothing_held words false [] ≡ [] → (w : Words) × SaysWords w (Some (rows_at query words))
query_asks words e =
    let rows = rows_after query.rules [] words in
    let given = required_rows query words query_plain refl refl e in
    let folder = text_read _ rows (given.0 refl) in
    let target = text_read _ rows (given.1.0 refl) in
    (Query (to folder.0) (to target.0), (refl, folder.1, target.1))

answer_asks : (words : List Text) → level_fault answer [] nothing_held words false [] ≡ [] → (w : Words) × SaysWords w (Some (rows_at answer words))
answer_asks words e =
    let rows = rows_after answer.rules [] words in
    let given = required_rows answer words answer_plain refl refl e in
    let folder = text_read _ rows (given.0 refl) in
    let file = text_read _ rows (given.1.0 refl) in
    (Answer (to folder.0) (to file.0), (refl, folder.1, file.1))

replay_asks : (words : List Text) → level_fault replay [] nothing_held words false [] ≡ [] → (w : Words) × SaysWords w (Some (rows_at replay words))
replay_asks words e =
    let rows = rows_after replay.rules [] words in
    let given = required_rows replay words replay_plain refl refl e in
    let folder = text_read _ rows (given.0 refl) in
    let script = text_read _ rows (given.1.0 refl) in
    (Replay (to folder.0) (to script.0), (refl, folder.1, script.1))

serve_asks : (words : List Text) → level_fault serve [] nothing_held words false [] ≡ [] → (w : Words) × SaysWords w (Some (rows_at serve words))
serve_asks words e =
    let rows = rows_after serve.rules [] words in
    let given = required_rows serve words serve_plain refl refl e in
    let folder = text_read _ rows (given.0 refl) in
    let port = number_read _ rows 16 65535 refl (omega arith) (given.1.0 refl) in
    let connections = number_read _ rows 32 4294967295 refl (omega arith) (given.1.1.0 refl) in
    (Serve (to folder.0) port.0 connections.0, (refl, folder.1, port.1, connections.1))

-- what a subcommand that was entered without a fault asks for
entered_asks : (stop : Option (Text × List Text)) → entered_fault (built program_app) stop ≡ [] → (w : Words) × SaysWords w (entered (built program_app) stop)
entered_asks None e = (Nothing, refl)
entered_asks (Some p) e =
    go (answers_to p.0 (label_of check)) (answers_to p.0 (label_of query)) (answers_to p.0 (label_of answer)) (answers_to p.0 (label_of replay))
    (answers_to p.0 (label_of serve)) e
  where
    found : Bool → Bool → Bool → Bool → Bool → Option Shape
    found a b c d s = cond a (Some check) (cond b (Some query) (cond c (Some answer) (cond d (Some replay) (cond s (Some serve) None))))

    go : (a b c d s : Bool) → option_map_or (λ s. level_fault s [] nothing_held p.1 false []) (found a b c d s) [] ≡ []
        → (w : Words) × SaysWords w (option_map (λ s. rows_at s p.1) (found a b c d s))
    go true b c d s e = check_asks p.1 e
    go false true c d s e = query_asks p.1 e
    go false false true d s e = answer_asks p.1 e
    go false false false true s e = replay_asks p.1 e
    go false false false false true e = serve_asks p.1 e
    go false false false false false e = (Nothing, refl)

-- words that are taken ask for something
pub taken_asks : (line : List Text) → fault_of program_app line ≡ [] → (w : Words) × SaysWords w (subcommand_of program_app line)
taken_asks line e =
    let top = built program_app in
    let stop = stop_after top.top.rules (names_of top) (argument_words program_app line) in
    entered_asks stop (both_none (entered_fault top stop) _ (both_none _ _ e).1).0
