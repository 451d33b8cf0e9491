-- The points stand where more characters follow.
use Rattle.std.proofs.Common.{◌≡◌, ◌∙◌, ◌++◌, ℕ, List, ap, append-nil, chars, codes, length, string_bytes, sym}
use Rattle.std.proofs.lemmas.Bool.{le-ltb, lt-ltb}
use Rattle.std.proofs.lemmas.Iterator.{YieldsList-from_chars}
use Rattle.std.proofs.lemmas.Iterator.Consumers.{count_from_yields_List}
use Rattle.text_escapes.specs.Escapes.{escaped as escaped_text}
use Rattle.diagnostics.specs.Text.{with_mark}
use Rattle.diagnostics.specs.declared.text.TheConstants.{MOST_CHARACTERS}
use Rattle.diagnostics.proofs.text.marked.Goals.{then-count-gt-MOST_CHARACTERS+in_ok-push_str, else-count-gt-MOST_CHARACTERS}
use Rattle.diagnostics.proofs.text.marked.Goals as goal

pub returns : goal.returns
returns c =
    let text = c.args.text.now in
    let line = escaped_text c.args.front.now in
    let count : c.count.result ≡ length (chars text) =
    count_from_yields_List c.chars.result c.count.result c.count.ensures.ran (YieldsList-from_chars text c.utf8.text c.chars.ensures.rest) in
    elim c.if-count-gt-MOST_CHARACTERS.branch [
      | then-count-gt-MOST_CHARACTERS+in_ok-push_str w ↦
          ap string_bytes w.line-is ∙ w.in_ok-push_str.ensures.bytes ∙ ap (λ (ns : List ℕ). ns ++ codes "...") c.in_ok-line.ensures
          ∙ ap (with_mark line) (sym (lt-ltb MOST_CHARACTERS (length (chars text)) (rw (← count) w.if-count-gt-MOST_CHARACTERS.true)))
      | else-count-gt-MOST_CHARACTERS w ↦
          ap string_bytes w.line-is ∙ c.in_ok-line.ensures ∙ sym (append-nil line)
          ∙ ap (with_mark line) (sym (le-ltb MOST_CHARACTERS (length (chars text)) (rw (← count) w.if-count-gt-MOST_CHARACTERS.false)))
    ]
