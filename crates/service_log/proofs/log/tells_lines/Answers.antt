use Rattle.std.proofs.Common.{ℕ, List, [], ◌∷◌, ◌++◌, codes, refl}
use Rattle.std.specs.Fmt.{decimal}
use Rattle.text_escapes.specs.Laws.{IsOneLine}
use Rattle.exit_statuses.specs.Laws.{FaultsAreOneLine}
use Rattle.exit_statuses.specs.Text.{fault_text}
use Rattle.service_log.specs.declared.log.CloseReason.{CloseReason}
use Rattle.service_log.specs.declared.log.CloseReason.TheVariants.{Answered, Lost, Slow, TooLong, NoMemory}
use Rattle.service_log.specs.Log.{or_unknown, reason_text}
use Rattle.service_log.proofs.log.tells_lines.Goals as goal

module _ (lines : FaultsAreOneLine) where
  placed : (word : List ℕ) (place : ℕ) → IsOneLine word → IsOneLine (word ++ decimal place)
  placed word place h = lines.joined word (decimal place) h (lines.numbers place)

  reason_line : (reason : CloseReason) → IsOneLine (reason_text reason)
  reason_line Answered = lines.printable (codes "answered") refl
  reason_line Lost = lines.printable (codes "lost") refl
  reason_line Slow = lines.printable (codes "slow") refl
  reason_line TooLong = lines.printable (codes "too long") refl
  reason_line NoMemory = lines.printable (codes "out of memory") refl

  ended_line : (place : ℕ) (reason : CloseReason) → IsOneLine ((codes "ended " ++ decimal place ++ codes " ") ++ reason_text reason)
  ended_line place reason =
      lines.joined (codes "ended " ++ decimal place ++ codes " ") (reason_text reason)
      (lines.joined (codes "ended " ++ decimal place) (codes " ") (placed (codes "ended ") place (lines.printable (codes "ended ") refl))
      (lines.printable (codes " ") refl))
      (reason_line reason)

  number_line : (word : List ℕ) (n : ℕ) (more : List ℕ) → IsOneLine word → IsOneLine more → IsOneLine (word ++ decimal n ++ more)
  number_line word n more h k = lines.joined (word ++ decimal n) more (lines.joined word (decimal n) h (lines.numbers n)) k

  known_line : (text : List ℕ) → IsOneLine text → IsOneLine (or_unknown text)
  known_line [] h = lines.printable (codes "not reloaded: a device failed or memory ran out") refl
  known_line (b ∷ text) h = h

pub returns : goal.returns
returns c =
    let lines = c.faults_are_one_line.ensures in record {
      opened = λ place. placed lines (codes "opened ") place (lines.printable (codes "opened ") refl);
      ended = ended_line lines;
      reloaded = λ loaded.
          number_line lines _ loaded.millis (codes " ms")
          (number_line lines _ loaded.rows (codes " rows, ")
          (number_line lines (codes "reloaded ") loaded.tables (codes " tables, ") (lines.printable (codes "reloaded ") refl) (lines.printable (codes " tables, ") refl))
          (lines.printable (codes " rows, ") refl))
          (lines.printable (codes " ms") refl);
      minute = λ tally. lines.joined _ _
          (lines.joined _ _
          (lines.joined _ _
          (lines.joined _ (codes "opened")
          (number_line lines _ tally.opened (codes " ")
          (number_line lines (codes "minute: ") tally.places (codes " places, ") (lines.printable (codes "minute: ") refl) (lines.printable (codes " places, ") refl))
          (lines.printable (codes " ") refl))
          (lines.printable (codes "opened") refl))
          (lines.joined _ (codes "bytes")
          (number_line lines _ tally.work.bytes (codes " ")
          (number_line lines (codes ", ") tally.work.requests (codes " requests, ") (lines.printable (codes ", ") refl) (lines.printable (codes " requests, ") refl))
          (lines.printable (codes " ") refl))
          (lines.printable (codes "bytes") refl)))
          (lines.joined _ (codes "us")
          (number_line lines (codes ", longest turn ") tally.work.longest (codes " ") (lines.printable (codes ", longest turn ") refl) (lines.printable (codes " ") refl))
          (lines.printable (codes "us") refl)))
          (lines.joined _ (codes "s old")
          (number_line lines _ tally.age (codes " ")
          (number_line lines (codes ", ") tally.reloads (codes " reloads, ") (lines.printable (codes ", ") refl) (lines.printable (codes " reloads, ") refl))
          (lines.printable (codes " ") refl))
          (lines.printable (codes "s old") refl));
      refused = λ taken fault met. known_line lines (fault_text fault) (lines.texts taken fault met);
    }
