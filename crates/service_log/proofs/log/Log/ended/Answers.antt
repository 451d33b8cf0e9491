use Rattle.std.proofs.Common.{◌≡◌, ◌-◌, ◌∙◌, IfOk, List, string_bytes, subst, ℕ, refl}
use Rattle.service_log.specs.declared.log.Tally.{Tally}
use Rattle.service_log.specs.Log.{as_line, ended_text, reason_text, tally_after_end}
use Rattle.service_log.proofs.log.Log.ended.Goals as goal

counted : (tally : Tally) (places : ℕ) → places ≡ tally.places - 1 → record tally { places = places } ≡ tally_after_end tally
counted tally places p = rw p refl

-- the line has the text of the reason
pub returns : goal.returns
returns c =
    let Has : List ℕ → Type 0 = λ reason. IfOk c.ended_line.result (λ line. string_bytes line ≡ as_line (ended_text c.args.place reason)) in
    let logs = c.line.ensures (ended_text c.args.place (reason_text c.args.reason)) (subst Has c.text.ensures c.ended_line.ensures) in
    record {
      lines = logs.lines;
      writes = logs.writes;
      tally_is = logs.tally_is ∙ counted _ _ c.saturating_sub-self.ensures;
      minute_is = logs.minute_is;
    }
