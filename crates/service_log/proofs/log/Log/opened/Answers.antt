use Rattle.std.proofs.Common.{◌≡◌, ◌+◌, ◌∙◌, ℕ, min, refl}
use Rattle.service_log.specs.declared.log.Tally.{Tally}
use Rattle.service_log.specs.Log.{opened_text, tally_after_open}
use Rattle.service_log.specs.Work.{most_counted}
use Rattle.service_log.proofs.log.Log.opened.Goals as goal

counted : (tally : Tally) (places opened : ℕ) → places ≡ min (tally.places + 1) most_counted → opened ≡ min (tally.opened + 1) most_counted
    → record tally { places = places; opened = opened } ≡ tally_after_open tally
counted tally places opened p o = rw (p, o) refl

pub returns : goal.returns
returns c =
    let logs = c.line.ensures (opened_text c.args.place) c.opened_line.ensures in
    record {
      lines = logs.lines;
      writes = logs.writes;
      tally_is = logs.tally_is ∙ counted _ _ _ c.saturating_add-self.ensures c.saturating_add-self-2.ensures;
      minute_is = logs.minute_is;
    }
