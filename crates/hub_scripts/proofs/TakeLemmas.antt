-- Lines of bytes that were taken.
use Rattle.std.proofs.Common.{◌≡◌, ℕ, List, Result, Ok, Err, sym, subst}
use Rattle.std.specs.Prelude.{IfOk, Vec}
use Rattle.odata_hub.specs.declared.hub.Hub.{Hub}
use Rattle.odata_hub.specs.declared.answers.HubFault.{HubFault}
use Rattle.odata_hub.specs.Connections.{Answer, Gave, Refused, Take}
use Rattle.odata_hub.specs.Schedules.{Event, On}
use Rattle.odata_hub.specs.Stands.{IsHubStep}
use Rattle.hub_scripts.specs.Answers.{HubAnswers, answer_line}

-- the hub answered an event, and the line of the answer was made
answers_line : {A E : Type 0} (event : Event) (old new : Hub) (answer : Answer) (r : Result (Vec ℕ A) E) → IsHubStep old event answer new
    → IfOk r (λ line. line.items ≡ answer_line answer) → IfOk r (λ line. HubAnswers event old new line.items)
answers_line event old new answer (Ok line) step is = record { answer = answer; step = step; text_is = is }
answers_line event old new answer (Err fault) step is = tt

-- the bytes that were taken, of a buffer of this length
pub gives_line : {A E : Type 0} (place length room : ℕ) (old new : Hub) (given taken : List ℕ) (r : Result (Vec ℕ A) E) → length ≡ room → given ≡ taken
    → IsHubStep old (On place (Take length)) (Gave taken) new
    → IfOk r (λ line. line.items ≡ answer_line (Gave given)) → IfOk r (λ line. HubAnswers (On place (Take room)) old new line.items)
gives_line place n room old new given taken r e same step is =
    answers_line (On place (Take room)) old new (Gave given) r
    (subst (λ (bytes : List ℕ). IsHubStep old (On place (Take room)) (Gave bytes) new) (sym same)
    (subst (λ (k : ℕ). IsHubStep old (On place (Take k)) (Gave taken) new) e step)) is

pub refuses_line : {A E : Type 0} (place length room : ℕ) (old new : Hub) (fault : HubFault) (r : Result (Vec ℕ A) E) → length ≡ room
    → IsHubStep old (On place (Take length)) (Refused fault) new
    → IfOk r (λ line. line.items ≡ answer_line (Refused fault)) → IfOk r (λ line. HubAnswers (On place (Take room)) old new line.items)
refuses_line place n room old new fault r e step is =
    answers_line (On place (Take room)) old new (Refused fault) r (subst (λ (k : ℕ). IsHubStep old (On place (Take k)) (Refused fault) new) e step) is
