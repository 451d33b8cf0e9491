mod ReloadLemmas
mod RoundLemmas
mod ServingLemmas
mod TurnLemmas
