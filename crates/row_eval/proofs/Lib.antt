mod CharPlaces
mod PartLemmas
mod DateLemmas
mod FaultLemmas
