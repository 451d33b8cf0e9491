mod EventLemmas
mod LingeringLemmas
mod PlaceLemmas
mod ServerLemmas
mod SocketLemmas
