mod LaneLemmas
mod OffsetLemmas
