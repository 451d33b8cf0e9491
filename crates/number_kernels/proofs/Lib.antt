pub mod LaneLemmas
pub mod OperandLemmas
