pub mod CountLemmas
pub mod LineLemmas
pub mod TableLemmas
pub mod FaultLemmas
pub mod PieceLemmas
