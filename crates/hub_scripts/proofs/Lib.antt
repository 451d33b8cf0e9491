pub mod TakeLemmas
pub mod CommandLemmas
pub mod ReplayLemmas
pub mod ScriptLemmas
