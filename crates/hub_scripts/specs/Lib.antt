pub mod Answers
pub mod Replay
pub mod ScriptFile
pub mod Laws
