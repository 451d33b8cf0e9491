pub mod ListLaws
pub mod KeptLaws
pub mod CodeLaws
mod CodeLemmas
